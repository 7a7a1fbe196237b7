-- Touches: the pairs of runs that one leading offset joins.
-- Assumes nothing.
use Rattle.std.specs.Prelude.{Bool, true, false, cond, ◌&&◌, ◌||◌, List, [], ◌∷◌, ℕ, suc, ◌+◌, ◌-◌, ◌*◌, ◌/◌, ◌%◌, ◌^◌, ltb, leb, length}
use Rattle.groups.specs.Groups.{Edge, gather, pairs}
use Rattle.frame.specs.Shape.{size, leading}
use Rattle.frame.specs.Structure.{offset, backward, on}
use Rattle.frame.specs.Runs.{Run, runs_before, frame_run}

-- ---- reach

-- two stretches of columns that are not empty, [s, e) and [cs, ce), share a column
abbrev pub overlap : ℕ → ℕ → ℕ → ℕ → Bool
overlap s e cs ce = ltb s ce && ltb cs e

-- A neighbouring run [s, e) reaches current cells s+1 to e by offset byte -1 (prev), s to e-1 by byte 0 (adj), s-1 to e-2 by
-- byte +1 (next). By each: is one of those in the current run [cs, ce)? The last is moved right by one, as it may begin at -1
abbrev pub reach_prev : ℕ → ℕ → ℕ → ℕ → Bool
reach_prev s e cs ce = overlap (s + 1) (e + 1) cs ce

abbrev pub reach_adj : ℕ → ℕ → ℕ → ℕ → Bool
reach_adj s e cs ce = overlap s e cs ce

abbrev pub reach_next : ℕ → ℕ → ℕ → ℕ → Bool
reach_next s e cs ce = overlap s e (cs + 1) (ce + 1)

-- the neighbouring run m reaches the current run c by a byte that is nonzero
unfoldable pub reaches : Bool → Bool → Bool → Run → Run → Bool
reaches prev adj next m c =
    (prev && reach_prev m.start m.end c.start c.end)
    || ((adj && reach_adj m.start m.end c.start c.end) || (next && reach_next m.start m.end c.start c.end))

-- ---- leading offsets

-- a leading offset, an offset's part in the leading dimensions, has the three bytes that begin at three times its code. It is
-- used if lexicographically negative, with any of its three bytes nonzero
unfoldable pub used : List ℕ → ℕ → ℕ → Bool
used structure rank c = backward (offset rank c) && (on structure (3 * c) || (on structure (3 * c + 1) || on structure (3 * c + 2)))

-- The neighbour's line is found by coordinates: one coordinate out of range means no neighbour, even where the line number would
-- fit. Here ds are the leading dimensions and ts the offset's digits: has line ℓ that neighbour, and which line is it?
unfoldable pub has_nbr : List ℕ → List ℕ → ℕ → Bool
has_nbr [] ts ℓ = true
has_nbr (d ∷ ds) [] ℓ = false
has_nbr (d ∷ ds) (t ∷ ts) ℓ = (ltb 0 (ℓ / size ds + t) && leb (ℓ / size ds + t) d) && has_nbr ds ts (ℓ % size ds)

unfoldable pub nbr_line : List ℕ → List ℕ → ℕ → ℕ
nbr_line [] ts ℓ = 0
nbr_line (d ∷ ds) [] ℓ = 0
nbr_line (d ∷ ds) (t ∷ ts) ℓ = (ℓ / size ds + t - 1) * size ds + nbr_line ds ts (ℓ % size ds)

-- ---- touches

-- ds are the leading dimensions. Line ℓ has the runs from number S ℓ to before S (ℓ + 1), and R r is run r. An edge leads from
-- the current run to the neighbouring one
module _ (ds structure : List ℕ) (S : ℕ → ℕ) (R : ℕ → Run) where
  -- of line ℓ, by the leading offset with code c: each current run in turn, with each neighbouring run in turn
  unfoldable pub touches_by : ℕ → ℕ → List Edge
  touches_by ℓ c =
      let m = nbr_line ds (offset (length ds) c) ℓ in
      cond (used structure (length ds) c && has_nbr ds (offset (length ds) c) ℓ)
      (pairs (λ r s. reaches (on structure (3 * c)) (on structure (3 * c + 1)) (on structure (3 * c + 2)) (R s) (R r))
      (S ℓ) (S (suc ℓ) - S ℓ) (S m) (S (suc m) - S m)) []

  -- of line ℓ, by each leading offset in C order
  unfoldable pub touches_of : ℕ → List Edge
  touches_of ℓ = gather (touches_by ℓ) 0 (3 ^ length ds)

  -- of n lines, from line a on
  unfoldable pub touches : ℕ → ℕ → List Edge
  touches a n = gather touches_of a n

-- the touches of a frame's lines, n of them from line a on
abbrev pub frame_touches : List ℕ → List ℕ → List Bool → ℕ → ℕ → List Edge
frame_touches shape structure cells a n =
    touches (leading shape) structure (runs_before shape structure cells) (frame_run shape structure cells) a n

-- document 02's touches of those lines: how many pairs, "counted once for each offset"
unfoldable pub touch_count : List ℕ → List ℕ → List Bool → ℕ → ℕ → ℕ
touch_count shape structure cells a n = length (frame_touches shape structure cells a n)
