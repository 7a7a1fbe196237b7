-- A line's neighbours by coordinates, and what the union of a line with them asks and does.
-- Assumes nothing.
use Rattle.std.specs.Prelude.{◌≡◌, cond, List, map, ℕ, suc, ◌+◌, ◌*◌, ◌^◌, ◌≤◌, ◌<◌, ℤ, pos, length, get_or, take, drop}
use Rattle.groups.specs.Groups.{Edge}
use Rattle.frame.specs.Shape.{size, coords}
use Rattle.frame.specs.Memory.{stride}
use Rattle.frame.specs.Words.{line_start, parent_of, size_word, stored_run}
use Rattle.frame.specs.Touches.{has_nbr, nbr_line, touches_by, touches_of}
use Rattle.geo.specs.declared.Geo.{Geo}
use Rattle.geo.specs.Geometry.{leading_of, ThreeDims}
use Rattle.forest.specs.Forest.{root_sizes}
use Rattle.forest.specs.Unions.{United}
use Rattle.sweep.specs.declared.Nbr.{Nbr}
use Rattle.link.specs.Coordinates.{Move}
use Rattle.sweep.specs.Sweeps.{InOrder, link_pairs}
use Rattle.std.specs.Prelude.{Option, Some, None}

-- ---- coordinates in three dimensions

-- a line's leading coordinates as signed numbers
abbrev pub signed_coords : List ℕ → ℕ → List ℤ
signed_coords dims ℓ = map pos (coords dims ℓ)

-- three signed numbers are coordinates of three dimensions, and three others an offset
pub record Moves (dims : List ℕ) (c o : List ℤ) : Type 0 where
  pub first : Move (get_or c 0 (pos 0)) (get_or o 0 (pos 0)) (get_or dims 0 0)
  pub second : Move (get_or c 1 (pos 0)) (get_or o 1 (pos 0)) (get_or dims 1 0)
  pub third : Move (get_or c 2 (pos 0)) (get_or o 2 (pos 0)) (get_or dims 2 0)
  pub small : size dims < 4294967296

-- the neighbour of line ℓ by the offset with the digits ts, if it has one
unfoldable pub nbr_of : List ℕ → List ℕ → ℕ → Option ℕ
nbr_of ds ts ℓ = cond (has_nbr ds ts ℓ) (Some (nbr_line ds ts ℓ)) None

-- ---- the union of line ℓ, the last that there is, with its neighbours

-- how many runs there are, up to line ℓ
abbrev pub runs_to : List ℕ → ℕ → ℕ
runs_to ws ℓ = line_start ws (suc ℓ)

-- L lines, and the runs of those up to ℓ: their words are there, each line's runs are in order, no parent is above its run, and a word
-- holds the sum of the roots' sizes
pub record LinesReady (L : ℕ) (ws : List ℕ) (ℓ : ℕ) : Type 0 where
  pub within : ℓ < L
  pub room : L + 1 + stride * runs_to ws ℓ ≤ length ws
  pub sorted : (m : ℕ) → m ≤ ℓ → InOrder (stored_run L ws) (line_start ws m) (line_start ws (suc m))
  pub parents : (r : ℕ) → r < runs_to ws ℓ → parent_of L ws r ≤ r
  pub small : root_sizes (parent_of L ws) (size_word L ws) (runs_to ws ℓ) < 4294967296

-- what the union of line ℓ asks besides: the leading dimensions, and a structure of one dimension more
pub record LineReady (g : Geo) (structure ws : List ℕ) (ℓ : ℕ) : Type 0 where
  pub leading : ThreeDims g.leads g.dims g.lines
  pub bytes : 3 ^ suc g.leads ≤ length structure
  pub lines : LinesReady g.lines ws ℓ

-- from ws to ws' the edges of es were added, one after the other, to the grouping that the first n parents hold, and t of those
-- unions were joins. The line starts stand, and of the runs' words only group words changed
pub record UnitedIn (L : ℕ) (ws ws' : List ℕ) (n : ℕ) (es : List Edge) (t : ℕ) : Type 0 where
  pub starts : take (L + 1) ws' ≡ take (L + 1) ws
  pub runs : United (drop (L + 1) ws) (drop (L + 1) ws') n es t

-- the pairs of runs of line ℓ and line m that reach each other by three bytes
abbrev pub pairs_of : ℕ → List ℕ → ℕ → ℕ → Nbr → List Edge
pairs_of L ws ℓ m by =
    link_pairs by (stored_run L ws) (record { ca = line_start ws ℓ; cb = runs_to ws ℓ; na = line_start ws m; nb = runs_to ws m })

-- the touches of line ℓ, as the words hold its runs and those of its neighbours: by all offsets, and by the one with that code
abbrev pub touches_in : Geo → List ℕ → List ℕ → ℕ → List Edge
touches_in g structure ws ℓ = touches_of (leading_of g.leads g.dims) structure (line_start ws) (stored_run g.lines ws) ℓ

abbrev pub touches_by_in : Geo → List ℕ → List ℕ → ℕ → ℕ → List Edge
touches_by_in g structure ws ℓ code = touches_by (leading_of g.leads g.dims) structure (line_start ws) (stored_run g.lines ws) ℓ code

-- and what their unions do
abbrev pub LineUnited : Geo → List ℕ → List ℕ → List ℕ → ℕ → ℕ → Type 0
LineUnited g structure ws ws' ℓ t = UnitedIn g.lines ws ws' (runs_to ws ℓ) (touches_in g structure ws ℓ) t

abbrev pub UnitedBy : Geo → List ℕ → List ℕ → List ℕ → ℕ → ℕ → ℕ → Type 0
UnitedBy g structure ws ws' ℓ code t = UnitedIn g.lines ws ws' (runs_to ws ℓ) (touches_by_in g structure ws ℓ code) t
