-- What extraction and union of the lines of a feed ask, and what they do. The new lines are k, after `fed` lines with `runs` runs.
-- Assumes nothing.
use Rattle.std.specs.Prelude.{◌≡◌, ◌≢◌, Bool, true, List, ℕ, suc, ◌+◌, ◌*◌, ◌^◌, ◌≤◌, ◌<◌, length, get_or, take}
use Rattle.groups.specs.Groups.{Edge, sum_over, gather, rep, joins, visit}
use Rattle.frame.specs.Runs.{nonzero_cells, Run, none, run_length, line_runs, line_of}
use Rattle.frame.specs.Touches.{touches}
use Rattle.frame.specs.Memory.{stride}
use Rattle.frame.specs.Words.{line_place, start_place, end_place, parent_place, size_place, line_start, run_start, run_end, parent_of, size_word}
use Rattle.frame.specs.Words.{stored_run, NoGroupWord}
use Rattle.runs.specs.declared.Counts.{Counts}
use Rattle.forest.specs.Forest.{root_of, grouping, Sums, brought}
use Rattle.sweep.specs.Sweeps.{InOrder}
use Rattle.geo.specs.declared.Geo.{Geo}
use Rattle.geo.specs.Geometry.{leading_of, ThreeDims}

-- ---- extraction

-- the runs of the first k lines of those flags, in order
unfoldable pub lines_runs : Bool → ℕ → List Bool → ℕ → List Run
lines_runs left w flags k = gather (λ ℓ. line_runs left (line_of w flags ℓ)) 0 k

-- how many cells of these lines are nonzero
unfoldable pub lines_cells : ℕ → List Bool → ℕ → ℕ
lines_cells w flags k = nonzero_cells (take (k * w) flags)

-- what it asks: the flags are those of k lines that the frame still has, and there is room for their runs, whose numbers words hold
pub record BlockRoom (left : Bool) (w L fed runs k : ℕ) (flags : List Bool) (ws : List ℕ) : Type 0 where
  pub whole : length flags ≡ k * w
  pub within : fed + k ≤ L
  pub short : w < 2147483647
  pub room : L + 1 + stride * (runs + length (lines_runs left w flags k)) ≤ length ws
  pub small : runs + length (lines_runs left w flags k) < 4294967296

-- place j is of none of the m new line starts, and of no start and no end of the n new runs
pub record Unwritten (L fed runs m n j : ℕ) : Type 0 where
  pub no_line : (i : ℕ) → i < m → j ≢ line_place (fed + suc i)
  pub no_start : (r : ℕ) → r < n → j ≢ start_place L (runs + r)
  pub no_end : (r : ℕ) → r < n → j ≢ end_place L (runs + r)

-- what it does: it counts the new runs and their cells, the new line starts and the new runs' starts and ends are written, and every
-- other word stands
pub record Block (left : Bool) (w L fed runs k : ℕ) (flags : List Bool) (ws ws' : List ℕ) (c : Counts) : Type 0 where
  pub counted : c.runs ≡ length (lines_runs left w flags k)
  pub total : c.cells ≡ lines_cells w flags k
  pub long : length ws' ≡ length ws
  pub lined : (i : ℕ) → i < k → line_start ws' (fed + suc i) ≡ runs + length (lines_runs left w flags (suc i))
  pub ran : (r : ℕ) → r < length (lines_runs left w flags k) → stored_run L ws' (runs + r) ≡ get_or (lines_runs left w flags k) r none
  pub others : (j : ℕ) → Unwritten L fed runs k (length (lines_runs left w flags k)) j → get_or ws' j 0 ≡ get_or ws j 0

-- both, of a frame of that geometry
abbrev pub RoomFor : Geo → ℕ → ℕ → ℕ → List Bool → List ℕ → Type 0
RoomFor g fed runs k flags ws = BlockRoom g.left g.width g.lines fed runs k flags ws

abbrev pub Extracts : Geo → ℕ → ℕ → ℕ → List Bool → List ℕ → List ℕ → Counts → Type 0
Extracts g fed runs k flags ws ws' c = Block g.left g.width g.lines fed runs k flags ws ws' c

-- ---- union

-- what run r brings to its group, where the runs of the first `fed` lines have theirs
abbrev pub brought_in : ℕ → List ℕ → ℕ → ℕ → ℕ
brought_in L ws fed r = brought (line_start ws fed) (parent_of L ws) (size_word L ws) (λ s. run_length (stored_run L ws s)) r

-- what it asks: the leading dimensions, a structure of rank n + 1, each line's runs in order, parents of the runs before the new lines
-- that are not above their runs, and that a word holds the sum of what all runs bring
pub record BlockReady (n : ℕ) (dims : List ℕ) (L : ℕ) (structure ws : List ℕ) (fed k : ℕ) : Type 0 where
  pub leading : ThreeDims n dims L
  pub bytes : 3 ^ suc n ≤ length structure
  pub within : fed + k ≤ L
  pub room : L + 1 + stride * line_start ws (fed + k) ≤ length ws
  pub sorted : (m : ℕ) → m < fed + k → InOrder (stored_run L ws) (line_start ws m) (line_start ws (suc m))
  pub parents : (r : ℕ) → r < line_start ws fed → parent_of L ws r ≤ r
  pub small : sum_over (λ r. true) (brought_in L ws fed) (line_start ws (fed + k)) < 4294967296

-- what making the new lines' runs groups of their own asks, and what it does: every other word stands
pub record ResetReady (L : ℕ) (ws : List ℕ) (fed k : ℕ) : Type 0 where
  pub within : fed + k ≤ L
  pub room : L + 1 + stride * line_start ws (fed + k) ≤ length ws
  pub upward : (r : ℕ) → line_start ws fed ≤ r → r < line_start ws (fed + k) → run_start L ws r ≤ run_end L ws r

pub record ResetIn (L : ℕ) (ws ws' : List ℕ) (fed k : ℕ) : Type 0 where
  pub long : length ws' ≡ length ws
  pub own : (r : ℕ) → line_start ws fed ≤ r → r < line_start ws (fed + k) → parent_of L ws' r ≡ r
  pub sizes : (r : ℕ) → line_start ws fed ≤ r → r < line_start ws (fed + k) → size_word L ws' r ≡ run_length (stored_run L ws r)
  pub others : (j : ℕ)
      → ((r : ℕ) → line_start ws fed ≤ r → r < line_start ws (fed + k) → (j ≢ parent_place L r) × (j ≢ size_place L r))
      → get_or ws' j 0 ≡ get_or ws j 0

-- the touches of the new lines, as the words hold the runs
abbrev pub touches_from : ℕ → List ℕ → ℕ → List ℕ → List ℕ → ℕ → ℕ → List Edge
touches_from n dims L structure ws fed k = touches (leading_of n dims) structure (line_start ws) (stored_run L ws) fed k

-- what it does: the new lines' touches are added, one after the other, to the grouping of the runs before them, and t of those unions
-- were joins. A root's size is then the sum of what its group's runs bring. Only group words change, and with no lines not they
pub record BlockUnited (n : ℕ) (dims : List ℕ) (L : ℕ) (structure ws ws' : List ℕ) (fed k t : ℕ) : Type 0 where
  pub long : length ws' ≡ length ws
  pub others : (j : ℕ) → NoGroupWord L (line_start ws (fed + k)) j → get_or ws' j 0 ≡ get_or ws j 0
  pub parents : (r : ℕ) → r < line_start ws (fed + k) → parent_of L ws' r ≤ r
  pub grouped : (r : ℕ) → r < line_start ws (fed + k)
      → root_of (parent_of L ws') r ≡ rep (visit (touches_from n dims L structure ws fed k) (grouping (parent_of L ws) (line_start ws fed))) r
  pub counted : t + joins (grouping (parent_of L ws) (line_start ws fed))
      ≡ joins (visit (touches_from n dims L structure ws fed k) (grouping (parent_of L ws) (line_start ws fed)))
  pub sized : Sums (root_of (parent_of L ws')) (size_word L ws') (brought_in L ws fed) (line_start ws (fed + k))
  pub no_lines : k ≡ 0 → ws' ≡ ws
