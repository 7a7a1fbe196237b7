-- Runs: of a line, and of all fed lines.
-- Assumes nothing.
use Rattle.std.specs.Prelude.{◌≡◌, Bool, true, false, not, cond, ◌&&◌, List, [], ◌∷◌, ℕ, zero, suc, ◌+◌, ◌-◌, ◌*◌, ◌%◌, ◌≤◌, ◌<◌, eqb, length, get_or, take, drop}
use Rattle.groups.specs.Groups.{count, gather}
use Rattle.frame.specs.Shape.{size, width, lines}
use Rattle.frame.specs.Structure.{left_on}
use Rattle.frame.specs.ChainRule.{nonzero, Group}

-- ---- counted

-- the cell to the left is in the same line, fed and nonzero
unfoldable pub goes_on : List ℕ → List Bool → ℕ → Bool
goes_on shape cells p = not (eqb (p % width shape) 0) && nonzero cells (p - 1)

-- document 01's run: with the left byte nonzero, a maximal stretch of nonzero cells in a line; otherwise every nonzero cell.
-- A run is known by the cell that begins it
unfoldable pub begins_run : List ℕ → List ℕ → List Bool → ℕ → Bool
begins_run shape structure cells p = nonzero cells p && not (left_on shape structure && goes_on shape cells p)

-- document 01's runs: the count of runs in the fed lines
unfoldable pub runs : List ℕ → List ℕ → List Bool → ℕ
runs shape structure cells = count (begins_run shape structure cells) (size shape)

-- document 02's nonzero cells so far: how many of the fed cells are nonzero
unfoldable pub nonzero_cells : List Bool → ℕ
nonzero_cells cells = count (nonzero cells) (length cells)

-- the run that a nonzero cell is of, by its number from 0 in C order: how many begin before the one that p is of
unfoldable pub run_of : List ℕ → List ℕ → List Bool → ℕ → ℕ
run_of shape structure cells p = count (begins_run shape structure cells) (suc p) - 1

-- r is the smallest run of p's group: one of its cells is of run r, and none is of a run before
pub record SmallestRun (shape structure : List ℕ) (cells : List Bool) (p r : ℕ) : Type 0 where
  pub cell : ℕ
  pub of_group : Group shape structure cells p cell
  pub of_run : run_of shape structure cells cell ≡ r
  pub least : (q : ℕ) → Group shape structure cells p q → r ≤ run_of shape structure cells q

-- ---- listed

-- a run [start, end) of a line: the columns from start to before end
pub record Run : Type 0 where
  pub start : ℕ
  pub end : ℕ

abbrev pub none : Run
none = record { start = 0; end = 0 }

-- the run covers that column
abbrev pub Covers : Run → ℕ → Type 0
Covers r x = (r.start ≤ x) × (x < r.end)

-- how many cells it has
abbrev pub run_length : Run → ℕ
run_length r = r.end - r.start

-- the sum of the lengths of the first n runs, where `run` gives each by its number from 0
unfoldable pub run_lengths : (ℕ → Run) → ℕ → ℕ
run_lengths run zero = 0
run_lengths run (suc n) = run_length (run n) + run_lengths run n

-- the maximal stretches from column x on, where l has the flags from x on. The first argument says whether column x - 1 is in
-- a run, and s is then that run's start
unfoldable pub stretches : Bool → ℕ → ℕ → List Bool → List Run
stretches false s x [] = []
stretches true s x [] = record { start = s; end = x } ∷ []
stretches false s x (false ∷ l) = stretches false s (suc x) l
stretches false s x (true ∷ l) = stretches true x (suc x) l
stretches true s x (true ∷ l) = stretches true s (suc x) l
stretches true s x (false ∷ l) = record { start = s; end = x } ∷ stretches false s (suc x) l

-- each nonzero cell from column x on
unfoldable pub singles : ℕ → List Bool → List Run
singles x [] = []
singles x (false ∷ l) = singles (suc x) l
singles x (true ∷ l) = record { start = x; end = suc x } ∷ singles (suc x) l

-- the runs of a line, where the first argument says whether the left byte is nonzero
unfoldable pub line_runs : Bool → List Bool → List Run
line_runs true l = stretches false 0 0 l
line_runs false l = singles 0 l

-- how many columns at least lie between two runs of a line: with the left byte nonzero two with none between would be one
unfoldable pub gap_of : Bool → ℕ
gap_of left = cond left 1 0

-- the flags of line ℓ
unfoldable pub line_of : ℕ → List Bool → ℕ → List Bool
line_of w cells ℓ = take w (drop (ℓ * w) cells)

-- the runs of line ℓ; of the first n lines, in order; how many stand before line ℓ; and run r, by its number from 0
module _ (shape structure : List ℕ) (cells : List Bool) where
  unfoldable pub frame_runs : ℕ → List Run
  frame_runs ℓ = line_runs (left_on shape structure) (line_of (width shape) cells ℓ)

  unfoldable pub all_runs : ℕ → List Run
  all_runs n = gather frame_runs 0 n

  unfoldable pub runs_before : ℕ → ℕ
  runs_before ℓ = length (all_runs ℓ)

  unfoldable pub frame_run : ℕ → Run
  frame_run r = get_or (all_runs (lines shape)) r none
