-- What extraction of a line's runs asks, and what it does.
-- Assumes nothing.
use Rattle.std.specs.Prelude.{◌≡◌, Bool, List, [], ◌∷◌, ℕ, ◌+◌, ◌*◌, ◌≤◌, ◌<◌, length, set}
use Rattle.frame.specs.Memory.{stride}
use Rattle.frame.specs.Words.{start_at, end_at}
use Rattle.frame.specs.Runs.{nonzero_cells, Run, line_runs}
use Rattle.runs.specs.declared.Counts.{Counts}

-- the words after the runs rs are written from place i on, of each its start and its end; every other word stands
unfoldable pub put_runs : List ℕ → ℕ → List Run → List ℕ
put_runs ws i [] = ws
put_runs ws i (r ∷ rs) = put_runs (set (set ws (i + start_at 0) r.start) (i + end_at 0) r.end) (i + stride) rs

-- what extraction asks: the line is short enough, and the words from place `at` on have room for its runs
pub record Room (left : Bool) (flags : List Bool) (ws : List ℕ) (at : ℕ) : Type 0 where
  pub short : length flags < 2147483647
  pub room : at + stride * length (line_runs left flags) ≤ length ws

-- what it does: it counts the line's runs and its nonzero cells, and the runs are written from place `at` on
pub record Extracted (left : Bool) (flags : List Bool) (ws ws' : List ℕ) (at : ℕ) (c : Counts) : Type 0 where
  pub counted : c.runs ≡ length (line_runs left flags)
  pub total : c.cells ≡ nonzero_cells flags
  pub written : ws' ≡ put_runs ws at (line_runs left flags)
