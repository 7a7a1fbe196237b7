-- What writing the numbers of cells and copying the sizes of groups ask, and what they do. Both name the runs.
-- Assumes nothing.
use Rattle.std.specs.Prelude.{◌≡◌, List, ℕ, suc, ◌+◌, ◌*◌, ◌≤◌, ◌<◌, length, get_or}
use Rattle.frame.specs.Kinds.{Number, largest, Value, write}
use Rattle.frame.specs.Runs.{Covers}
use Rattle.frame.specs.Words.{line_start, run_end, parent_of, size_word, stored_run}
use Rattle.forest.specs.Forest.{roots, number_in, size_list}
use Rattle.sweep.specs.Sweeps.{InOrder}
use Rattle.names.specs.Names.{NamesReady, named}

-- ---- the numbers of cells

-- L lines of w cells, the first `fed` of which are fed: each line's runs are in order and within the width
pub record LinesHeld (L w fed : ℕ) (ws : List ℕ) : Type 0 where
  pub within : fed ≤ L
  pub first : line_start ws 0 ≡ 0
  pub sorted : (m : ℕ) → m < fed → InOrder (stored_run L ws) (line_start ws m) (line_start ws (suc m))
  pub inside : (r : ℕ) → r < line_start ws fed → run_end L ws r ≤ w

-- what writing them asks, where out is the count of places
pub record WriteReady (kind : Number) (L w fed : ℕ) (ws : List ℕ) (out : ℕ) : Type 0 where
  pub lines : LinesHeld L w fed ws
  pub runs : NamesReady L (line_start ws fed) ws
  pub fits : roots (parent_of L ws) (line_start ws fed) ≤ largest kind
  pub places : out ≡ L * w

-- run r is one of line ℓ, which is fed, and covers column x
pub record AtCell (L fed : ℕ) (ws : List ℕ) (ℓ x r : ℕ) : Type 0 where
  pub is_fed : ℓ < fed
  pub low : line_start ws ℓ ≤ r
  pub high : r < line_start ws (suc ℓ)
  pub covers : Covers (stored_run L ws r) x

-- what place x of an output of the kind holds
abbrev pub output_at : (kind : Number) → List (Value kind) → ℕ → Value kind
output_at kind out x = get_or out x (write kind 0)

-- what it does: the runs are named, each cell that a run covers has that run's number, and every other cell 0
pub record LinesWritten (kind : Number) (L w fed : ℕ) (ws ws' : List ℕ) (out out' : List (Value kind)) : Type 0 where
  pub names : ws' ≡ named L (line_start ws fed) ws
  pub long : length out' ≡ length out
  pub covered : (ℓ x r : ℕ) → AtCell L fed ws ℓ x r → output_at kind out' (ℓ * w + x) ≡ write kind (number_in (parent_of L ws) r)
  pub zeros : (ℓ x : ℕ) → ℓ < L → x < w → ((r : ℕ) → AtCell L fed ws ℓ x r → ⊥) → output_at kind out' (ℓ * w + x) ≡ write kind 0

-- ---- the sizes of groups

-- what copying them asks, where `count` is the length of the slice: one place for each root
pub record SizesReady (L n : ℕ) (ws : List ℕ) (count : ℕ) : Type 0 where
  pub runs : NamesReady L n ws
  pub groups : count ≡ roots (parent_of L ws) n

-- what it does: the runs are named, and the roots' sizes stand in the order of their numbers
pub record SizesWritten (L n : ℕ) (ws ws' out' : List ℕ) : Type 0 where
  pub names : ws' ≡ named L n ws
  pub sizes : out' ≡ size_list (parent_of L ws) (size_word L ws) n
