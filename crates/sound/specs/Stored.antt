-- Sound words: of document 01's "Unsound, exactly", the clauses about words, in its order, then document 02's, and the test that decides
-- them all.
-- Assumes nothing.
use Rattle.std.specs.Prelude.{◌≡◌, ℕ, suc, ◌+◌, ◌*◌, ◌<◌, ◌≤◌, Bool, false, ◌||◌, ltb, leb, List, [], ◌∷◌, length, ◌==◌, nat_le, nat_lt}
use Rattle.frame.specs.Lists.{all, every}
use Rattle.frame.specs.declared.Figures.{Figures}
use Rattle.frame.specs.Runs.{gap_of, run_lengths}
use Rattle.frame.specs.Memory.{stride, most_runs}
use Rattle.frame.specs.Words.{line_start, run_start, run_end, parent_of, size_word, stored_run}
use Rattle.forest.specs.Forest.{non_roots, root_sizes}

-- L lines of w cells, whether the left byte is nonzero, how many lines are fed, and the figures
module _ (L w : ℕ) (left : Bool) (fed : ℕ) (figures : Figures) (ws : List ℕ) where
  abbrev runs : ℕ
  runs = figures.runs

  -- run r's start, end and parent
  abbrev start : ℕ → ℕ
  start = run_start L ws

  abbrev end : ℕ → ℕ
  end = run_end L ws

  abbrev parent : ℕ → ℕ
  parent = parent_of L ws

  -- The comment above a field quotes the clause that the field denies
  pub record WordsSound : Type 0 where
    -- word 0 not 0, a start in words 1 to lines fed below the one before, or word number lines-fed not equal to runs
    pub first : line_start ws 0 ≡ 0
    pub rising : (ℓ : ℕ) → ℓ < fed → line_start ws ℓ ≤ line_start ws (suc ℓ)
    pub last : line_start ws fed ≡ runs
    -- more than h runs in a line
    pub room : (ℓ : ℕ) → ℓ < fed → line_start ws (suc ℓ) ≤ line_start ws ℓ + most_runs left w
    -- a run with start ≥ end or end > w
    pub nonempty : (r : ℕ) → r < runs → start r < end r
    pub inside : (r : ℕ) → r < runs → end r ≤ w
    -- runs of a line overlapping or out of order (touching too, if the left byte is nonzero; longer than one cell, if zero)
    pub ordered : (ℓ : ℕ) → ℓ < fed → (r : ℕ) → r < runs → line_start ws ℓ ≤ r → suc r < line_start ws (suc ℓ)
        → end r + gap_of left ≤ start (suc r)
    pub single : left ≡ false → (r : ℕ) → r < runs → end r ≤ suc (start r)
    -- a parent above its run
    pub parents : (r : ℕ) → r < runs → parent r ≤ r
    -- joins not the count of runs whose parent isn't themselves
    pub join_count : figures.joins ≡ non_roots parent runs
    -- document 02, F-1: a total that isn't the sum of the run lengths
    pub total : figures.cells ≡ run_lengths (stored_run L ws) runs
    -- document 02, F-3: roots' fifth words that don't add up to that total
    pub sizes : root_sizes parent (size_word L ws) runs ≡ figures.cells

  -- computed: that it decides `WordsSound` is proved in proofs/StoredLaws.antt
  unfoldable pub words_sound : Bool
  words_sound =
      every ((line_start ws 0 == 0)
      ∷ all (λ ℓ. leb (line_start ws ℓ) (line_start ws (suc ℓ))) fed
      ∷ (line_start ws fed == runs)
      ∷ all (λ ℓ. leb (line_start ws (suc ℓ)) (line_start ws ℓ + most_runs left w)) fed
      ∷ all (λ r. ltb (start r) (end r)) runs
      ∷ all (λ r. leb (end r) w) runs
      ∷ all (λ ℓ. all (λ r. (nat_lt r (line_start ws ℓ) || nat_le (line_start ws (suc ℓ)) (suc r))
      || nat_le (end r + gap_of left) (start (suc r))) runs) fed
      ∷ (left || all (λ r. leb (end r) (suc (start r))) runs)
      ∷ all (λ r. leb (parent r) r) runs
      ∷ (figures.joins == non_roots parent runs)
      ∷ (figures.cells == run_lengths (stored_run L ws) runs)
      ∷ (root_sizes parent (size_word L ws) runs == figures.cells)
      ∷ [])

-- what the pass asks: lines fed within the L lines, words for all runs that those can have, and width and cells within the limits
pub record PassReady (L w : ℕ) (left : Bool) (fed : ℕ) (ws : List ℕ) : Type 0 where
  pub within : fed ≤ L
  pub memory : L + 1 + stride * (L * most_runs left w) ≤ length ws
  pub short : w < 2147483647
  pub small : L * w < 4294967296
