-- What the passes over lines and over runs ask and find.
-- Assumes nothing.
use Rattle.std.specs.Prelude.{◌≡◌, ℕ, zero, suc, ◌+◌, ◌*◌, ◌%◌, ◌^◌, ◌<◌, ◌≤◌, Bool, true, ◌&&◌, ◌||◌, List, length, nat_le, nat_lt, Option, Some, None}
use Rattle.groups.specs.Groups.{count}
use Rattle.frame.specs.Runs.{Run, gap_of, run_lengths}
use Rattle.frame.specs.Memory.{stride}
use Rattle.frame.specs.Words.{line_start, run_start, run_end, parent_of, size_word, stored_run}
use Rattle.forest.specs.Forest.{roots, root_sizes}
use Rattle.sound.specs.declared.Runs.{Runs}

-- run r starts before the end of the run before it and the gap; the first run of all counts as one that does
unfoldable pub falls : Bool → (ℕ → Run) → ℕ → Bool
falls left run zero = true
falls left run (suc r) = nat_lt (run (suc r)).start ((run r).end + gap_of left)

-- line ℓ, whose runs are those from its start to before the next, has a run, and the first falls
unfoldable pub first_falls : (ℕ → Bool) → (ℕ → ℕ) → ℕ → Bool
first_falls fall first ℓ = nat_lt (first ℓ) (first (suc ℓ)) && fall (first ℓ)

-- what the pass over the runs asks: their words are there, and their count is a number that words hold
pub record RunsReady (L runs : ℕ) (ws : List ℕ) : Type 0 where
  pub memory : L + 1 + stride * runs ≤ length ws
  pub few : runs < 4294967296

-- what the pass over the lines asks
pub record LinesReady (L fed runs : ℕ) (ws : List ℕ) : Type 0 where
  pub within : fed ≤ L
  pub memory : L + 1 + stride * runs ≤ length ws
  pub first : line_start ws 0 ≡ 0

module _ (L : ℕ) (ws : List ℕ) where
  abbrev start : ℕ → ℕ
  start = run_start L ws

  abbrev end : ℕ → ℕ
  end = run_end L ws

  abbrev parent : ℕ → ℕ
  parent = parent_of L ws

  -- the clauses about line starts, and of each line with a run the last one's end
  pub record LinesSound (w fed runs : ℕ) : Type 0 where
    pub rising : (ℓ : ℕ) → ℓ < fed → line_start ws ℓ ≤ line_start ws (suc ℓ)
    pub last : line_start ws fed ≡ runs
    pub inside : (ℓ : ℕ) → ℓ < fed → (r : ℕ) → line_start ws ℓ ≤ r → suc r ≡ line_start ws (suc ℓ) → end r ≤ w

  -- whether that is so, and then how many first runs fall
  pub record LinesFound (w : ℕ) (left : Bool) (fed runs : ℕ) (found : Option ℕ) : Type 0 where
    pub right : (k : ℕ) → found ≡ Some k → LinesSound w fed runs
    pub wrong : found ≡ None → LinesSound w fed runs → ⊥
    pub counted : (k : ℕ) → found ≡ Some k → k ≡ count (first_falls (falls left (stored_run L ws)) (line_start ws)) fed

  -- run r is empty, or its parent is above it
  abbrev pub wrong_run : ℕ → Bool
  wrong_run r = nat_le (end r) (start r) || nat_lt r (parent r)

  -- none of the first n runs is empty
  abbrev pub Nonempty : ℕ → Type 0
  Nonempty n = (r : ℕ) → r < n → start r < end r

  -- of the first runs: how many are wrong, how many are roots, and the sum of the roots' sizes; and, where none is empty, how many fall,
  -- their cells, and that the next run falls exactly where it starts at `last` or before
  pub record RunsFound (left : Bool) (runs : ℕ) (found : Runs) : Type 0 where
    pub wrong : found.wrong ≡ count wrong_run runs
    pub rooted : found.roots ≡ roots parent runs
    pub sized : found.sizes ≡ root_sizes parent (size_word L ws) runs
    pub few : found.falls ≤ runs
    pub fallen : Nonempty runs → found.falls ≡ count (falls left (stored_run L ws)) runs
    pub summed : Nonempty runs → found.cells ≡ run_lengths (stored_run L ws) runs % 2 ^ 32
    pub next : Nonempty runs → nat_le (start runs) found.last ≡ falls left (stored_run L ws) runs

  -- what the pass over the runs a to before b asks: their words are there, the halves of so many sizes add up to numbers of 32 bits, and
  -- what was found of the runs before them
  pub record BlockReady (left : Bool) (a b : ℕ) (found : Runs) : Type 0 where
    pub ready : RunsReady L b ws
    pub up : a ≤ b
    pub short : b ≤ a + 65536
    pub before : RunsFound left a found
