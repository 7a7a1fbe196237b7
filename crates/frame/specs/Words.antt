-- The layout of the words, said here alone but for the count of words needed (Memory).
-- Assumes nothing.
use Rattle.std.specs.Prelude.{◌≢◌, List, ℕ, ◌+◌, ◌*◌, ◌<◌, get_or}
use Rattle.frame.specs.Runs.{Run}
use Rattle.frame.specs.Memory.{stride}

-- ---- the words of run r, counted from the first run's: start, end (one past), parent, name, size

abbrev pub start_at : ℕ → ℕ
start_at r = stride * r

abbrev pub end_at : ℕ → ℕ
end_at r = stride * r + 1

abbrev pub parent_at : ℕ → ℕ
parent_at r = stride * r + 2

abbrev pub name_at : ℕ → ℕ
name_at r = stride * r + 3

-- document 02's fifth word: at a root, its group's cell count
abbrev pub size_at : ℕ → ℕ
size_at r = stride * r + 4

-- ---- the whole memory, for L lines. Words 0 to L hold line starts: the count of runs before that line. The runs' words are those
-- from L + 1 on

abbrev pub line_place : ℕ → ℕ
line_place ℓ = ℓ

abbrev pub start_place : ℕ → ℕ → ℕ
start_place L r = L + 1 + start_at r

abbrev pub end_place : ℕ → ℕ → ℕ
end_place L r = L + 1 + end_at r

abbrev pub parent_place : ℕ → ℕ → ℕ
parent_place L r = L + 1 + parent_at r

abbrev pub name_place : ℕ → ℕ → ℕ
name_place L r = L + 1 + name_at r

abbrev pub size_place : ℕ → ℕ → ℕ
size_place L r = L + 1 + size_at r

abbrev pub line_start : List ℕ → ℕ → ℕ
line_start ws ℓ = get_or ws (line_place ℓ) 0

abbrev pub run_start : ℕ → List ℕ → ℕ → ℕ
run_start L ws r = get_or ws (start_place L r) 0

abbrev pub run_end : ℕ → List ℕ → ℕ → ℕ
run_end L ws r = get_or ws (end_place L r) 0

abbrev pub parent_of : ℕ → List ℕ → ℕ → ℕ
parent_of L ws r = get_or ws (parent_place L r) 0

abbrev pub name_of : ℕ → List ℕ → ℕ → ℕ
name_of L ws r = get_or ws (name_place L r) 0

abbrev pub size_word : ℕ → List ℕ → ℕ → ℕ
size_word L ws r = get_or ws (size_place L r) 0

-- run r, as the words hold it
abbrev pub stored_run : ℕ → List ℕ → ℕ → Run
stored_run L ws r = record { start = run_start L ws r; end = run_end L ws r }

-- a run's group words are those that a union may change: its parent and its size. Place j is of none, of the first n runs
abbrev pub NoGroupWord : ℕ → ℕ → ℕ → Type 0
NoGroupWord L n j = (r : ℕ) → r < n → (j ≢ parent_place L r) × (j ≢ size_place L r)
