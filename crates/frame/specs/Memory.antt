-- The words of working memory that a session needs.
-- Assumes nothing.
use Rattle.std.specs.Prelude.{Bool, cond, List, ℕ, ◌+◌, ◌*◌, ◌/◌}
use Rattle.frame.specs.Shape.{width, lines}
use Rattle.frame.specs.Structure.{left_on}

-- how many words a run has: start, end, parent, name, size
abbrev pub stride : ℕ
stride = 5

-- document 01's h, the most runs that a line of w cells can have: ⌈w/2⌉ if the left byte is nonzero, else w
abbrev pub most_runs : Bool → ℕ → ℕ
most_runs left w = cond left ((w + 1) / 2) w

unfoldable pub per_line : List ℕ → List ℕ → ℕ
per_line shape structure = most_runs (left_on shape structure) (width shape)

-- words needed: L + 1 + 5 × L × h
unfoldable pub words_needed : List ℕ → List ℕ → ℕ
words_needed shape structure = lines shape + 1 + stride * lines shape * per_line shape structure
