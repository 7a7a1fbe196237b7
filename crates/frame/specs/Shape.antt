-- Frames: shape, lines, width, coordinates. A shape is the list of the dimensions, and a cell is its place in C order, from 0.
-- Assumes nothing.
use Rattle.std.specs.Prelude.{List, [], ◌∷◌, ℕ, ◌*◌, ◌/◌, ◌%◌}

-- how many cells a frame has: the product of its dimensions
unfoldable pub size : List ℕ → ℕ
size [] = 1
size (d ∷ ds) = d * size ds

-- document 01's width w: the last dimension
unfoldable pub width : List ℕ → ℕ
width [] = 1
width (d ∷ []) = d
width (d ∷ (e ∷ ds)) = width (e ∷ ds)

-- document 01's leading dimensions: the others
unfoldable pub leading : List ℕ → List ℕ
leading [] = []
leading (d ∷ []) = []
leading (d ∷ (e ∷ ds)) = d ∷ leading (e ∷ ds)

-- document 01's L, the number of lines: the product of the leading dimensions, 1 for rank 1
abbrev pub lines : List ℕ → ℕ
lines shape = size (leading shape)

-- a cell's coordinates, the first dimension's first. C order has the last coordinate fastest
unfoldable pub coords : List ℕ → ℕ → List ℕ
coords [] p = []
coords (d ∷ ds) p = p / size ds ∷ coords ds (p % size ds)
