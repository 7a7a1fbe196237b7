-- The structure: offsets by their code, backward offsets, the left byte, symmetry about the centre.
-- Assumes nothing.
use Rattle.std.specs.Prelude.{◌≡◌, Bool, false, not, ◌&&◌, ◌||◌, ℕ, zero, suc, ◌+◌, ◌-◌, ◌/◌, ◌^◌, ◌<◌, eqb, ℤ, pos, negsuc, length, get_or, replicate}
use mathlib.Core.List.{List, [], ◌∷◌, map, zip_with}
use Rattle.frame.specs.Shape.{coords}

-- The structure is 3^rank bytes in C order, itself a frame of shape 3, .., 3, and each position is an offset of -1, 0 or 1 per
-- dimension. An offset's code is its place in C order, from 0; its digits, one for each dimension, are 0, 1, 2 for -1, 0, 1.
unfoldable pub offset : ℕ → ℕ → List ℕ
offset rank code = coords (replicate rank 3) code

-- the digit of one part, which is one more than it. Above 2 it is no part of an offset
abbrev pub digit : ℤ → ℕ
digit (pos n) = suc n
digit (negsuc zero) = 0
digit (negsuc (suc n)) = 3

-- document 01's backward: lexicographically negative. The first part that is not 0 is -1
unfoldable pub backward : List ℕ → Bool
backward [] = false
backward (t ∷ ts) = eqb t 0 || (eqb t 1 && backward ts)

-- the coordinates xs, moved by the offset with the digits ts, are ys
unfoldable pub Moved : List ℕ → List ℕ → List ℕ → Type 0
Moved xs ts ys = zip_with ◌+◌ xs ts ≡ map suc ys

-- the byte at that code is nonzero: only zero or nonzero matters
unfoldable pub on : List ℕ → ℕ → Bool
on structure code = not (eqb (get_or structure code 0) 0)

-- the centre's code, that of the offset whose parts are all 0
abbrev pub centre_code : ℕ → ℕ
centre_code rank = 3 ^ rank / 2

-- document 01's left byte belongs to offset 0, .., 0, -1, the code before the centre's: is it nonzero?
abbrev pub left_code : ℕ → ℕ
left_code rank = centre_code rank - 1

unfoldable pub left_on : List ℕ → List ℕ → Bool
left_on shape structure = on structure (left_code (length shape))

-- the code of the offset whose parts are the negatives of those at code i
abbrev pub opposite_code : ℕ → ℕ → ℕ
opposite_code rank i = 3 ^ rank - 1 - i

-- document 02's "symmetric about its centre": byte i and byte 3^rank - 1 - i are both zero or both nonzero
abbrev pub Symmetric : ℕ → List ℕ → Type 0
Symmetric rank structure = (i : ℕ) → i < 3 ^ rank → on structure i ≡ on structure (opposite_code rank i)
