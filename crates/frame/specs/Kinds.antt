-- The kinds of cells and of numbers.
-- Assumes nothing.
use Rattle.std.specs.Prelude.{Bool, true, not, List, map, ℕ, eqb, leb, ℤ, pos, negsuc, Float}
use Rattle.std.specs.Float.{nan, inf, fin}

-- ---- cells: u8, u16, i16 or f32

pub data Cells : Type 0 where
  u8s u16s : List ℕ → Cells
  i16s : List ℤ → Cells
  f32s : List Float → Cells

-- which values are nonzero, as the Rust's `nz`. An f32 is zero when it is +0.0 or -0.0; NaN is nonzero
unfoldable pub nz : ℕ → Bool
nz x = not (eqb x 0)

unfoldable pub nzℤ : ℤ → Bool
nzℤ (pos n) = not (eqb n 0)
nzℤ (negsuc n) = true

unfoldable pub nz_f : Float → Bool
nz_f nan = true
nz_f (inf s) = true
nz_f (fin s m e) = not (eqb m 0)

-- the flags: whether each cell is nonzero. Nothing else of a cell matters
unfoldable pub flags : Cells → List Bool
flags (u8s xs) = map nz xs
flags (u16s xs) = map nz xs
flags (i16s xs) = map nzℤ xs
flags (f32s xs) = map nz_f xs

-- ---- numbers: written as u8, u16 or u32

pub data Number : Type 0 where
  u8 u16 u32 : Number

-- the largest number of the kind, as the Rust's MAXV
unfoldable pub largest : Number → ℕ
largest u8 = 255
largest u16 = 65535
largest u32 = 4294967295

-- document 01: a kind holds n if n isn't above its largest number
unfoldable pub holds : Number → ℕ → Bool
holds kind n = leb n (largest kind)

-- what a place of an output of that kind holds, and what is written there for the number n
abbrev pub Value : Number → Type 0
Value kind = ℕ

abbrev pub write : (kind : Number) → ℕ → Value kind
write kind n = n

-- and the number back
abbrev pub value : (kind : Number) → Value kind → ℕ
value kind v = v
