-- Kinds: the largest number of each, which f32 is zero, and a number back from what is written.
-- Assumes nothing.
use mathlib.Core.Path.{◌≡◌, refl, sym, ap, ◌∙◌}
use mathlib.Core.Bool.{Bool, true, false, not, ◌||◌, beq}
use Prim.Native.Nat.{ℕ, zero, suc, ◌*◌, ◌^◌}
use native.Mathlib.Nat.{zero-mul, mul-pos, zero-lt-suc}
use native.Mathlib.Omega.{arith}
use borrow.Author.Tests.{ne_eqb}
use lib.Dec.{eqb}
use lib.IntN.{ℤ}
use lib.Ieee.{Float, nan, inf, fin, up, down, level, eq}
use lib.Ieee.Fits.{up_pos, down_pos}
use Rattle.frame.specs.Kinds.{nz_f, Number, u8, u16, u32, largest, write, value}

-- the largest number of a kind is the largest of that many bits
pub bits : Number → ℕ
bits u8 = 8
bits u16 = 16
bits u32 = 32

pub largest_bits : (kind : Number) → suc (largest kind) ≡ 2 ^ bits kind
unfolding largest bits
largest_bits u8 = refl
largest_bits u16 = refl
largest_bits u32 = refl

-- an f32 is nonzero exactly where it does not compare equal to 0.0, of either sign
pub nz_float : (x : Float) (s : Bool) (d : ℤ) → nz_f x ≡ not (eq x (fin s 0 d))
unfolding nz_f eq
nz_float nan s d = refl
nz_float (inf t) s d = refl
nz_float (fin t m e) s d = ap not (go m)
  where
    right : 0 * up d * down e ≡ 0
    right = ap (λ (k : ℕ). k * down e) (zero-mul (up d)) ∙ zero-mul (down e)

    or_true : (b : Bool) → (b || true) ≡ true
    or_true true = refl
    or_true false = refl

    go : (k : ℕ) → eqb k 0 ≡ level t (k * up e * down d) s (0 * up d * down e)
    go zero =
        let left : 0 * up e * down d ≡ 0 = ap (λ (k : ℕ). k * down d) (zero-mul (up e)) ∙ zero-mul (down d) in
        rw (left, right) (sym (or_true (beq t s)))
    go (suc k) =
        let some = mul-pos (mul-pos (zero-lt-suc k) (up_pos e)) (down_pos d) in
        rw (ne_eqb (suc k * up e * down d) (0 * up d * down e) (λ z. omega (arith, right))) (ne_eqb (suc k) 0 (λ z. omega arith))

-- a number is read back from what is written for it
pub value_write : (kind : Number) (n : ℕ) → value kind (write kind n) ≡ n
value_write kind n = refl
