-- Digits in base three: every code has them, they are those of frame's `offset`, and no others are.
-- Assumes nothing.
use mathlib.Core.Path.{◌≡◌, refl, sym, ap, ap₂, ◌∙◌}
use mathlib.Core.Bool.{true}
use mathlib.Core.List.{List, [], ◌∷◌}
use Prim.Native.Nat.{ℕ, zero, suc, ◌/◌, ◌%◌, ◌^◌, ◌≤◌, ◌<◌}
use native.Mathlib.Nat.{pow-succ', mod-lt, div-add-mod', div-lt_iff_lt-mul}
use native.Mathlib.Omega.{arith}
use borrow.Author.Tests.{lt-ltb, ltb-true}
use lib.Arith.{digits_lt, digits_div, digits_mod}
use lib.Dec.{ltb}
use lib.ListN.{length, get_or}
use Rattle.groups.proofs.BoolLaws.{and_left, and_right}
use Rattle.frame.specs.Shape.{coords}
use Rattle.frame.specs.Structure.{offset}
use Rattle.frame.proofs.StructureLaws.{three_pos, offset_first, length_offset}
use Rattle.offsets.specs.Digits.{in_base_three, are_digits, DigitsOf}

-- the number that digits write is below the power of three of their count
value_below : (ts : List ℕ) → are_digits ts ≡ true → in_base_three ts < 3 ^ length ts
value_below [] h = omega arith
value_below (t ∷ ts) h =
    rw (pow-succ' 3 (length ts)) (digits_lt (ltb-true t 3 (and_left _ (are_digits ts) h)) (value_below ts (and_right (ltb t 3) _ h)))

-- each digit is at most 2, and so is 1, for those past the end
pub digit_low : (ts : List ℕ) → are_digits ts ≡ true → (i : ℕ) → get_or ts i 1 ≤ 2
digit_low [] h i = omega arith
digit_low (t ∷ ts) h zero = let k = ltb-true t 3 (and_left _ (are_digits ts) h) in omega arith
digit_low (t ∷ ts) h (suc i) = digit_low ts (and_right (ltb t 3) _ h) i

-- digits are the offset of the number that they write
own_offset : (ts : List ℕ) → are_digits ts ≡ true → ts ≡ offset (length ts) (in_base_three ts)
own_offset [] h = unfold offset coords in refl
own_offset (t ∷ ts) h =
    let low : are_digits ts ≡ true = and_right (ltb t 3) _ h in
    let k = value_below ts low in
    sym (offset_first (length ts) (in_base_three (t ∷ ts))
    ∙ rw (digits_div t k, digits_mod t k) (ap (λ (l : List ℕ). t ∷ l) (sym (own_offset ts low))))

-- a code's digits are its offset's
pub digits_offset : (n code : ℕ) (ts : List ℕ) → DigitsOf n code ts → ts ≡ offset n code
digits_offset n code ts D = own_offset ts D.low ∙ ap₂ offset D.count (sym D.value)

-- every code has its digits, which are its offset's
digits_are : (n code : ℕ) → code < 3 ^ n → are_digits (offset n code) ≡ true
digits_are zero code h = unfold offset coords in refl
digits_are (suc n) code h =
    let high : code / 3 ^ n < 3 = (div-lt_iff_lt-mul (three_pos n)).1 (omega (arith, pow-succ' 3 n)) in
    rw (offset_first n code, lt-ltb (code / 3 ^ n) 3 high) (digits_are n (code % 3 ^ n) (mod-lt code (three_pos n)))

value_is : (n code : ℕ) → code < 3 ^ n → code ≡ in_base_three (offset n code)
value_is zero code h = unfold offset coords in omega arith
value_is (suc n) code h =
    rw (offset_first n code, length_offset n (code % 3 ^ n), ← value_is n (code % 3 ^ n) (mod-lt code (three_pos n)))
    (sym (div-add-mod' code (3 ^ n)))

pub offset_digits : (n code : ℕ) → code < 3 ^ n → DigitsOf n code (offset n code)
offset_digits n code h = record { count = length_offset n code; low = digits_are n code h; value = value_is n code h }
