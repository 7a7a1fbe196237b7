-- The listed offset with a code is frame's.
-- Assumes nothing.
use mathlib.Core.Path.{◌≡◌, refl, sym, ap, ap₂, ◌∙◌, subst}
use mathlib.Core.Bool.{true}
use mathlib.Core.List.{List, [], ◌∷◌, ◌++◌, map, map-append}
use borrow.Author.Tests.{ltb-true}
use lib.Dec.{ltb}
use Prim.Native.Nat.{ℕ, zero, suc, ◌-◌, ◌/◌, ◌^◌, ◌≤◌, ◌<◌}
use native.Mathlib.Omega.{arith}
use native.Mathlib.Numerals.{add-one}
use lib.IntN.{ℤ, pos, negsuc, ◌+ℤ◌}
use lib.ListN.{length, get_or, take, drop, replicate, take-append-drop, get_or-map}
use Rattle.groups.proofs.BoolLaws.{and_left, and_right}
use Rattle.frame.specs.Structure.{offset, digit}
use Rattle.offsets.specs.Digits.{are_digits, OffsetOf, three_digits}
use Rattle.offsets.proofs.DigitLaws.{digit_low, digits_offset}

-- ---- for `n` leading dimensions, where n is one of four

pub code_at : (m n code : ℕ) → n ≡ m → code < 3 ^ n → code < 3 ^ m
code_at m n code e h = subst (λ (k : ℕ). code < 3 ^ k) e h

pub offset_at : (m n : ℕ) {code : ℕ} {o : List ℤ} → n ≡ m → OffsetOf m code o → OffsetOf n code o
offset_at m n {code} {o} e O = subst (λ (k : ℕ). OffsetOf k code o) (sym e) O

pub half_at : (m n : ℕ) → n ≡ m → 3 ^ m / 2 ≡ 3 ^ n / 2
half_at m n e = ap (λ (k : ℕ). 3 ^ k / 2) (sym e)

-- ---- parts and digits

-- a digit is its part plus one
part_plus_one : (z : ℤ) → digit z ≤ 2 → z +ℤ pos 1 ≡ pos (digit z)
part_plus_one (pos n) h = ap pos (add-one n)
part_plus_one (negsuc zero) h = refl
part_plus_one (negsuc (suc n)) h = absurd (omega arith)

plus_one : (o : List ℤ) → are_digits (map digit o) ≡ true → map (λ (z : ℤ). z +ℤ pos 1) o ≡ map pos (map digit o)
plus_one [] h = refl
plus_one (z ∷ o) h =
    let low = ltb-true (digit z) 3 (and_left _ (are_digits (map digit o)) h) in
    ap₂ (λ (x : ℤ) (l : List ℤ). x ∷ l) (part_plus_one z (omega arith)) (plus_one o (and_right (ltb (digit z) 3) _ h))

-- no other part has its digit
one_part : (y z : ℤ) → digit y ≤ 2 → digit y ≡ digit z → y ≡ z
one_part (pos a) (pos b) h e = let q : a ≡ b = omega arith in ap pos q
one_part (pos a) (negsuc zero) h e = absurd (omega arith)
one_part (pos a) (negsuc (suc b)) h e = absurd (omega arith)
one_part (negsuc zero) (pos b) h e = absurd (omega arith)
one_part (negsuc zero) (negsuc zero) h e = refl
one_part (negsuc zero) (negsuc (suc b)) h e = absurd (omega arith)
one_part (negsuc (suc a)) z h e = absurd (omega arith)

one_list : (o p : List ℤ) → are_digits (map digit o) ≡ true → map digit o ≡ map digit p → o ≡ p
one_list [] [] h e = refl
one_list [] (z ∷ p) h e = absurd (let k = ap length e in omega arith)
one_list (y ∷ o) [] h e = absurd (let k = ap length e in omega arith)
one_list (y ∷ o) (z ∷ p) h e =
    let low = ltb-true (digit y) 3 (and_left _ (are_digits (map digit o)) h) in
    ap₂ (λ (x : ℤ) (l : List ℤ). x ∷ l) (one_part y z (omega arith) (ap (λ (l : List ℕ). get_or l 0 0) e))
    (one_list o p (and_right (ltb (digit y) 3) _ h) (ap (drop 1) e))

-- ---- the parts in front

zeros_digits : (k : ℕ) → map digit (replicate k (pos 0)) ≡ replicate k 1
zeros_digits zero = refl
zeros_digits (suc k) = ap (λ (l : List ℕ). 1 ∷ l) (zeros_digits k)

ones_digits : (k : ℕ) (ts : List ℕ) → are_digits (replicate k 1 ++ ts) ≡ are_digits ts
ones_digits zero ts = refl
ones_digits (suc k) ts = ones_digits k ts

module _ (n code : ℕ) (o : List ℤ) (O : OffsetOf n code o) where
  -- its digits are the parts' in front, and the code's
  split : map digit o ≡ replicate (3 - n) 1 ++ map digit (drop (3 - n) o)
  split =
      ap (map digit) (sym (take-append-drop (3 - n) o)) ∙ map-append digit (take (3 - n) o) (drop (3 - n) o)
      ∙ ap (λ (l : List ℕ). l ++ map digit (drop (3 - n) o)) (ap (map digit) O.before ∙ zeros_digits (3 - n))

  -- its parts plus one are the code's digits in base three
  pub parts_plus_one : map (λ (z : ℤ). z +ℤ pos 1) (drop (3 - n) o) ≡ map pos (offset n code)
  parts_plus_one =
      plus_one (drop (3 - n) o) O.digits.low ∙ ap (map pos) (digits_offset n code (map digit (drop (3 - n) o)) O.digits)

  -- the listed offset has the digits of frame's
  pub three_digits_lem : map digit o ≡ three_digits n code
  unfolding three_digits
  three_digits_lem = split ∙ ap (λ (l : List ℕ). replicate (3 - n) 1 ++ l) (digits_offset n code (map digit (drop (3 - n) o)) O.digits)

  digits_low : are_digits (map digit o) ≡ true
  digits_low = ap are_digits split ∙ ones_digits (3 - n) (map digit (drop (3 - n) o)) ∙ O.digits.low

  pub parts_low : (i : ℕ) → digit (get_or o i (pos 0)) ≤ 2
  parts_low i = subst (λ (t : ℕ). t ≤ 2) (get_or-map digit o i (pos 0)) (digit_low (map digit o) digits_low i)

-- two offsets with one code are one
pub one_offset : (n code : ℕ) (o p : List ℤ) → OffsetOf n code o → OffsetOf n code p → o ≡ p
one_offset n code o p O P = one_list o p (digits_low n code o O) (three_digits_lem n code o O ∙ sym (three_digits_lem n code p P))
