-- Decimal numbers: fuel does not matter; numbers of one digit and of two; the last digit.
-- Assumes nothing.
use mathlib.Core.Path.{◌≡◌, refl, ap, ◌∙◌}
use mathlib.Core.Bool.{Bool, true, false, cond}
use mathlib.Core.List.{List, [], ◌∷◌, ◌++◌}
use Prim.Native.Nat.{ℕ, zero, suc, ◌+◌, ◌/◌, ◌%◌, ◌≤◌, ◌<◌}
use native.Mathlib.Omega.{arith}
use borrow.Author.Tests.{ltb-false, lt-ltb, le-ltb}
use lib.Dec.{ltb}
use Rattle.clumps_text.specs.Text.{digits, decimal}

-- any count of digits above the number gives all of them
digits_enough : (j k n : ℕ) → n < j → n < k → digits j n ≡ digits k n
unfolding digits
digits_enough zero k n hj hk = absurd (omega arith)
digits_enough (suc j) zero n hj hk = absurd (omega arith)
digits_enough (suc j) (suc k) n hj hk = go (ltb n 10) refl (digits_enough j k (n / 10))
  where
    go : (t : Bool) → ltb n 10 ≡ t → (n / 10 < j → n / 10 < k → digits j (n / 10) ≡ digits k (n / 10))
        → cond (ltb n 10) [] (digits j (n / 10)) ++ ((48 + n % 10) ∷ []) ≡ cond (ltb n 10) [] (digits k (n / 10)) ++ ((48 + n % 10) ∷ [])
    go true e r = rw e
    go false e r =
        let h = ltb-false n 10 e in
        let s : digits j (n / 10) ≡ digits k (n / 10) = r (omega arith) (omega arith) in
        rw (e, s)

pub decimal_small : (n : ℕ) → n < 10 → decimal n ≡ (48 + n) ∷ []
unfolding decimal digits
decimal_small n h =
    let m : n % 10 ≡ n = omega arith in
    rw (lt-ltb n 10 h, m)

-- the digits before the last are those of the tenth part
pub decimal_more : (n : ℕ) → 10 ≤ n → decimal n ≡ decimal (n / 10) ++ ((48 + n % 10) ∷ [])
unfolding decimal digits
decimal_more n h =
    let e : digits n (n / 10) ≡ digits (suc (n / 10)) (n / 10) = digits_enough n (suc (n / 10)) (n / 10) (omega arith) (omega arith) in
    rw (le-ltb n 10 h) (ap (λ (l : List ℕ). l ++ ((48 + n % 10) ∷ [])) e)

pub decimal_two : (n : ℕ) → 10 ≤ n → n < 100 → decimal n ≡ (48 + n / 10) ∷ (48 + n % 10) ∷ []
decimal_two n h l = decimal_more n h ∙ ap (λ (d : List ℕ). d ++ ((48 + n % 10) ∷ [])) (decimal_small (n / 10) (omega arith))

-- with the byte 10 that ends the line
pub one_line : (n : ℕ) → n < 10 → (48 + n) ∷ 10 ∷ [] ≡ decimal n ++ (10 ∷ [])
one_line n h = rw (decimal_small n h)

pub two_line : (n : ℕ) → 10 ≤ n → n < 100 → (48 + n / 10) ∷ (48 + n % 10) ∷ 10 ∷ [] ≡ decimal n ++ (10 ∷ [])
two_line n h l = rw (decimal_two n h l)
