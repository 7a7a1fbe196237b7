-- From comparisons of i64 to natural numbers. A signed local holds bits: what the machine compares is `to_z w64` of them.
-- Assumes nothing.
use mathlib.Core.Path.{◌≡◌, refl, ap, sym, ◌∙◌, subst}
use mathlib.Core.Bool.{Bool, true, false, cond}
use Prim.Native.Nat.{ℕ, zero, suc, ◌+◌, ◌-◌, ◌^◌, ◌≤◌, ◌<◌}
use native.Mathlib.Omega.{arith}
use borrow.Author.Tests.{lt-ltb, le-leb, ltb-true, ltb-false, leb-true}
use lib.Dec.{ltb, leb}
use lib.IntN.{ℤ, pos, negsuc, sub_ℕ, neg_ℤ, ◌+ℤ◌}
use lib.Signed.{mag, lt_z, le_z}
use mir.Syntax.{w64}
use mir.Val.{SFits, of_z, to_z}
use mir.ValLaws.{to_z_pos}
use mir.Facts.{to_z-of_z}
use Rattle.groups.proofs.BoolLaws.{bool_same}
use Rattle.frame.specs.Structure.{digit}

-- ---- a difference of naturals is one of two forms: the one law that takes `sub_ℕ` apart
either : (P : ℤ → Type 0) (t : Bool) (x y : ℤ) → (t ≡ true → P x) → (t ≡ false → P y) → P (cond t x y)
either P true x y f g = f refl
either P false x y f g = g refl

pub sub_cases : (P : ℤ → Type 0) (a b : ℕ) → (a < b → P (negsuc (b - suc a))) → (b ≤ a → P (pos (a - b))) → P (sub_ℕ a b)
sub_cases P a b f g = either P (ltb a b) (negsuc (b - suc a)) (pos (a - b)) (λ e. f (ltb-true a b e)) (λ e. g (ltb-false a b e))

-- ---- two tests are the same where each fact follows from the other
pub ltb_same : (a b c d : ℕ) → (a < b → c < d) → (c < d → a < b) → ltb a b ≡ ltb c d
ltb_same a b c d f g = bool_same (ltb a b) (ltb c d) (λ e. lt-ltb c d (f (ltb-true a b e))) (λ e. lt-ltb a b (g (ltb-true c d e)))

pub leb_same : (a b c d : ℕ) → (a ≤ b → c ≤ d) → (c ≤ d → a ≤ b) → leb a b ≡ leb c d
leb_same a b c d f g = bool_same (leb a b) (leb c d) (λ e. le-leb c d (f (leb-true a b e))) (λ e. le-leb a b (g (leb-true c d e)))

-- ---- a cast from u32, and a sum with an offset, as the machine has them
pub small : (n : ℕ) → n < 2 ^ 32 → to_z w64 n ≡ pos n
small n h = to_z_pos w64 n (omega arith)

pub near_fits : (n : ℕ) (o : ℤ) → n < 2 ^ 32 → digit o ≤ 2 → SFits w64 (pos n +ℤ o)
near_fits n (pos b) h k = record { sfits = omega arith }
near_fits n (negsuc zero) h k = record { sfits = sub_cases (λ z. mag z < 2 ^ 63) n 1 (λ q. omega arith) (λ q. omega arith) }
near_fits n (negsuc (suc b)) h k = absurd (omega arith)

pub sum_fits : (n : ℕ) (o : ℤ) → n < 2 ^ 32 → digit o ≤ 2 → SFits w64 (to_z w64 n +ℤ o)
sum_fits n o h k = subst (λ (z : ℤ). SFits w64 (z +ℤ o)) (sym (small n h)) (near_fits n o h k)

pub shifted : (n : ℕ) (o : ℤ) → n < 2 ^ 32 → digit o ≤ 2 → to_z w64 (of_z w64 (to_z w64 n +ℤ o)) ≡ pos n +ℤ o
shifted n o h k = ap (λ (z : ℤ). to_z w64 (of_z w64 (z +ℤ o))) (small n h) ∙ to_z-of_z (near_fits n o h k)

-- ---- and compared
pub lt_left : (n m : ℕ) (o : ℤ) → digit o ≤ 2 → lt_z (pos n +ℤ o) (pos m) ≡ ltb (n + digit o) (m + 1)
lt_left n m (pos b) k = ltb_same (n + b) m (n + suc b) (m + 1) (λ q. omega arith) (λ q. omega arith)
lt_left n m (negsuc zero) k =
    sub_cases (λ z. lt_z z (pos m) ≡ ltb (n + 0) (m + 1)) n 1
    (λ q. sym (lt-ltb (n + 0) (m + 1) (omega arith)))
    (λ q. ltb_same (n - 1) m (n + 0) (m + 1) (λ r. omega arith) (λ r. omega arith))
lt_left n m (negsuc (suc b)) k = absurd (omega arith)

pub le_left : (n m : ℕ) (o : ℤ) → digit o ≤ 2 → le_z (pos n +ℤ o) (pos m) ≡ leb (n + digit o) (m + 1)
le_left n m (pos b) k = leb_same (n + b) m (n + suc b) (m + 1) (λ q. omega arith) (λ q. omega arith)
le_left n m (negsuc zero) k =
    sub_cases (λ z. le_z z (pos m) ≡ leb (n + 0) (m + 1)) n 1
    (λ q. sym (le-leb (n + 0) (m + 1) (omega arith)))
    (λ q. leb_same (n - 1) m (n + 0) (m + 1) (λ r. omega arith) (λ r. omega arith))
le_left n m (negsuc (suc b)) k = absurd (omega arith)

-- ---- whole: what a test in the code is
pub test_lt_left : (n m : ℕ) (o : ℤ) → n < 2 ^ 32 → m < 2 ^ 32 → digit o ≤ 2
    → lt_z (to_z w64 (of_z w64 (to_z w64 n +ℤ o))) (to_z w64 m) ≡ ltb (n + digit o) (m + 1)
test_lt_left n m o h h' k =
    ap (λ (z : ℤ). lt_z z (to_z w64 m)) (shifted n o h k) ∙ ap (lt_z (pos n +ℤ o)) (small m h') ∙ lt_left n m o k

pub test_le_left : (n m : ℕ) (o : ℤ) → n < 2 ^ 32 → m < 2 ^ 32 → digit o ≤ 2
    → le_z (to_z w64 (of_z w64 (to_z w64 n +ℤ o))) (to_z w64 m) ≡ leb (n + digit o) (m + 1)
test_le_left n m o h h' k =
    ap (λ (z : ℤ). le_z z (to_z w64 m)) (shifted n o h k) ∙ ap (le_z (pos n +ℤ o)) (small m h') ∙ le_left n m o k

-- ---- an offset that is subtracted
pub neg_digit : (o : ℤ) → digit o ≤ 2 → digit (neg_ℤ o) + digit o ≡ 2
neg_digit (pos zero) k = refl
neg_digit (pos (suc zero)) k = refl
neg_digit (pos (suc (suc n))) k = absurd (omega arith)
neg_digit (negsuc zero) k = refl
neg_digit (negsuc (suc n)) k = absurd (omega arith)

-- an offset in a parameter or a local: its bits, read back
pub off_fits : (o : ℤ) → digit o ≤ 2 → SFits w64 o
off_fits (pos n) k = record { sfits = omega arith }
off_fits (negsuc zero) k = record { sfits = omega arith }
off_fits (negsuc (suc n)) k = absurd (omega arith)

pub off_back : (o : ℤ) → digit o ≤ 2 → to_z w64 (of_z w64 o) ≡ o
off_back o k = to_z-of_z (off_fits o k)
