-- Products that stop at a limit.
-- Assumes nothing.
use mathlib.Core.Path.{◌≡◌, sym, ap, ◌∙◌}
use mathlib.Core.List.{List, [], ◌∷◌}
use Prim.Native.Nat.{ℕ, zero, suc, ◌*◌, ◌≤◌, min}
use native.Mathlib.Nat.{mul-zero, mul-one, one-mul, mul_assoc, mul-le-mul_right, le-mul_of_pos_right}
use native.Mathlib.Omega.{arith, min_cases}
use Rattle.std.specs.List.{fold}
use Rattle.frame.specs.Shape.{size}

-- it may stop before the last factor
pub limited_step : (M x d : ℕ) → min (min x M * d) M ≡ min (x * d) M
limited_step M x zero = rw (mul-zero (min x M), mul-zero x)
limited_step M x (suc d) = min_cases x M (min (min x M * suc d) M ≡ min (x * suc d) M) (λ h e. ap (λ (k : ℕ). min (k * suc d) M) e) above
  where
    above : M ≤ x → min x M ≡ M → min (min x M * suc d) M ≡ min (x * suc d) M
    above h e =
        let p = mul-le-mul_right (suc d) h in
        let q = le-mul_of_pos_right {m = suc d} M (omega arith) in
        ap (λ (k : ℕ). min (k * suc d) M) e ∙ (omega (arith, p, q))

-- all in turn
limited_from : (M x : ℕ) (dims : List ℕ) → fold (λ (a b : ℕ). min (a * b) M) (min x M) dims ≡ min (x * size dims) M
unfolding size
limited_from M x [] = ap (λ (k : ℕ). min k M) (sym (mul-one x))
limited_from M x (d ∷ ds) =
    ap (λ (k : ℕ). fold (λ (a b : ℕ). min (a * b) M) k ds) (limited_step M x d)
    ∙ limited_from M (x * d) ds ∙ ap (λ (k : ℕ). min k M) (mul_assoc x d (size ds))

pub limited_all : (M : ℕ) (dims : List ℕ) → 1 ≤ M → fold (λ (a b : ℕ). min (a * b) M) 1 dims ≡ min (size dims) M
limited_all M dims h =
    let e : 1 ≡ min 1 M = omega arith in
    ap (λ (k : ℕ). fold (λ (a b : ℕ). min (a * b) M) k dims) e ∙ limited_from M 1 dims ∙ ap (λ (k : ℕ). min k M) (one-mul (size dims))
