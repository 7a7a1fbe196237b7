-- A search over the numbers below another: std's, over their list, is the one of the specification.
-- Assumes nothing.
use mathlib.Core.Path.{◌≡◌, refl, sym, ap, ◌∙◌}
use mathlib.Core.Bool.{Bool, true, false, ◌||◌}
use Prim.Native.Nat.{ℕ, zero, suc, ◌+◌}
use native.Mathlib.Omega.{arith}
use Rattle.std.specs.List.{list_any, range_with_len}
use Rattle.frame.specs.ChainRule.{any}

-- the number at the end is tested last by the one and first by the other
or_moved : (a b c : Bool) → a || (b || c) ≡ b || (a || c)
or_moved true true c = refl
or_moved true false c = refl
or_moved false b c = refl

any_from : (f : ℕ → Bool) (a n : ℕ) → f (a + n) || list_any f (range_with_len a n) ≡ list_any f (range_with_len a (suc n))
any_from f a zero = ap (λ (k : ℕ). f k || false) (omega arith)
any_from f a (suc n) =
    let e : a + suc n ≡ a + 1 + n = omega arith in
    ap (λ (k : ℕ). f k || (f a || list_any f (range_with_len (a + 1) n))) e
    ∙ or_moved (f (a + 1 + n)) (f a) (list_any f (range_with_len (a + 1) n))
    ∙ ap (λ (b : Bool). f a || b) (any_from f (a + 1) n)

pub any_below : (f : ℕ → Bool) (n : ℕ) → list_any f (range_with_len 0 n) ≡ any f n
unfolding any
any_below f zero = refl
any_below f (suc n) =
    let e : 0 + n ≡ n = omega arith in
    sym (any_from f 0 n)
    ∙ ap (λ (k : ℕ). f k || list_any f (range_with_len 0 n)) e
    ∙ ap (λ (b : Bool). f n || b) (any_below f n)
