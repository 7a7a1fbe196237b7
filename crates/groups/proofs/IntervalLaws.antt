-- How many numbers pass a test that is another one and, besides, true on an interval.
-- Assumes nothing.
use mathlib.Core.Path.{◌≡◌, refl}
use mathlib.Core.Logic.{◌⊎◌, inl, inr}
use mathlib.Core.Bool.{Bool, true, false, cond}
use Prim.Native.Nat.{ℕ, zero, suc, ◌+◌, ◌-◌, ◌≤◌, ◌<◌, min}
use native.Mathlib.Omega.{arith}
use borrow.Author.Tests.{leb-true, leb-false, ltb-true, ltb-false}
use lib.Dec.{leb, ltb}
use Rattle.groups.specs.Groups.{count}

-- f and h differ on the numbers from a to before b alone, which h keeps and f does not
module _ (f h : ℕ → Bool) (a b : ℕ) (upto : a ≤ b) (off : (p : ℕ) → a ≤ p → p < b → f p ≡ false) (on : (p : ℕ) → a ≤ p → p < b → h p ≡ true)
    (same : (p : ℕ) → (p < a) ⊎ (b ≤ p) → h p ≡ f p) where
  count_upto : (n : ℕ) → count h n ≡ (min b n - min a n) + count f n
  unfolding count
  count_upto zero = omega arith
  count_upto (suc n) = go (leb a n) refl (ltb n b) refl (count_upto n)
    where
      go : (s : Bool) → leb a n ≡ s → (t : Bool) → ltb n b ≡ t → count h n ≡ (min b n - min a n) + count f n
          → cond (h n) 1 0 + count h n ≡ (min b (suc n) - min a (suc n)) + (cond (f n) 1 0 + count f n)
      go true s true t i = let l = leb-true a n s in let m = ltb-true n b t in rw (on n l m, off n l m) (omega arith)
      go true s false t i = let l = leb-true a n s in let m = ltb-false n b t in rw (same n (inr m)) (omega arith)
      go false s c t i = let l = leb-false a n s in rw (same n (inl l)) (omega arith)

  pub count_interval : (n : ℕ) → b ≤ n → count h n ≡ (b - a) + count f n
  count_interval n l = omega (arith, count_upto n)
