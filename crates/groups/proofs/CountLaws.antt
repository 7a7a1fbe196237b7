-- How many numbers pass a test, and the place of the r-th that does.
-- Assumes nothing.
use mathlib.Core.Path.{◌≡◌, refl, ap, ap₂, ◌∙◌, subst}
use mathlib.Core.Bool.{Bool, true, false, cond, ◌&&◌}
use Prim.Native.Nat.{ℕ, zero, suc, ◌+◌, ◌≤◌, ◌<◌}
use native.Mathlib.Nat.{le_refl, le_trans, not-suc-le-zero, le-add_right}
use native.Mathlib.Omega.{arith}
use borrow.Author.Tests.{eqb-true, eqb-false, leb-true, leb-false, ltb-true, ltb-false}
use lib.Dec.{eqb, leb, ltb}
use Rattle.groups.specs.Groups.{count}

pub count_same : (f g : ℕ → Bool) (n : ℕ) → ((a : ℕ) → a < n → f a ≡ g a) → count f n ≡ count g n
unfolding count
count_same f g zero h = refl
count_same f g (suc n) h = ap₂ (λ (b : Bool) (k : ℕ). cond b 1 0 + k) (h n (le_refl (suc n))) (count_same f g n (λ a k. h a (omega arith)))

-- the two tests differ at m alone, which f keeps
pub count_drop : (f g : ℕ → Bool) (n m : ℕ) → m < n → f m ≡ true → g m ≡ false → ((a : ℕ) → (a ≡ m → ⊥) → f a ≡ g a)
    → count f n ≡ suc (count g n)
unfolding count
count_drop f g zero m h p q s = absurd (not-suc-le-zero h)
count_drop f g (suc n) m h p q s = go (eqb n m) refl (count_drop f g n m)
  where
    go : (b : Bool) → eqb n m ≡ b → (m < n → f m ≡ true → g m ≡ false → ((a : ℕ) → (a ≡ m → ⊥) → f a ≡ g a) → count f n ≡ suc (count g n))
        → cond (f n) 1 0 + count f n ≡ suc (cond (g n) 1 0 + count g n)
    go true t below =
        let e = eqb-true n m t in
        let fn : f n ≡ true = rw e p in
        let gn : g n ≡ false = rw e q in
        let same : count f n ≡ count g n = count_same f g n (λ a k. s a (omega arith)) in
        rw (fn, gn) (omega arith)
    go false t below =
        let ne = eqb-false n m t in
        let r = below (omega arith) p q s in
        rw (s n ne) (omega arith)

module _ (f : ℕ → Bool) where
  pub count_on : (a : ℕ) → f a ≡ true → count f (suc a) ≡ suc (count f a)
  unfolding count
  count_on a h = rw h (omega arith)

  pub count_off : (a : ℕ) → f a ≡ false → count f (suc a) ≡ count f a
  unfolding count
  count_off a h = rw h (omega arith)

  pub count_none : count f 0 ≡ 0
  unfolding count
  count_none = refl

  -- the first apart from the others
  pub count_front : (n : ℕ) → count f (suc n) ≡ cond (f 0) 1 0 + count (λ i. f (suc i)) n
  unfolding count
  count_front zero = refl
  count_front (suc n) = omega (arith, count_front n)

  count_step : (a : ℕ) → count f a ≤ count f (suc a)
  unfolding count
  count_step a = omega arith

  pub count_mono : (a b : ℕ) → a ≤ b → count f a ≤ count f b
  count_mono a zero h = let e : a ≡ 0 = omega arith in subst (λ (k : ℕ). count f a ≤ count f k) e (le_refl (count f a))
  count_mono a (suc b) h = go (eqb a (suc b)) refl (count_mono a b)
    where
      go : (t : Bool) → eqb a (suc b) ≡ t → (a ≤ b → count f a ≤ count f b) → count f a ≤ count f (suc b)
      go true t below = subst (λ (k : ℕ). count f a ≤ count f k) (eqb-true a (suc b) t) (le_refl (count f a))
      go false t below = let ne = eqb-false a (suc b) t in le_trans (below (omega arith)) (count_step b)

  pub count_less : (a b : ℕ) → a < b → f b ≡ true → count f (suc a) < count f (suc b)
  count_less a b h e = let m = count_mono (suc a) b h in omega (arith, count_on b e)

  -- each number up to the count is reached, at one that the test keeps
  pub count_reach : (n k : ℕ) → 0 < k → k ≤ count f n → (q : ℕ) × (q < n) × (f q ≡ true) × (count f (suc q) ≡ k)
  count_reach zero k h l = absurd (omega (arith, count_none))
  count_reach (suc n) k h l = go (leb k (count f n)) refl (f n) refl (count_reach n k h)
    where
      go : (t : Bool) → leb k (count f n) ≡ t → (b : Bool) → f n ≡ b
          → (k ≤ count f n → (q : ℕ) × (q < n) × (f q ≡ true) × (count f (suc q) ≡ k)) → (q : ℕ) × (q < suc n) × (f q ≡ true)
          × (count f (suc q) ≡ k)
      go true t b e below = let r = below (leb-true _ _ t) in (r.0, omega arith, r.2, r.3)
      go false t true e below = let m = leb-false k (count f n) t in (n, omega arith, e, omega (arith, count_on n e))
      go false t false e below = let m = leb-false k (count f n) t in absurd (omega (arith, count_off n e))

pub count_le : (f g : ℕ → Bool) (n : ℕ) → ((a : ℕ) → a < n → f a ≡ true → g a ≡ true) → count f n ≤ count g n
unfolding count
count_le f g zero h = le_refl 0
count_le f g (suc n) h = go (f n) refl (count_le f g n (λ a l. h a (omega arith)))
  where
    go : (b : Bool) → f n ≡ b → count f n ≤ count g n → cond (f n) 1 0 + count f n ≤ cond (g n) 1 0 + count g n
    go true e i = rw (e, h n (le_refl (suc n)) e) (omega arith)
    go false e i = rw e (omega arith)

-- where none passes from m on, the count stays
pub count_beyond : (f : ℕ → Bool) (m k : ℕ) → ((a : ℕ) → m ≤ a → f a ≡ false) → count f (m + k) ≡ count f m
count_beyond f m zero h = ap (count f) (omega arith)
count_beyond f m (suc k) h =
    let e : m + suc k ≡ suc (m + k) = omega arith in
    ap (count f) e ∙ count_off f (m + k) (h (m + k) (le-add_right m k)) ∙ count_beyond f m k h

pub count_all : (n : ℕ) → count (λ r. true) n ≡ n
unfolding count
count_all zero = refl
count_all (suc n) = let i = count_all n in omega arith

pub count_most : (f : ℕ → Bool) (n : ℕ) → count f n ≤ n
count_most f n = omega (arith, count_le f (λ r. true) n (λ a l e. refl), count_all n)

-- ---- the place of the r-th, from 0

pub place : (ℕ → Bool) → ℕ → ℕ → ℕ
place f zero r = 0
place f (suc n) r = cond (f n && eqb (count f n) r) n (place f n r)

pub record Placed (f : ℕ → Bool) (n r p : ℕ) : Type 0 where
  pub under : p < n
  pub passes : f p ≡ true
  pub rank : count f p ≡ r

pub place_right : (f : ℕ → Bool) (n r : ℕ) → r < count f n → Placed f n r (place f n r)
unfolding place
place_right f zero r h = absurd (unfold count in not-suc-le-zero h)
place_right f (suc n) r h = go (f n) refl (eqb (count f n) r) refl (place_right f n r)
  where
    wider : (k : ℕ) → Placed f n r k → Placed f (suc n) r k
    wider k P = record { under = omega (arith, P.under); passes = P.passes; rank = P.rank }

    go : (b : Bool) → f n ≡ b → (c : Bool) → eqb (count f n) r ≡ c → (r < count f n → Placed f n r (place f n r))
        → Placed f (suc n) r (cond (f n && eqb (count f n) r) n (place f n r))
    go true e true t below = rw (e, t) (record { under = le_refl (suc n); passes = e; rank = eqb-true _ _ t })
    go true e false t below = rw (e, t) (wider _ (below (let ne = eqb-false (count f n) r t in omega (arith, count_on f n e))))
    go false e c t below = rw e (wider _ (below (omega (arith, count_off f n e))))

pub placed_only : (f : ℕ → Bool) (n r p q : ℕ) → Placed f n r p → Placed f n r q → p ≡ q
placed_only f n r p q P Q = go (ltb p q) refl (ltb q p) refl
  where
    go : (b : Bool) → ltb p q ≡ b → (c : Bool) → ltb q p ≡ c → p ≡ q
    go true t c u = absurd (omega (arith, count_mono f (suc p) q (ltb-true p q t), count_on f p P.passes, P.rank, Q.rank))
    go false t true u = absurd (omega (arith, count_mono f (suc q) p (ltb-true q p u), count_on f q Q.passes, P.rank, Q.rank))
    go false t false u = omega (arith, ltb-false p q t, ltb-false q p u)
