-- Tests of all numbers below n and of lists, the last number that passes, and lists made of numbers in turn.
-- Assumes nothing.
use mathlib.Core.Path.{◌≡◌, refl, sym, ap, ◌∙◌, ap₂}
use mathlib.Core.Bool.{Bool, true, false, cond, true≢false}
use mathlib.Core.List.{List, [], ◌∷◌, map}
use Prim.Native.Nat.{ℕ, zero, suc, ◌+◌, ◌<◌}
use native.Mathlib.Nat.{le_refl, not-suc-le-zero, zero-add}
use native.Mathlib.Omega.{arith}
use borrow.Author.Tests.{eqb-true, eqb-false}
use lib.Dec.{eqb}
use lib.ListN.{length, get_or, length-map}
use Rattle.groups.proofs.BoolLaws.{and_true, and_left, and_right}
use Rattle.frame.specs.ChainRule.{range}
use Rattle.frame.proofs.ChainRuleLaws.{length_range}
use Rattle.frame.specs.Lists.{all, every, last_below}

-- where one alone passes, it is found
pub last_only : (f : ℕ → Bool) (n k : ℕ) → k < n → f k ≡ true → ((i : ℕ) → i < n → f i ≡ true → i ≡ k) → last_below f n ≡ k
unfolding last_below
last_only f zero k h e only = absurd (not-suc-le-zero h)
last_only f (suc n) k h e only = go (f n) refl (last_only f n k)
  where
    near : (t : Bool) → eqb k n ≡ t → f n ≡ false → k < n
    near true t b = absurd (true≢false (sym e ∙ ap f (eqb-true k n t) ∙ b))
    near false t b = let ne = eqb-false k n t in omega arith

    go : (b : Bool) → f n ≡ b → (k < n → f k ≡ true → ((i : ℕ) → i < n → f i ≡ true → i ≡ k) → last_below f n ≡ k)
        → cond (f n) n (last_below f n) ≡ k
    go true b below = rw b (only n (le_refl (suc n)) b)
    go false b below = rw b (below (near (eqb k n) refl b) e (λ i l. only i (omega arith)))

-- ---- the list f 0, f 1, .., of n of them

module _ {A : Type 0} (f : ℕ → A) where
  pub listed_from : (a n k : ℕ) (d : A) → k < n → get_or (map f (range a n)) k d ≡ f (a + k)
  unfolding range
  listed_from a zero k d h = absurd (not-suc-le-zero h)
  listed_from a (suc n) zero d h = let e : a ≡ a + 0 = omega arith in ap f e
  listed_from a (suc n) (suc k) d h = let e : suc a + k ≡ a + suc k = omega arith in listed_from (suc a) n k d (omega arith) ∙ ap f e

  pub listed_at : (n k : ℕ) (d : A) → k < n → get_or (map f (range 0 n)) k d ≡ f k
  listed_at n k d h = listed_from 0 n k d h ∙ ap f (zero-add k)

  pub listed_length : (n : ℕ) → length (map f (range 0 n)) ≡ n
  listed_length n = length-map (range 0 n) f ∙ length_range 0 n

-- ---- lists over a range

pub same_map : {A : Type 0} (f g : ℕ → A) (a n : ℕ) → ((p : ℕ) → p < a + n → f p ≡ g p) → map f (range a n) ≡ map g (range a n)
unfolding range
same_map f g a zero h = refl
same_map {A} f g a (suc n) h = ap₂ (λ (x : A) (xs : List A). x ∷ xs) (h a (omega arith)) (same_map f g (suc a) n (λ p l. h p (omega arith)))

pub map_twice : {A : Type 0} (f : ℕ → A) (g : ℕ → ℕ) (l : List ℕ) → map f (map g l) ≡ map (λ p. f (g p)) l
map_twice f g [] = refl
map_twice {A} f g (p ∷ l) = ap (λ (xs : List A). f (g p) ∷ xs) (map_twice f g l)

-- ---- tests of all below n, and of a list

pub all_at : (f : ℕ → Bool) (n r : ℕ) → all f n ≡ true → r < n → f r ≡ true
unfolding all
all_at f zero r h l = absurd (not-suc-le-zero l)
all_at f (suc n) r h l = go (eqb r n) refl (all_at f n r (and_right (f n) (all f n) h))
  where
    go : (b : Bool) → eqb r n ≡ b → (r < n → f r ≡ true) → f r ≡ true
    go true e below = rw (eqb-true r n e) (and_left (f n) (all f n) h)
    go false e below = let ne = eqb-false r n e in below (omega arith)

pub at_all : (f : ℕ → Bool) (n : ℕ) → ((r : ℕ) → r < n → f r ≡ true) → all f n ≡ true
unfolding all
at_all f zero h = refl
at_all f (suc n) h = and_true (f n) (all f n) (h n (le_refl (suc n))) (at_all f n (λ r l. h r (omega arith)))

pub every_at : (bs : List Bool) (i : ℕ) → every bs ≡ true → get_or bs i true ≡ true
unfolding every
every_at [] i h = refl
every_at (b ∷ bs) zero h = and_left b (every bs) h
every_at (b ∷ bs) (suc i) h = every_at bs i (and_right b (every bs) h)

pub every_more : (b : Bool) (bs : List Bool) → b ≡ true → every bs ≡ true → every (b ∷ bs) ≡ true
unfolding every
every_more b bs h k = and_true b (every bs) h k

pub every_none : every [] ≡ true
unfolding every
every_none = refl
