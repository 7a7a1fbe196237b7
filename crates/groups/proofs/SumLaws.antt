-- Sums over the numbers that pass a test, and over groups.
-- Assumes nothing.
use mathlib.Core.Path.{◌≡◌, refl, sym, ap, ap₂, ◌∙◌}
use mathlib.Core.Bool.{Bool, true, false, cond, ◌&&◌}
use Prim.Native.Nat.{ℕ, zero, suc, ◌+◌, ◌*◌, ◌≤◌, ◌<◌}
use native.Mathlib.Decide.{le_ind}
use native.Mathlib.Nat.{le_refl, le_trans, not-suc-le-zero, suc-mul}
use native.Mathlib.Omega.{arith}
use borrow.Author.Tests.{eqb-true, eqb-false, eq-eqb, ne_eqb}
use lib.Dec.{eqb}
use Rattle.groups.specs.Groups.{sum_over, group_sum}

pub no_value : (b : Bool) (x : ℕ) → x ≡ 0 → cond b x 0 ≡ 0
no_value true x e = e
no_value false x e = refl

-- ---- term by term

pub sum_terms : (f g : ℕ → Bool) (v w : ℕ → ℕ) (n : ℕ) → ((a : ℕ) → a < n → cond (f a) (v a) 0 ≡ cond (g a) (w a) 0)
    → sum_over f v n ≡ sum_over g w n
unfolding sum_over
sum_terms f g v w zero h = refl
sum_terms f g v w (suc n) h = ap₂ (λ (x : ℕ) (y : ℕ). x + y) (h n (le_refl (suc n))) (sum_terms f g v w n (λ a l. h a (omega arith)))

pub sum_same : (f g : ℕ → Bool) (v : ℕ → ℕ) (n : ℕ) → ((a : ℕ) → a < n → f a ≡ g a) → sum_over f v n ≡ sum_over g v n
sum_same f g v n h = sum_terms f g v v n (λ a l. ap (λ (b : Bool). cond b (v a) 0) (h a l))

pub sum_values : (f : ℕ → Bool) (v w : ℕ → ℕ) (n : ℕ) → ((a : ℕ) → a < n → f a ≡ true → v a ≡ w a) → sum_over f v n ≡ sum_over f w n
sum_values f v w n h = sum_terms f f v w n (λ a l. go a l (f a) refl)
  where
    go : (a : ℕ) → a < n → (b : Bool) → f a ≡ b → cond (f a) (v a) 0 ≡ cond (f a) (w a) 0
    go a l true e = rw e (h a l e)
    go a l false e = rw e refl

-- each term is a sum of two
pub sum_add : (f g h : ℕ → Bool) (v w u : ℕ → ℕ) (n : ℕ)
    → ((a : ℕ) → a < n → cond (f a) (v a) 0 ≡ cond (g a) (w a) 0 + cond (h a) (u a) 0)
    → sum_over f v n ≡ sum_over g w n + sum_over h u n
unfolding sum_over
sum_add f g h v w u zero e = refl
sum_add f g h v w u (suc n) e =
    let i = sum_add f g h v w u n (λ a l. e a (omega arith)) in
    let t = e n (le_refl (suc n)) in
    omega arith

pub sum_le : (f g : ℕ → Bool) (v w : ℕ → ℕ) (n : ℕ) → ((a : ℕ) → a < n → cond (f a) (v a) 0 ≤ cond (g a) (w a) 0)
    → sum_over f v n ≤ sum_over g w n
unfolding sum_over
sum_le f g v w zero h = le_refl 0
sum_le f g v w (suc n) h =
    let i = sum_le f g v w n (λ a l. h a (omega arith)) in
    let t = h n (le_refl (suc n)) in
    omega arith

pub sum_none : (f : ℕ → Bool) (v : ℕ → ℕ) (n : ℕ) → ((a : ℕ) → a < n → cond (f a) (v a) 0 ≡ 0) → sum_over f v n ≡ 0
unfolding sum_over
sum_none f v zero h = refl
sum_none f v (suc n) h =
    let i = sum_none f v n (λ a l. h a (omega arith)) in
    let t = h n (le_refl (suc n)) in
    omega arith

-- ---- more numbers

module _ (f : ℕ → Bool) (v : ℕ → ℕ) where
  pub sum_zero : sum_over f v 0 ≡ 0
  unfolding sum_over
  sum_zero = refl

  pub sum_suc : (n : ℕ) → sum_over f v (suc n) ≡ cond (f n) (v n) 0 + sum_over f v n
  unfolding sum_over
  sum_suc n = refl

  sum_step : (n : ℕ) → sum_over f v n ≤ sum_over f v (suc n)
  unfolding sum_over
  sum_step n = omega arith

  pub sum_mono : (a b : ℕ) → a ≤ b → sum_over f v a ≤ sum_over f v b
  sum_mono a b h = le_ind (λ m. sum_over f v a ≤ sum_over f v m) (le_refl (sum_over f v a)) (λ m l i. le_trans i (sum_step m)) b h

  -- where the terms from a on are 0, the sum stays
  pub sum_beyond : (a b : ℕ) → a ≤ b → ((r : ℕ) → a ≤ r → r < b → cond (f r) (v r) 0 ≡ 0) → sum_over f v b ≡ sum_over f v a
  sum_beyond a b h = le_ind (λ m. ((r : ℕ) → a ≤ r → r < m → cond (f r) (v r) 0 ≡ 0) → sum_over f v m ≡ sum_over f v a) (λ z. refl)
      (λ m l i z. omega (arith, sum_suc m, z m l (le_refl (suc m)), i (λ r k j. z r k (omega arith)))) b h

  -- where no value is above m
  pub sum_most : (m n : ℕ) → ((a : ℕ) → a < n → v a ≤ m) → sum_over f v n ≤ n * m
  unfolding sum_over
  sum_most m zero h = omega arith
  sum_most m (suc n) h = go (f n) (sum_most m n (λ a l. h a (omega arith)))
    where
      go : (t : Bool) → sum_over f v n ≤ n * m → cond t (v n) 0 + sum_over f v n ≤ suc n * m
      go true below = omega (arith, h n (le_refl (suc n)), suc-mul n m)
      go false below = omega (arith, suc-mul n m)

  -- one number alone passes
  pub sum_single : (n m : ℕ) → m < n → f m ≡ true → ((a : ℕ) → a < n → (a ≡ m → ⊥) → f a ≡ false) → sum_over f v n ≡ v m
  unfolding sum_over
  sum_single zero m h on off = absurd (not-suc-le-zero h)
  sum_single (suc n) m h on off = go (eqb n m) refl (sum_single n m)
    where
      go : (b : Bool) → eqb n m ≡ b → (m < n → f m ≡ true → ((a : ℕ) → a < n → (a ≡ m → ⊥) → f a ≡ false) → sum_over f v n ≡ v m)
          → cond (f n) (v n) 0 + sum_over f v n ≡ v m
      go true t below =
          let e = eqb-true n m t in
          let at : f n ≡ true = rw e on in
          let before : sum_over f v n ≡ 0 = sum_none f v n (λ a l. rw (off a (omega arith) (omega arith)) refl) in
          let same : v n ≡ v m = ap v e in
          rw at (omega arith)
      go false t below =
          let ne = eqb-false n m t in
          let i = below (omega arith) on (λ a l. off a (omega arith)) in
          rw (off n (le_refl (suc n)) ne) (omega arith)

-- ---- groups, where `root` gives the representative of each node

module _ (root v : ℕ → ℕ) where
  -- what two groups have is no more than what there is
  pub two_groups : (n g h : ℕ) → (g ≡ h → ⊥) → group_sum root v n g + group_sum root v n h ≤ sum_over (λ r. true) v n
  unfolding group_sum sum_over
  two_groups zero g h ne = le_refl 0
  two_groups (suc n) g h ne = go (eqb (root n) g) refl (eqb (root n) h) refl (two_groups n g h ne)
    where
      go : (a : Bool) → eqb (root n) g ≡ a → (b : Bool) → eqb (root n) h ≡ b
          → sum_over (λ s. eqb (root s) g) v n + sum_over (λ s. eqb (root s) h) v n ≤ sum_over (λ r. true) v n
          → cond (eqb (root n) g) (v n) 0 + sum_over (λ s. eqb (root s) g) v n
          + (cond (eqb (root n) h) (v n) 0 + sum_over (λ s. eqb (root s) h) v n) ≤ v n + sum_over (λ r. true) v n
      go true s true t i = absurd (ne (sym (eqb-true (root n) g s) ∙ eqb-true (root n) h t))
      go true s false t i = rw (s, t) (omega arith)
      go false s true t i = rw (s, t) (omega arith)
      go false s false t i = rw (s, t) (omega arith)

  -- one value, at the node k
  one_value : (f : ℕ → Bool) (k x n : ℕ) → k < n → sum_over f (λ g. cond (eqb k g) x 0) n ≡ cond (f k) x 0
  one_value f k x n h =
      sum_terms f (eqb k) (λ g. cond (eqb k g) x 0) (λ g. cond (f g) x 0) n (λ a l. turn (f a) (eqb k a))
      ∙ sum_single (eqb k) (λ g. cond (f g) x 0) n k h (eq-eqb k k refl) (λ a l ne. ne_eqb k a (λ q. ne (sym q)))
    where
      turn : (b c : Bool) → cond b (cond c x 0) 0 ≡ cond c (cond b x 0) 0
      turn true true = refl
      turn true false = refl
      turn false true = refl
      turn false false = refl

  -- the sums of groups add up to the sum over the nodes, where f keeps all of a group or nothing
  module _ (n : ℕ) (below : (s : ℕ) → s < n → root s < n) (still : (s : ℕ) → s < n → root (root s) ≡ root s) (f : ℕ → Bool)
      (whole : (s : ℕ) → s < n → f (root s) ≡ f s) where
    abbrev first : ℕ → Bool
    first g = eqb (root g) g && f g

    upto : (m : ℕ) → m ≤ n → sum_over first (group_sum root v m) n ≡ sum_over f v m
    unfolding group_sum sum_over
    upto zero h = sum_none first (λ g. 0) n (λ a l. no_value (first a) 0 refl)
    upto (suc m) h =
        let i = upto m (omega arith) in
        let parts : sum_over first (λ g. cond (eqb (root m) g) (v m) 0 + sum_over (λ s. eqb (root s) g) v m) n
        ≡ sum_over first (λ g. cond (eqb (root m) g) (v m) 0) n + sum_over first (λ g. sum_over (λ s. eqb (root s) g) v m) n =
        sum_add first first first _ _ _ n (λ a l. split (first a) _ _) in
        let at : sum_over first (λ g. cond (eqb (root m) g) (v m) 0) n ≡ cond (first (root m)) (v m) 0 =
        one_value first (root m) (v m) n (below m h) in
        let is : first (root m) ≡ f m = rw (eq-eqb (root (root m)) (root m) (still m h)) (whole m h) in
        let term : cond (first (root m)) (v m) 0 ≡ cond (f m) (v m) 0 = ap (λ (b : Bool). cond b (v m) 0) is in
        omega arith
      where
        split : (b : Bool) (x y : ℕ) → cond b (x + y) 0 ≡ cond b x 0 + cond b y 0
        split true x y = refl
        split false x y = refl

    pub sum_groups : sum_over first (group_sum root v n) n ≡ sum_over f v n
    sum_groups = upto n (le_refl n)
