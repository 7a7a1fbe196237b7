-- The sizes of groups: what the roots' sizes add up to, where each is a sum over its group.
-- Assumes nothing.
use mathlib.Core.Path.{◌≡◌, refl, sym, ap, ap₂, ◌∙◌}
use mathlib.Core.Logic.{◌≢◌}
use mathlib.Core.Bool.{Bool, true, false, true≢false, cond, ◌&&◌}
use Prim.Native.Nat.{ℕ, ◌+◌, ◌≤◌, ◌<◌}
use native.Mathlib.Decide.{le_ind}
use native.Mathlib.Nat.{le_refl, lt_of_le_of_lt}
use native.Mathlib.Omega.{arith}
use borrow.Author.Tests.{eqb-true, eq-eqb, ne_eqb, lt-ltb, le-ltb, ltb-true, ltb-false}
use lib.Dec.{eqb, ltb}
use Rattle.groups.specs.Groups.{sum_over, group_sum}
use Rattle.groups.proofs.SumLaws.{no_value, sum_terms, sum_same, sum_values, sum_suc, sum_mono, sum_beyond, sum_single, two_groups}
use Rattle.groups.proofs.SumLaws.{sum_groups}
use Rattle.forest.specs.Forest.{root_of, own, root_sizes, Sums, brought}
use Rattle.forest.proofs.ForestLaws.{root_stays, root_le, root_root, own_root}

-- the same roots, with the same sizes, over the same values
pub sums_same : (root root' size size' v : ℕ → ℕ) (n : ℕ) → ((r : ℕ) → r < n → root' r ≡ root r)
    → ((r : ℕ) → r < n → root r ≡ r → size' r ≡ size r)
    → Sums root size v n → Sums root' size' v n
unfolding group_sum
sums_same root root' size size' v n roots sizes S r h e =
    let own : root r ≡ r = sym (roots r h) ∙ e in
    sizes r h own ∙ S r h own ∙ sum_same _ _ v n (λ s l. ap (λ (k : ℕ). eqb k r) (sym (roots s l)))

pub sums_values : (root size v w : ℕ → ℕ) (n : ℕ) → ((r : ℕ) → r < n → v r ≡ w r) → Sums root size v n → Sums root size w n
unfolding group_sum
sums_values root size v w n same S r h e = S r h e ∙ sum_values _ v w n (λ s l t. same s l)

-- fewer roots have no more
pub sizes_fewer : (p size : ℕ → ℕ) (m n : ℕ) → m ≤ n → root_sizes p size m ≤ root_sizes p size n
unfolding root_sizes
sizes_fewer p size m n h = sum_mono (own p) size m n h

module _ (p size : ℕ → ℕ) (n : ℕ) (low : (r : ℕ) → r < n → p r ≤ r) where
  root_own : (r : ℕ) → r < n → root_of p r ≡ r → own p r ≡ true
  root_own r h e = own_root p n low r h ∙ eq-eqb (root_of p r) r e

  own_is : (r : ℕ) → own p r ≡ true → root_of p r ≡ r
  unfolding own
  own_is r e = root_stays p r (eqb-true (p r) r e)

  -- of the values that are sizes at roots and nothing elsewhere, the sum over a group is its root's size
  pub own_sums : Sums (root_of p) size (λ r. cond (own p r) (size r) 0) n
  unfolding group_sum
  own_sums r h e =
      sym (sum_terms (λ s. eqb (root_of p s) r) (λ s. eqb s r) (λ s. cond (own p s) (size s) 0) size n (λ s l. at s l (own p s) refl)
      ∙ sum_single (λ s. eqb s r) size n r h (eq-eqb r r refl) (λ s l ne. ne_eqb s r ne))
    where
      at : (s : ℕ) → s < n → (b : Bool) → own p s ≡ b → cond (eqb (root_of p s) r) (cond (own p s) (size s) 0) 0 ≡ cond (eqb s r) (size s) 0
      at s l true t = rw (t, own_is s t) refl
      at s l false t = rw (t, ne_eqb s r (λ q. true≢false (sym (root_own r h e) ∙ ap (own p) (sym q) ∙ t)))
          (no_value (eqb (root_of p s) r) 0 refl)

  -- sizes that are sums over groups add up to the sum over all
  module _ (v : ℕ → ℕ) (S : Sums (root_of p) size v n) where
    pub sums_total : root_sizes p size n ≡ sum_over (λ r. true) v n
    unfolding root_sizes
    sums_total =
        sum_terms (own p) (λ g. eqb (root_of p g) g && true) size (group_sum (root_of p) v n) n (λ g l. at g l (own p g) refl)
        ∙ sum_groups (root_of p) v n (λ s l. lt_of_le_of_lt (root_le p n low s l) l)
        (λ s l. root_stays p (root_of p s) (root_root p n low s l)) (λ r. true) (λ s l. refl)
      where
        at : (g : ℕ) → g < n → (b : Bool) → own p g ≡ b
            → cond (own p g) (size g) 0 ≡ cond (eqb (root_of p g) g && true) (group_sum (root_of p) v n g) 0
        at g l true t = rw (t, eq-eqb (root_of p g) g (own_is g t)) (S g l (own_is g t))
        at g l false t = let e : eqb (root_of p g) g ≡ false = sym (own_root p n low g l) ∙ t in rw (t, e) refl

  -- two roots have together no more than all
  pub two_roots : (a b : ℕ) → a < n → b < n → root_of p a ≡ a → root_of p b ≡ b → (a ≡ b → ⊥) → size a + size b ≤ root_sizes p size n
  two_roots a b ha hb ea eb ne =
      let v : ℕ → ℕ = λ r. cond (own p r) (size r) 0 in
      omega (
        arith,
        own_sums a ha ea,
        own_sums b hb eb,
        two_groups (root_of p) (λ r. cond (own p r) (size r) 0) n a b ne,
        sums_total (λ r. cond (own p r) (size r) 0) own_sums,
      )

-- runs n to before b that are their own parents: none of them is in an earlier group, and no other run is in theirs
module _ (p v : ℕ → ℕ) (n b : ℕ) (l : n ≤ b) (low : (r : ℕ) → r < n → p r ≤ r) (alone : (r : ℕ) → n ≤ r → r < b → p r ≡ r) where
  apart : (r s : ℕ) → n ≤ s → s < b → s ≢ r → eqb (root_of p s) r ≡ false
  apart r s m h ne = ne_eqb (root_of p s) r (λ z. ne (sym (root_stays p s (alone s m h)) ∙ z))

  pub group_old : (r : ℕ) → r < n → group_sum (root_of p) v b r ≡ group_sum (root_of p) v n r
  unfolding group_sum
  group_old r h = sum_beyond _ v n b l (λ s m k. rw (apart r s m k (omega arith)) refl)

  pub group_new : (r : ℕ) → n ≤ r → r < b → group_sum (root_of p) v b r ≡ v r
  unfolding group_sum
  group_new r m h =
      sum_single _ v b r h (eq-eqb (root_of p r) r (root_stays p r (alone r m h))) (λ s k ne. other s k ne (ltb s n) refl)
    where
      other : (s : ℕ) → s < b → s ≢ r → (t : Bool) → ltb s n ≡ t → eqb (root_of p s) r ≡ false
      other s k ne true t = let j = ltb-true s n t in ne_eqb (root_of p s) r (λ z. omega (arith, root_le p n low s j))
      other s k ne false t = apart r s (ltb-false s n t) k ne

-- what runs bring, where the first `old` have their groups
module _ (old : ℕ) (p size long : ℕ → ℕ) where
  pub brought_old : (r : ℕ) → r < old → brought old p size long r ≡ cond (own p r) (size r) 0
  unfolding brought
  brought_old r h = rw (lt-ltb r old h) refl

  pub brought_new : (r : ℕ) → old ≤ r → brought old p size long r ≡ long r
  unfolding brought
  brought_new r h = rw (le-ltb r old h) refl

  pub brought_sums : ((r : ℕ) → r < old → p r ≤ r) → Sums (root_of p) size (brought old p size long) old
  brought_sums low = sums_values (root_of p) size (λ r. cond (own p r) (size r) 0) (brought old p size long) old
      (λ r h. sym (brought_old r h)) (own_sums p size old low)

  -- all of it, beside the lengths of all runs
  pub brought_total : (b : ℕ) → old ≤ b
      → sum_over (λ r. true) (brought old p size long) b + sum_over (λ r. true) long old ≡ root_sizes p size old + sum_over (λ r. true) long b
  unfolding root_sizes
  brought_total b h = le_ind
      (λ m. sum_over (λ r. true) (brought old p size long) m + sum_over (λ r. true) long old
      ≡ sum_over (own p) size old + sum_over (λ r. true) long m)
      (ap (λ (x : ℕ). x + sum_over (λ r. true) long old)
      (sum_terms (λ r. true) (own p) (brought old p size long) size old (λ r l. brought_old r l)))
      (λ m l i. omega (arith, sum_suc (λ r. true) (brought old p size long) m, sum_suc (λ r. true) long m, brought_new m l, i)) b h

  -- over coarser groups, it is the sum of what the old sizes were sums of, and of the lengths of the others
  module _ (b : ℕ) (h : old ≤ b) (low : (r : ℕ) → r < old → p r ≤ r) (root v u : ℕ → ℕ)
      (coarser : (r : ℕ) → r < old → root (root_of p r) ≡ root r) (S : Sums (root_of p) size v old)
      (before : (r : ℕ) → r < old → u r ≡ v r) (after : (r : ℕ) → old ≤ r → r < b → u r ≡ long r) where
    over_old : (r : ℕ) → group_sum root (brought old p size long) old r ≡ group_sum root u old r
    unfolding group_sum
    over_old r =
        sum_terms _ _ (brought old p size long) (group_sum (root_of p) v old) old (λ s l. at s l (own p s) refl)
        ∙ sum_groups (root_of p) v old (λ s l. lt_of_le_of_lt (root_le p old low s l) l)
        (λ s l. root_stays p (root_of p s) (root_root p old low s l)) (λ s. eqb (root s) r)
        (λ s l. ap (λ (x : ℕ). eqb x r) (coarser s l))
        ∙ sum_values _ v u old (λ s l e. sym (before s l))
      where
        at : (s : ℕ) → s < old → (t : Bool) → own p s ≡ t
            → cond (eqb (root s) r) (brought old p size long s) 0
            ≡ cond (eqb (root_of p s) s && eqb (root s) r) (group_sum (root_of p) v old s) 0
        at s l true t =
            let e = own_is p size old low s t in
            rw (brought_old s l, t, eq-eqb (root_of p s) s e) (ap (λ (x : ℕ). cond (eqb (root s) r) x 0) (S s l e))
        at s l false t =
            let e : eqb (root_of p s) s ≡ false = sym (own_root p old low s l) ∙ t in
            rw (brought_old s l, t, e) (no_value (eqb (root s) r) 0 refl)

    pub brought_over : (r : ℕ) → group_sum root (brought old p size long) b r ≡ group_sum root u b r
    brought_over r = le_ind (λ m. m ≤ b → group_sum root (brought old p size long) m r ≡ group_sum root u m r) (λ k. over_old r)
        (λ m l i k. unfold group_sum in
        let e : brought old p size long m ≡ u m = brought_new m l ∙ sym (after m l k) in
        sum_suc _ (brought old p size long) m ∙ ap₂ (λ (x : ℕ) (y : ℕ). cond (eqb (root m) r) x 0 + y) e (i (omega arith))
        ∙ sym (sum_suc _ u m)) b h (le_refl b)
