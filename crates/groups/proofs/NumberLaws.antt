-- `number` numbers the groups, and nothing else does.
-- Assumes nothing.
use mathlib.Core.Path.{◌≡◌, refl, sym, ap, ◌∙◌, subst}
use mathlib.Core.Bool.{Bool, true, false, ◌&&◌}
use mathlib.Core.List.{List}
use Prim.Native.Nat.{ℕ, zero, suc, ◌≤◌, ◌<◌}
use native.Mathlib.Nat.{le_refl, le_antisymm, lt_of_le_of_lt, lt_of_lt_of_le, not-suc-le-zero}
use native.Mathlib.Omega.{arith}
use borrow.Author.Tests.{eqb-true, eqb-false, eq-eqb, ltb-true, ltb-false}
use lib.Dec.{eqb, ltb}
use Rattle.groups.specs.Groups.{Chain, Edge, Joined, rep, count, is_root, groups}
use Rattle.groups.specs.Numbers.{First, Numbered, number}
use Rattle.groups.proofs.BoolLaws.{and_true, and_left, and_right}
use Rattle.groups.proofs.CountLaws.{count_on, count_mono, count_less, count_reach}
use Rattle.groups.proofs.RepLaws.{linked_sym, linked_rep, rep_linked, rep_right, rep_rep, rep_le, rep_least, Ends, linked_ends}

module _ (live : ℕ → Bool) (es : List Edge) (live-ends : Ends (λ a. live a ≡ true) es) where
  begins : ℕ → Bool
  begins a = live a && is_root es a

  rep_live : (p : ℕ) → live p ≡ true → live (rep es p) ≡ true
  rep_live p a = linked_ends (λ (k : ℕ). live k ≡ true) es live-ends (rep_linked es p) a

  rep_begins : (p : ℕ) → live p ≡ true → begins (rep es p) ≡ true
  unfolding begins is_root
  rep_begins p a = and_true _ _ (rep_live p a) (eq-eqb _ _ (rep_rep es p))

  rep_first : (p : ℕ) → live p ≡ true → First live (Joined es) (rep es p)
  rep_first p a = record { is_live = rep_live p a; least = λ q h. subst (λ (k : ℕ). k ≤ q) (rep_rep es p) (rep_least es h) }

  first_rep : (p : ℕ) → First live (Joined es) p → rep es p ≡ p
  first_rep p f = le_antisymm (rep_le es p) (f.least (rep es p) (rep_linked es p))

  number_on : (p : ℕ) → live p ≡ true → number live es p ≡ count begins (suc (rep es p))
  unfolding number groups begins
  number_on p a = rw a

  number_off : (p : ℕ) → live p ≡ false → number live es p ≡ 0
  unfolding number
  number_off p a = rw a

  number_less : (p q : ℕ) → live p ≡ true → live q ≡ true → rep es p < rep es q → number live es p < number live es q
  number_less p q a b h = rw (number_on p a, number_on q b) (count_less begins (rep es p) (rep es q) h (rep_begins q b))

  number_inj : (p q : ℕ) → live p ≡ true → live q ≡ true → number live es p ≡ number live es q → rep es p ≡ rep es q
  number_inj p q a b e = go (ltb (rep es p) (rep es q)) refl (ltb (rep es q) (rep es p)) refl
    where
      go : (s : Bool) → ltb (rep es p) (rep es q) ≡ s → (t : Bool) → ltb (rep es q) (rep es p) ≡ t → rep es p ≡ rep es q
      go true s t k = absurd (omega (arith, number_less p q a b (ltb-true _ _ s)))
      go false s true k = absurd (omega (arith, number_less q p b a (ltb-true _ _ k)))
      go false s false k = omega (arith, ltb-false (rep es p) (rep es q) s, ltb-false (rep es q) (rep es p) k)

  reached : (size k : ℕ) → (q : ℕ) × (q < size) × (begins q ≡ true) × (count begins (suc q) ≡ k)
      → (q : ℕ) × (q < size) × (number live es q ≡ k)
  unfolding begins is_root
  reached size k r =
      let a : live r.0 ≡ true = and_left _ _ r.2 in
      let f : rep es r.0 ≡ r.0 = eqb-true _ _ (and_right (live r.0) (eqb (rep es r.0) r.0) r.2) in
      (r.0, r.1, number_on r.0 a ∙ ap (λ (k : ℕ). count begins (suc k)) f ∙ r.3)

  -- the computed numbers are right
  pub number_right : (size : ℕ) → Numbered live (Joined es) size (groups live es size) (number live es)
  unfolding groups begins is_root
  number_right size = record {
    off = λ p h a. number_off p a;
    on = λ p h a. rw (number_on p a) (
      omega (arith, count_on begins (rep es p) (rep_begins p a)),
      count_mono begins (suc (rep es p)) size
          (lt_of_le_of_lt (rep_le es p) h),
    );
    same = λ p q hp hq a b. (
      λ e. (rep_right es p q).0 (number_inj p q a b e),
      λ h. number_on p a ∙ ap (λ (k : ℕ). count begins (suc k))
          (linked_rep es h) ∙ sym (number_on q b),
    );
    order = λ p q hp hq f g h. number_less p q f.is_live g.is_live (rw (first_rep p f, first_rep q g) h);
    used = λ k h l. reached size k (count_reach begins size k h l);
  }

  -- ---- and nothing else is

  module _ (size n : ℕ) (ν : ℕ → ℕ) (N : Numbered live (Joined es) size n ν) where
    numbered_live : (p : ℕ) → p < size → 0 < ν p → live p ≡ true
    numbered_live p h l = go (live p) refl
      where
        go : (b : Bool) → live p ≡ b → live p ≡ true
        go true e = e
        go false e = absurd (omega (arith, N.off p h e))

    -- a live node's representative has its number
    numbered_rep : (p : ℕ) → p < size → live p ≡ true → ν (rep es p) ≡ ν p
    numbered_rep p h a = (N.same (rep es p) p (lt_of_le_of_lt (rep_le es p) h) h (rep_live p a) a).1 (linked_sym es (rep_linked es p))

    before : (p q : ℕ) → p < size → q < size → live p ≡ true → live q ≡ true → ν q < ν p → rep es q < rep es p
    before p q hp hq a b l = go (ltb (rep es q) (rep es p)) refl (eqb (rep es p) (rep es q)) refl
      where
        go : (t : Bool) → ltb (rep es q) (rep es p) ≡ t → (u : Bool) → eqb (rep es p) (rep es q) ≡ u → rep es q < rep es p
        go true t u v = ltb-true _ _ t
        go false t true v = absurd (omega (arith, numbered_rep p hp a, numbered_rep q hq b, ap ν (eqb-true (rep es p) (rep es q) v)))
        go false t false v =
            let le = ltb-false (rep es q) (rep es p) t in
            let ne = eqb-false (rep es p) (rep es q) v in
            let o = N.order (rep es p) (rep es q) (lt_of_le_of_lt (rep_le es p) hp) (lt_of_le_of_lt (rep_le es q) hq) (rep_first p a)
            (rep_first q b) (omega arith) in
            absurd (omega (arith, numbered_rep p hp a, numbered_rep q hq b))

    -- every smaller number comes before
    pub growth : (p k : ℕ) → p < size → 0 < k → k < ν p → (q : ℕ) × (q < p) × (ν q ≡ k)
    growth p k h hk l =
        let a = numbered_live p h (omega arith) in
        let u = N.used k hk (omega (arith, (N.on p h a).1)) in
        let b = numbered_live u.0 u.1 (omega arith) in
        (rep es u.0, lt_of_lt_of_le (before p u.0 h u.1 a b (omega arith)) (rep_le es p), numbered_rep u.0 u.1 b ∙ u.2)

  module _ (size n m : ℕ) (ν μ : ℕ → ℕ) (N : Numbered live (Joined es) size n ν) (M : Numbered live (Joined es) size m μ) where
    -- where they agree before p, the second gives p no larger number
    not_less : (p : ℕ) → p < size → live p ≡ true → ((q : ℕ) → q < p → ν q ≡ μ q) → ν p < μ p → ⊥
    not_less p h a below l =
        let g = growth size m μ M p (ν p) h (N.on p h a).0 l in
        let hq : g.0 < size = omega arith in
        let b = numbered_live size m μ M g.0 hq (omega (arith, (N.on p h a).0)) in
        let e : ν g.0 ≡ ν p = below g.0 g.1 ∙ g.2 in
        omega (arith, (M.same g.0 p hq h b a).1 ((N.same g.0 p hq h b a).0 e))

    count_below : (p : ℕ) → p < size → 0 < ν p → ν p ≡ μ p → ν p ≤ m
    count_below p h l e = omega (arith, (M.on p h (numbered_live size n ν N p h l)).1)

  module _ (size n m : ℕ) (ν μ : ℕ → ℕ) (N : Numbered live (Joined es) size n ν) (M : Numbered live (Joined es) size m μ) where
    agree : (b p : ℕ) → p < b → p < size → ν p ≡ μ p
    agree zero p hb h = absurd (not-suc-le-zero hb)
    agree (suc b) p hb h = go (live p) refl (λ q hq. agree b q (omega arith) (omega arith))
      where
        go : (t : Bool) → live p ≡ t → ((q : ℕ) → q < p → ν q ≡ μ q) → ν p ≡ μ p
        go false e below = N.off p h e ∙ sym (M.off p h e)
        go true e below =
            let l = not_less size n m ν μ N M p h e below in let g = not_less size m n μ ν M N p h e (λ q k. sym (below q k)) in omega arith

    -- the numbers of the groups are the only ones, and so is their count
    pub number_unique : (p : ℕ) → p < size → ν p ≡ μ p
    number_unique p h = agree size p h h

    pub count_at_most : n ≤ m
    count_at_most = go (ltb 0 n) refl
      where
        go : (t : Bool) → ltb 0 n ≡ t → n ≤ m
        go true t =
            let l = ltb-true 0 n t in
            let u = N.used n l (le_refl n) in
            let c = count_below size n m ν μ N M u.0 u.1 (omega arith) (number_unique u.0 u.1) in omega arith
        go false t = let l = ltb-false 0 n t in omega arith

  pub count_unique : (size n m : ℕ) (ν μ : ℕ → ℕ) → Numbered live (Joined es) size n ν → Numbered live (Joined es) size m μ → n ≡ m
  count_unique size n m ν μ N M = le_antisymm (count_at_most size n m ν μ N M) (count_at_most size m n μ ν M N)

-- a numbering goes over to a relation that leads the same ways
module _ {R S : ℕ → ℕ → Type 0} (f : (a b : ℕ) → Chain R a b → Chain S a b) (g : (a b : ℕ) → Chain S a b → Chain R a b) where
  first_over : {live : ℕ → Bool} {p : ℕ} → First live S p → First live R p
  first_over h = record { is_live = h.is_live; least = λ q k. h.least q (f _ _ k) }

  pub numbered_over : {live : ℕ → Bool} {n m : ℕ} {ν : ℕ → ℕ} → Numbered live R n m ν → Numbered live S n m ν
  numbered_over N = record {
    off = N.off;
    on = N.on;
    same = λ p q hp hq a b. (λ e. f p q ((N.same p q hp hq a b).0 e), λ h. (N.same p q hp hq a b).1 (g p q h));
    order = λ p q hp hq a b. N.order p q hp hq (first_over a) (first_over b);
    used = N.used;
  }

-- a numbering is known by its numbers below size
pub numbered_same : {live : ℕ → Bool} {R : ℕ → ℕ → Type 0} {n m : ℕ} (ν μ : ℕ → ℕ) → ((p : ℕ) → p < n → ν p ≡ μ p) → Numbered live R n m ν
    → Numbered live R n m μ
numbered_same ν μ e N =
    record {
      off = λ p h a. sym (e p h) ∙ N.off p h a;
      on = λ p h a. rw (← e p h) (N.on p h a);
      same = λ p q hp hq a b. rw (← e p hp, ← e q hq) (N.same p q hp hq a b);
      order = λ p q hp hq f g l. rw (← e p hp, ← e q hq) (N.order p q hp hq f g l);
      used = λ k h l. let u = N.used k h l in (u.0, u.1, sym (e u.0 u.1) ∙ u.2);
    }
