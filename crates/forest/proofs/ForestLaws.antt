-- Parents that are not above their runs: roots, their counts and numbers, and the grouping as edges.
-- Assumes nothing.
use mathlib.Core.Path.{◌≡◌, refl, sym, ap, ◌∙◌, subst}
use mathlib.Core.Logic.{◌⊎◌, inl, inr}
use mathlib.Core.Bool.{Bool, true, false, not, cond}
use mathlib.Core.List.Memᴰ
use mathlib.Core.List.{List, ◌∷◌, Memᴰ}
use Prim.Native.Nat.{ℕ, zero, suc, ◌+◌, ◌-◌, ◌≤◌, ◌<◌}
use native.Mathlib.Decide.{ℕ_discrete, le_ind}
use native.Mathlib.Nat.{le_refl, le_trans, le_antisymm, not-suc-le-zero, lt_of_le_of_lt}
use native.Mathlib.Omega.{arith}
use borrow.Author.Tests.{eq-eqb, ne_eqb, ltb-true, ltb-false}
use lib.Dec.{eqb, ltb}
use Rattle.groups.specs.Groups.{one, more, Edge, Linked, rep, is_root, count, groups, joins}
use Rattle.groups.specs.Numbers.{number}
use Rattle.groups.proofs.CountLaws.{count_same, count_less, count_all}
use Rattle.groups.proofs.RepLaws.{rep_le, rep_linked, rep_rep, rep_least, Ends, ends_all, rep_outside}
use Rattle.groups.proofs.GroupLaws.{groups_joins, all_live}
use Rattle.forest.specs.Forest.{up, root_of, own, roots, non_roots, number_in, grouping}

module _ (p : ℕ → ℕ) where
  up_stays : (k r : ℕ) → p r ≡ r → up p k r ≡ r
  unfolding up
  up_stays zero r e = refl
  up_stays (suc k) r e = ap (up p k) e ∙ up_stays k r e

  up_suc : (k r : ℕ) → up p (suc k) r ≡ p (up p k r)
  unfolding up
  up_suc zero r = refl
  up_suc (suc k) r = up_suc k (p r)

  pub root_stays : (r : ℕ) → p r ≡ r → root_of p r ≡ r
  unfolding root_of
  root_stays r e = up_stays r r e

  -- every run is a root or not
  pub roots_others : (n : ℕ) → roots p n + non_roots p n ≡ n
  unfolding roots non_roots count
  roots_others zero = refl
  roots_others (suc n) = go (own p n) (roots_others n)
    where
      go : (b : Bool) → count (own p) n + count (λ r. not (own p r)) n ≡ n
          → cond b 1 0 + count (own p) n + (cond (not b) 1 0 + count (λ r. not (own p r)) n) ≡ suc n
      go true i = omega arith
      go false i = omega arith

  module _ (n : ℕ) (low : (r : ℕ) → r < n → p r ≤ r) where
    up_le : (k r : ℕ) → r < n → up p k r ≤ r
    unfolding up
    up_le zero r h = le_refl r
    up_le (suc k) r h = let d = low r h in le_trans (up_le k (p r) (omega arith)) d

    up_root : (k r : ℕ) → r < n → r ≤ k → p (up p k r) ≡ up p k r
    unfolding up
    up_root zero r h l = let d = low r h in omega arith
    up_root (suc k) r h l = go (up_root k (p r)) (ℕ_discrete (p r) r)
      where
        d : p r ≤ r
        d = low r h

        go : (p r < n → p r ≤ k → p (up p k (p r)) ≡ up p k (p r)) → Dec (p r ≡ r) → p (up p k (p r)) ≡ up p k (p r)
        go below (yes e) = rw (ap (up p k) e ∙ up_stays k r e) e
        go below (no e) = below (omega (arith, d)) (omega (arith, d))

    up_more : (r k : ℕ) → r < n → r ≤ k → up p k r ≡ up p r r
    up_more r k h l = le_ind (λ m. up p m r ≡ up p r r) refl (λ m l' e. up_suc m r ∙ up_root m r h l' ∙ e) k l

    pub root_le : (r : ℕ) → r < n → root_of p r ≤ r
    unfolding root_of
    root_le r h = up_le r r h

    pub root_root : (r : ℕ) → r < n → p (root_of p r) ≡ root_of p r
    unfolding root_of
    root_root r h = up_root r r h (le_refl r)

    pub root_parent : (r : ℕ) → r < n → root_of p (p r) ≡ root_of p r
    unfolding root_of up
    root_parent r h = let d = low r h in sym (up_more (p r) r (omega arith) d) ∙ up_suc r r ∙ up_root r r h (le_refl r)

    along : (R : ℕ → ℕ) → ((r : ℕ) → r < n → R (p r) ≡ R r) → (k r : ℕ) → r < n → R (up p k r) ≡ R r
    unfolding up
    along R step zero r h = refl
    along R step (suc k) r h = let d = low r h in along R step k (p r) (omega arith) ∙ step r h

    -- only the root is the same at a run and at its parent, and at a root the run itself
    pub root_unique : (R : ℕ → ℕ) → ((r : ℕ) → r < n → R (p r) ≡ R r) → ((r : ℕ) → r < n → p r ≡ r → R r ≡ r) → (r : ℕ) → r < n
        → root_of p r ≡ R r
    unfolding root_of
    root_unique R step stop r h =
        let l = up_le r r h in sym (stop (up p r r) (omega arith) (up_root r r h (le_refl r))) ∙ along R step r r h

    -- a run is a root exactly when it is its own
    pub own_root : (r : ℕ) → r < n → own p r ≡ eqb (root_of p r) r
    unfolding own
    own_root r h = go (ℕ_discrete (p r) r)
      where
        go : Dec (p r ≡ r) → eqb (p r) r ≡ eqb (root_of p r) r
        go (yes e) = cc (root_stays r e)
        go (no e) = ne_eqb _ _ e ∙ sym (ne_eqb _ _ (λ q. e (subst (λ (s : ℕ). p s ≡ s) q (root_root r h))))

    -- a root's number is that of its group's runs, and of no others
    pub number_root : (r s : ℕ) → r < n → s < n → p r ≡ r → eqb (number_in p s) (number_in p r) ≡ eqb (root_of p s) r
    unfolding number_in roots
    number_root r s hr hs e = go (ltb (root_of p s) r) refl (ltb r (root_of p s)) refl
      where
        self : root_of p r ≡ r
        self = root_stays r e

        less : (a b : ℕ) → a < b → p b ≡ b → count (own p) (suc a) < count (own p) (suc b)
        less a b l q = count_less (own p) a b l (unfold own in eq-eqb (p b) b q)

        go : (x : Bool) → ltb (root_of p s) r ≡ x → (y : Bool) → ltb r (root_of p s) ≡ y
            → eqb (count (own p) (suc (root_of p s))) (count (own p) (suc (root_of p r))) ≡ eqb (root_of p s) r
        go true x y z =
            let l = ltb-true (root_of p s) r x in
            rw self (ne_eqb (count (own p) (suc (root_of p s))) (count (own p) (suc r)) (λ q. omega (arith, less (root_of p s) r l e))
            ∙ sym (ne_eqb (root_of p s) r (λ q. omega arith)))
        go false x true z =
            let l = ltb-true r (root_of p s) z in
            rw self (ne_eqb (count (own p) (suc (root_of p s))) (count (own p) (suc r))
            (λ q. omega (arith, less r (root_of p s) l (root_root s hs)))
            ∙ sym (ne_eqb (root_of p s) r (λ q. omega arith)))
        go false x false z =
            let q : root_of p s ≡ r = omega (arith, ltb-false (root_of p s) r x, ltb-false r (root_of p s) z) in
            rw (self, q) (eq-eqb (count (own p) (suc r)) (count (own p) (suc r)) refl ∙ sym (eq-eqb r r refl))

    -- where the roots are the representatives that edges give, the counts and the numbers are those of the edges
    module _ (es : List Edge) (right : (r : ℕ) → r < n → root_of p r ≡ rep es r) where
      pub roots_groups : (m : ℕ) → m ≤ n → roots p m ≡ groups (λ r. true) es m
      unfolding roots groups is_root
      roots_groups m h = count_same _ _ m (λ r l. own_root r (omega arith) ∙ ap (λ (k : ℕ). eqb k r) (right r (omega arith)))

      pub number_groups : (r : ℕ) → r < n → number_in p r ≡ number (λ k. true) es r
      unfolding number_in number
      number_groups r h =
          roots_groups (suc (root_of p r)) (let l = root_le r h in omega arith) ∙ ap (λ (k : ℕ). groups (λ r. true) es (suc k)) (right r h)

    -- ---- the grouping as edges

    -- each run has an edge to its parent, and there are no others
    edge_in : (m r : ℕ) → r < m → Memᴰ (record { from = r; to = p r }) (grouping p m)
    unfolding grouping
    edge_in zero r h = absurd (not-suc-le-zero h)
    edge_in (suc m) r h = go (ℕ_discrete r m) (edge_in m r)
      where
        go : Dec (r ≡ m) → (r < m → Memᴰ (record { from = r; to = p r }) (grouping p m))
            → Memᴰ (record { from = r; to = p r }) (record { from = m; to = p m } ∷ grouping p m)
        go (yes e) below = Memᴰ.head (ap (λ (k : ℕ). record { from = k; to = p k }) e)
        go (no e) below = Memᴰ.tail (below (omega arith))

    pub edge_out : (m : ℕ) (e : Edge) → Memᴰ e (grouping p m) → (e.from < m) × (e.to ≡ p e.from)
    unfolding grouping
    edge_out zero e k = absurd (Memᴰ.not-nil k)
    edge_out (suc m) e k = go (Memᴰ.cases_cons k) (edge_out m e)
      where
        go : (e ≡ record { from = m; to = p m }) ⊎ Memᴰ e (grouping p m)
            → (Memᴰ e (grouping p m) → (e.from < m) × (e.to ≡ p e.from)) → (e.from < suc m) × (e.to ≡ p e.from)
        go (inl q) below = let f = ap (λ (x : Edge). x.from) q in (omega arith, ap (λ (x : Edge). x.to) q ∙ ap p (sym f))
        go (inr q) below = let b = below q in (omega arith, b.1)

    abbrev es : List Edge
    es = grouping p n

    pub grouping_ends : Ends (λ r. r < n) es
    grouping_ends = ends_all (λ r. r < n) es (λ e m. let o = edge_out n e m in let d = low e.from o.0 in (o.0, omega arith))

    up_linked : (k r : ℕ) → r < n → Linked es r (up p k r)
    unfolding up
    up_linked zero r h = one
    up_linked (suc k) r h = more (inl (edge_in n r h)) (up_linked k (p r) (let d = low r h in omega arith))

    root_linked : (r : ℕ) → r < n → Linked es r (root_of p r)
    unfolding root_of
    root_linked r h = up_linked r r h

    linked_root : {r s : ℕ} → Linked es r s → root_of p r ≡ root_of p s
    linked_root one = refl
    linked_root (more {a = a} {b = b} (inl m) h) =
        let o = edge_out n _ m in sym (root_parent a o.0) ∙ ap (root_of p) (sym o.1) ∙ linked_root h
    linked_root (more {a = a} {b = b} (inr m) h) = let o = edge_out n _ m in ap (root_of p) o.1 ∙ root_parent b o.0 ∙ linked_root h

    -- each run's representative is its root
    pub grouping_rep : (r : ℕ) → r < n → rep es r ≡ root_of p r
    grouping_rep r h =
        let below : rep es r < n = lt_of_le_of_lt (rep_le es r) h in
        le_antisymm (rep_least es (root_linked r h))
        (subst (λ (k : ℕ). k ≤ rep es r) (sym (linked_root (rep_linked es r))) (root_le (rep es r) below))

    -- hence other edges between these runs that give the roots give the same representatives everywhere
    pub grouping_rep_all : (fs : List Edge) → Ends (λ r. r < n) fs → ((r : ℕ) → r < n → root_of p r ≡ rep fs r) → (a : ℕ)
        → rep es a ≡ rep fs a
    grouping_rep_all fs w right a = go (ltb a n) refl
      where
        go : (b : Bool) → ltb a n ≡ b → rep es a ≡ rep fs a
        go true t = let h = ltb-true a n t in grouping_rep a h ∙ right a h
        go false t = let h = ltb-false a n t in rep_outside n es grouping_ends a h ∙ sym (rep_outside n fs w a h)

    -- the roots are as many as the runs less the joins, and as the groups
    pub roots_count : roots p n ≡ n - non_roots p n
    roots_count = let e = roots_others n in omega arith

    pub roots_grouping : roots p n ≡ groups (λ r. true) es n
    roots_grouping = roots_groups es (λ r h. sym (grouping_rep r h)) n (le_refl n)

    pub grouping_joins : joins es ≡ non_roots p n
    grouping_joins = omega (arith, groups_joins (λ r. true) n es grouping_ends (all_live es), count_all n, roots_grouping, roots_others n)

-- where each parent is the run's representative, so is its root
pub canonical_root : (p : ℕ → ℕ) (es : List Edge) (n : ℕ) → ((r : ℕ) → r < n → p r ≡ rep es r) → (r : ℕ) → r < n → root_of p r ≡ rep es r
canonical_root p es n right r h =
    let own : p (p r) ≡ p r = ap p (right r h) ∙ right (rep es r) (lt_of_le_of_lt (rep_le es r) h) ∙ rep_rep es r ∙ sym (right r h) in
    sym (root_parent p n (λ a l. rw (right a l) (rep_le es a)) r h) ∙ root_stays p (p r) own ∙ right r h

-- parents with the same roots give the same numbers
module _ (p q : ℕ → ℕ) (n : ℕ) (low-p : (r : ℕ) → r < n → p r ≤ r) (low-q : (r : ℕ) → r < n → q r ≤ r)
    (same : (r : ℕ) → r < n → root_of p r ≡ root_of q r) where
  roots_upto : (m : ℕ) → m ≤ n → roots p m ≡ roots q m
  roots_upto m h =
      roots_groups p n low-p (grouping q n) (λ r l. same r l ∙ sym (grouping_rep q n low-q r l)) m h
      ∙ sym (roots_groups q n low-q (grouping q n) (λ r l. sym (grouping_rep q n low-q r l)) m h)

  pub numbers_same : (r : ℕ) → r < n → number_in p r ≡ number_in q r
  unfolding number_in
  numbers_same r h = ap (λ (k : ℕ). roots p (suc k)) (same r h) ∙ roots_upto (suc (root_of q r)) (lt_of_le_of_lt (root_le q n low-q r h) h)
