-- Groups and joins: one edge more makes one group fewer exactly when it joins two, so groups and joins are the live nodes.
-- Assumes nothing.
use mathlib.Core.Path.{◌≡◌, refl, sym, ap, ◌∙◌}
use mathlib.Core.Logic.{inl, inr}
use mathlib.Core.Bool.{Bool, true, false, cond, ◌&&◌}
use mathlib.Core.List.{List, [], ◌∷◌}
use Prim.Native.Nat.{ℕ, suc, ◌+◌, ◌<◌, min, max}
use native.Mathlib.Nat.{max-eq_left, max-eq_right, min-eq_left, min-eq_right, le_of_lt}
use native.Mathlib.Omega.{arith}
use borrow.Author.Tests.{eqb-true, eqb-false, eq-eqb, ne_eqb, leb-true, leb-false}
use lib.Dec.{eqb, leb}
use Rattle.groups.specs.Groups.{Edge, Joined, merge, rep, count, is_root, groups, joins}
use Rattle.groups.proofs.CountLaws.{count_same, count_drop}
use Rattle.groups.proofs.RepLaws.{Merged, merged, merge_hit, rep_le, rep_rep, rep_linked, rep_idle, rep_same, Ends, linked_ends}

module _ (e : Edge) (es : List Edge) where
  -- the root that is one no longer
  pub lost : ℕ
  lost = max (rep es e.from) (rep es e.to)

  lost_root : rep es lost ≡ lost
  unfolding lost
  lost_root = go (leb (rep es e.from) (rep es e.to)) refl
    where
      go : (b : Bool) → leb (rep es e.from) (rep es e.to) ≡ b
          → rep es (max (rep es e.from) (rep es e.to)) ≡ max (rep es e.from) (rep es e.to)
      go true t = rw (max-eq_right (leb-true _ _ t)) (rep_rep es e.to)
      go false t = rw (max-eq_left (le_of_lt (leb-false _ _ t))) (rep_rep es e.from)

  kept_root : rep es (min (rep es e.from) (rep es e.to)) ≡ min (rep es e.from) (rep es e.to)
  kept_root = go (leb (rep es e.from) (rep es e.to)) refl
    where
      go : (b : Bool) → leb (rep es e.from) (rep es e.to) ≡ b
          → rep es (min (rep es e.from) (rep es e.to)) ≡ min (rep es e.from) (rep es e.to)
      go true t = rw (min-eq_left (leb-true _ _ t)) (rep_rep es e.from)
      go false t = rw (min-eq_right (le_of_lt (leb-false _ _ t))) (rep_rep es e.to)

  module _ (differ : rep es e.from ≡ rep es e.to → ⊥) where
    lost_before : is_root es lost ≡ true
    unfolding is_root
    lost_before = eq-eqb (rep es lost) lost lost_root

    lost_after : is_root (e ∷ es) lost ≡ false
    unfolding is_root rep lost
    lost_after = ne_eqb (rep (e ∷ es) lost) lost
        (λ q. differ (let r = merge_hit (rep es e.from) (rep es e.to) (rep es lost) lost_root in omega arith))

    others : (a : ℕ) → (a ≡ lost → ⊥) → is_root es a ≡ is_root (e ∷ es) a
    unfolding is_root rep Merged lost
    others a ne = go (merged (rep es e.from) (rep es e.to) (rep es a))
      where
        go : Merged (rep es e.from) (rep es e.to) (rep es a)
            → eqb (rep es a) a ≡ eqb (merge (rep es e.from) (rep es e.to) (rep es a)) a
        go (inl h) =
            ne_eqb (rep es a) a (λ q. ne (sym q ∙ h.0))
            ∙ sym (ne_eqb (merge (rep es e.from) (rep es e.to) (rep es a)) a
            (λ q. differ (let k = ap (rep es) (sym q ∙ h.1) ∙ kept_root in omega arith)))
        go (inr h) = rw h.1 refl

  lost_below : (n : ℕ) → e.from < n → e.to < n → lost < n
  unfolding lost
  lost_below n hf ht = omega (arith, rep_le es e.from, rep_le es e.to)

  -- one group fewer
  pub groups_join : (live : ℕ → Bool) (n : ℕ) → (rep es e.from ≡ rep es e.to → ⊥) → e.from < n → e.to < n → live lost ≡ true
      → groups live es n ≡ suc (groups live (e ∷ es) n)
  unfolding groups
  groups_join live n differ hf ht al =
      count_drop (λ a. live a && is_root es a) (λ a. live a && is_root (e ∷ es) a) n lost (lost_below n hf ht)
      (rw (al, lost_before differ)) (rw (al, lost_after differ)) (λ a ne. ap (λ (b : Bool). live a && b) (others differ a ne))

  pub groups_idle : (live : ℕ → Bool) (n : ℕ) → rep es e.from ≡ rep es e.to → groups live (e ∷ es) n ≡ groups live es n
  unfolding groups is_root
  groups_idle live n q = count_same _ _ n (λ a h. ap (λ (r : ℕ). live a && eqb r a) (rep_idle e es q a))

-- it is live where both ends are
lost_live : (live : ℕ → Bool) (e : Edge) (es : List Edge) → Ends (λ a. live a ≡ true) (e ∷ es) → live (lost e es) ≡ true
unfolding lost
lost_live live e es w = go (leb (rep es e.from) (rep es e.to)) refl
  where
    P : ℕ → Type 0
    P a = live a ≡ true

    go : (b : Bool) → leb (rep es e.from) (rep es e.to) ≡ b → live (max (rep es e.from) (rep es e.to)) ≡ true
    go true t = rw (max-eq_right (leb-true _ _ t)) (linked_ends P es w.2 (rep_linked es e.to) w.1)
    go false t = rw (max-eq_left (le_of_lt (leb-false _ _ t))) (linked_ends P es w.2 (rep_linked es e.from) w.0)

no_edges : (live : ℕ → Bool) (n : ℕ) → groups live [] n ≡ count live n
unfolding groups is_root rep
no_edges live n = count_same _ _ n (λ a h. rw (eq-eqb a a refl) (and_one (live a)))
  where
    and_one : (b : Bool) → (b && true) ≡ b
    and_one true = refl
    and_one false = refl

-- one edge more makes one group fewer exactly when its ends had two representatives
pub groups_edge : (live : ℕ → Bool) (n : ℕ) (e : Edge) (es : List Edge) → Ends (λ a. a < n) (e ∷ es) → Ends (λ a. live a ≡ true) (e ∷ es)
    → groups live es n ≡ cond (eqb (rep es e.from) (rep es e.to)) 0 1 + groups live (e ∷ es) n
groups_edge live n e es w v = go (eqb (rep es e.from) (rep es e.to)) refl
  where
    go : (b : Bool) → eqb (rep es e.from) (rep es e.to) ≡ b
        → groups live es n ≡ cond (eqb (rep es e.from) (rep es e.to)) 0 1 + groups live (e ∷ es) n
    go true t = let s = groups_idle e es live n (eqb-true _ _ t) in rw t (omega arith)
    go false t = let s = groups_join e es live n (eqb-false _ _ t) w.0 w.1 (lost_live live e es v) in rw t (omega arith)

-- groups and joins together are the live nodes
pub groups_joins : (live : ℕ → Bool) (n : ℕ) (es : List Edge) → Ends (λ a. a < n) es → Ends (λ a. live a ≡ true) es
    → groups live es n + joins es ≡ count live n
unfolding joins
groups_joins live n [] w v = let e = no_edges live n in omega arith
groups_joins live n (e ∷ es) w v = omega (arith, groups_joins live n es w.2 v.2, groups_edge live n e es w v)

-- where all nodes are live
pub all_live : (es : List Edge) → Ends (λ r. ◌≡◌ {A = Bool} true true) es
all_live [] = tt
all_live (e ∷ es) = (refl, refl, all_live es)

-- ---- order and repeats do not matter

pub groups_over : (live : ℕ → Bool) (es fs : List Edge) (n : ℕ) → ((a : ℕ) → rep es a ≡ rep fs a) → groups live es n ≡ groups live fs n
unfolding groups is_root
groups_over live es fs n h = count_same _ _ n (λ a l. ap (λ (k : ℕ). live a && eqb k a) (h a))

-- two lists that join the same nodes count the same joins
pub joins_same : (n : ℕ) (es fs : List Edge) → Ends (λ a. a < n) es → Ends (λ a. a < n) fs → ((a b : ℕ) → Joined es a b → Joined fs a b)
    → ((a b : ℕ) → Joined fs a b → Joined es a b) → joins es ≡ joins fs
joins_same n es fs we wf f g =
    let a = groups_joins (λ r. true) n es we (all_live es) in
    let b = groups_joins (λ r. true) n fs wf (all_live fs) in
    let c = groups_over (λ r. true) es fs n (rep_same es fs f g) in
    omega arith
