-- Unions along a list of edges: one, none, one list after another, another list that joins the same runs; and how many roots are left.
-- Assumes nothing.
use mathlib.Core.Path.{◌≡◌, refl, sym, ap, ◌∙◌}
use mathlib.Core.Logic.{inl, inr, ◌⊎◌}
use mathlib.Core.Bool.{Bool, true, false, not, cond}
use mathlib.Core.List.Memᴰ
use mathlib.Core.List.{List, [], ◌∷◌, ◌++◌, Memᴰ}
use Prim.Native.Nat.{ℕ, ◌+◌, ◌<◌}
use native.Mathlib.Nat.{le_refl}
use native.Mathlib.Omega.{arith}
use lib.Dec.{eqb}
use Rattle.groups.specs.Groups as Groups
use Rattle.groups.specs.Groups.{Edge, rep, joins, visit}
use Rattle.groups.proofs.RepLaws.{Ends, rep_same}
use Rattle.groups.proofs.GroupLaws.{groups_joins, all_live, joins_same}
use Rattle.groups.proofs.VisitLaws.{visit_append, visit_joined, joined_visit, rep_over, joins_over, ends_visit}
use Rattle.forest.specs.Forest.{root_of, own, roots, grouping, root_sizes}
use Rattle.forest.specs.Unions.{parent_in, size_in, Parents, Sized, Union, United}
use Rattle.forest.proofs.ForestLaws.{grouping_rep, grouping_rep_all, grouping_ends, roots_groups, roots_grouping}
use Rattle.forest.proofs.SizeLaws.{own_sums, sums_total}
use Rattle.forest.proofs.ParentLaws.{kept_parents, kept_refl, kept_trans}

-- the grouping that the words hold
abbrev held : List ℕ → ℕ → List Edge
held p n = grouping (parent_in p) n

module _ (p : List ℕ) (n : ℕ) (P : Parents p n) where
  pub united_none : United p p n [] 0
  united_none = record {
    kept = kept_refl p n P;
    grouped = λ r h. sym (unfold visit in grouping_rep (parent_in p) n P.low r h);
    counted =
        unfold visit in omega arith;
    sized = λ v S. S;
  }

  -- one union
  module _ (q : List ℕ) (a b : ℕ) (t : Bool) (ha : a < n) (hb : b < n) (J : Union p q n a b t) where
    abbrev e : Edge
    e = record { from = a; to = b }

    joins_told : cond t 1 0 + joins (held p n) ≡ joins (e ∷ held p n)
    unfolding joins
    joins_told = rw (J.told, grouping_rep (parent_in p) n P.low a ha, grouping_rep (parent_in p) n P.low b hb)
        (go (eqb (root_of (parent_in p) a) (root_of (parent_in p) b)))
      where
        go : (x : Bool) → cond (not x) 1 0 + joins (held p n) ≡ cond x 0 1 + joins (held p n)
        go true = refl
        go false = refl

    pub joined_united : United p q n (e ∷ []) (cond t 1 0)
    joined_united = record {
      kept = J.kept;
      grouped = λ r h. (unfold visit in J.grouped r h);
      counted = unfold visit in joins_told;
      sized = J.sized;
    }

  -- the sum of the roots' sizes stands
  pub united_sizes : (q : List ℕ) (es : List Edge) (t : ℕ) → United p q n es t
      → root_sizes (parent_in q) (size_in q) n ≡ root_sizes (parent_in p) (size_in p) n
  united_sizes q es t U =
      let v : ℕ → ℕ = λ r. cond (own (parent_in p) r) (size_in p r) 0 in
      let S = own_sums (parent_in p) (size_in p) n P.low in
      sums_total (parent_in q) (size_in q) n U.kept.low (λ r. cond (own (parent_in p) r) (size_in p r) 0) (U.sized _ S)
      ∙ sym (sums_total (parent_in p) (size_in p) n P.low (λ r. cond (own (parent_in p) r) (size_in p r) 0) S)

  -- unions along es, whose ends are these runs
  module _ (q : List ℕ) (es : List Edge) (t : ℕ) (w : Ends (λ r. r < n) es) (U : United p q n es t) where
    visit_ends : Ends (λ r. r < n) (visit es (held p n))
    visit_ends = ends_visit (λ r. r < n) es (held p n) w (grouping_ends (parent_in p) n P.low)

    -- then along fs
    pub united_then : (s : List ℕ) (fs : List Edge) (u : ℕ) → United q s n fs u → United p s n (es ++ fs) (t + u)
    united_then s fs u W = record {
      kept = kept_trans p q s n U.kept W.kept;
      grouped =
          λ r h. W.grouped r h ∙ rep_over fs (held q n) (visit es (held p n)) same r
          ∙ ap (λ (l : List Edge). rep l r) (sym (visit_append es fs (held p n)));
      counted = rw (visit_append es fs (held p n)) (omega (
        arith,
        joins_over fs (held q n) (visit es (held p n)) same,
        U.counted,
        W.counted,
      ));
      sized = λ v S. W.sized v (U.sized v S);
    }
      where
        same : (a : ℕ) → rep (held q n) a ≡ rep (visit es (held p n)) a
        same = grouping_rep_all (parent_in q) n U.kept.low (visit es (held p n)) visit_ends U.grouped

    -- each join made one root fewer
    pub united_groups : roots (parent_in q) n + t ≡ roots (parent_in p) n
    united_groups =
        let after = groups_joins (λ r. true) n (visit es (held p n)) visit_ends (all_live (visit es (held p n))) in
        let before = groups_joins (λ r. true) n (held p n) (grouping_ends (parent_in p) n P.low) (all_live (held p n)) in
        let now = roots_groups (parent_in q) n U.kept.low (visit es (held p n)) U.grouped n (le_refl n) in
        omega (arith, after, before, now, roots_grouping (parent_in p) n P.low, U.counted)

    -- another list that joins the same runs
    pub united_same : (fs : List Edge) → Ends (λ r. r < n) fs → ((a b : ℕ) → Groups.Joined es a b → Groups.Joined fs a b)
        → ((a b : ℕ) → Groups.Joined fs a b → Groups.Joined es a b) → United p q n fs t
    united_same fs v f g = record {
      kept = U.kept;
      grouped = λ r h. U.grouped r h ∙ rep_same (visit es (held p n)) (visit fs (held p n)) (over es fs f) (over fs es g) r;
      counted =
          U.counted
          ∙ joins_same n (visit es (held p n)) (visit fs (held p n)) visit_ends
          (ends_visit (λ r. r < n) fs (held p n) v (grouping_ends (parent_in p) n P.low)) (over es fs f) (over fs es g);
      sized = U.sized;
    }
      where
        old : List Edge
        old = held p n

        Within : List Edge → List Edge → Type 0
        Within xs ys = (a b : ℕ) → Groups.Joined xs a b → Groups.Joined ys a b

        ahead : (xs : List Edge) → Within xs (xs ++ old)
        ahead xs a b (inl m) = inl (Memᴰ.append_left old m)
        ahead xs a b (inr m) = inr (Memᴰ.append_left old m)

        part : (xs ys : List Edge) → Within xs ys → Within (xs ++ old) (ys ++ old)
        part xs ys k a b (inl m) = one (Memᴰ.append_cases xs m)
          where
            one : Memᴰ (record { from = a; to = b }) xs ⊎ Memᴰ (record { from = a; to = b }) old → Groups.Joined (ys ++ old) a b
            one (inl i) = ahead ys a b (k a b (inl i))
            one (inr i) = inl (Memᴰ.append_right ys i)
        part xs ys k a b (inr m) = one (Memᴰ.append_cases xs m)
          where
            one : Memᴰ (record { from = b; to = a }) xs ⊎ Memᴰ (record { from = b; to = a }) old → Groups.Joined (ys ++ old) a b
            one (inl i) = ahead ys a b (k a b (inr i))
            one (inr i) = inr (Memᴰ.append_right ys i)

        over : (xs ys : List Edge) → Within xs ys → Within (visit xs old) (visit ys old)
        over xs ys k a b h = joined_visit ys old a b (part xs ys k a b (visit_joined xs old a b h))

-- so no union overflows after others either
pub united_sized : (p q : List ℕ) (n : ℕ) (es : List Edge) (t : ℕ) → Sized p n → United p q n es t → Sized q n
united_sized p q n es t S U = record {
  parents = kept_parents p q n S.parents U.kept;
  small = omega (arith, S.small, united_sizes p n S.parents q es t U);
}
