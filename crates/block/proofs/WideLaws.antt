-- Unions among the first runs, as unions among more runs: those that come after are groups of their own.
-- Assumes nothing.
use mathlib.Core.Path.{◌≡◌, refl, sym, ◌∙◌}
use mathlib.Core.Bool.{Bool, true, false}
use mathlib.Core.List.{List}
use Prim.Native.Nat.{ℕ, ◌≤◌, ◌<◌}
use native.Mathlib.Omega.{arith}
use borrow.Author.Tests.{ltb-true, ltb-false}
use lib.Dec.{ltb}
use Rattle.groups.specs.Groups.{Edge, rep, group_sum, joins, visit}
use Rattle.groups.proofs.RepLaws.{Ends, rep_outside}
use Rattle.groups.proofs.VisitLaws.{rep_over, joins_over, ends_visit}
use Rattle.frame.specs.Words.{parent_at, size_at}
use Rattle.forest.specs.Forest.{root_of, grouping}
use Rattle.forest.specs.Unions.{parent_in, size_in, Parents, Summed, United}
use Rattle.forest.proofs.ForestLaws.{root_stays, grouping_ends}
use Rattle.forest.proofs.SizeLaws.{group_old, group_new}
use Rattle.forest.proofs.ParentLaws.{parents_fewer}
use Rattle.forest.proofs.ResetLaws.{alone_grouping}

module _ (p q : List ℕ) (n b : ℕ) (P : Parents p b) (l : n ≤ b) (own : (r : ℕ) → n ≤ r → r < b → parent_in p r ≡ r) (es : List Edge) (t : ℕ)
    (w : Ends (λ r. r < n) es) (U : United p q n es t) where
  fewer : Parents p n
  fewer = parents_fewer p b n P l

  alone : Parents p b × ((r : ℕ) → rep (grouping (parent_in p) b) r ≡ rep (grouping (parent_in p) n) r)
      × (joins (grouping (parent_in p) b) ≡ joins (grouping (parent_in p) n))
  alone = alone_grouping p p n b fewer P.room l (λ r h. refl) own

  -- a run from n on is still its own parent
  own_still : (r : ℕ) → n ≤ r → r < b → parent_in q r ≡ r
  own_still r a h = U.kept.others (parent_at r) (λ x k. (omega arith, omega arith)) ∙ own r a h

  roots_wide : (r : ℕ) → r < b → root_of (parent_in q) r ≡ rep (visit es (grouping (parent_in p) n)) r
  roots_wide r h = go (ltb r n) refl
    where
      go : (x : Bool) → ltb r n ≡ x → root_of (parent_in q) r ≡ rep (visit es (grouping (parent_in p) n)) r
      go true e = U.grouped r (ltb-true r n e)
      go false e =
          let a = ltb-false r n e in
          root_stays (parent_in q) r (own_still r a h)
          ∙ sym (rep_outside n (visit es (grouping (parent_in p) n))
          (ends_visit (λ x. x < n) es (grouping (parent_in p) n) w (grouping_ends (parent_in p) n fewer.low)) r a)

  low_wide : (r : ℕ) → r < b → parent_in q r ≤ r
  low_wide r h = go (ltb r n) refl
    where
      go : (x : Bool) → ltb r n ≡ x → parent_in q r ≤ r
      go true e = U.kept.low r (ltb-true r n e)
      go false e = omega (arith, own_still r (ltb-false r n e) h)

  -- a sum over a group among more runs is that among the first, and what a run from n on has is its own
  sized_wide : (v : ℕ → ℕ) → Summed p b v → Summed q b v
  sized_wide v S r h e = go (ltb r n) refl
    where
      before : Summed p n v
      before s k z = S s (omega arith) z ∙ group_old (parent_in p) v n b l fewer.low own s k

      after : (s : ℕ) → s < n → parent_in q s ≤ s
      after s k = U.kept.low s k

      go : (x : Bool) → ltb r n ≡ x → size_in q r ≡ group_sum (root_of (parent_in q)) v b r
      go true x = let k = ltb-true r n x in U.sized v before r k e ∙ sym (group_old (parent_in q) v n b l after own_still r k)
      go false x =
          let k = ltb-false r n x in
          U.kept.others (size_at r) (λ s m. (omega arith, omega arith)) ∙ S r h (root_stays (parent_in p) r (own r k h))
          ∙ group_new (parent_in p) v n b l fewer.low own r k h ∙ sym (group_new (parent_in q) v n b l after own_still r k h)

  pub united_wide : United p q b es t
  united_wide = record {
    kept = record { long = U.kept.long; others = λ j o. U.kept.others j (λ r k. o r (omega arith)); low = low_wide };
    grouped = λ r h. roots_wide r h ∙ sym (rep_over es (grouping (parent_in p) b) (grouping (parent_in p) n) alone.1 r);
    counted = omega (arith, joins_over es (grouping (parent_in p) b) (grouping (parent_in p) n) alone.1, U.counted);
    sized = sized_wide;
  }
