-- Runs that become groups of their own, one by one; and that this changes no grouping and no other size.
-- Assumes nothing.
use mathlib.Core.Path.{◌≡◌, refl, sym, ap, ap₂, ◌∙◌}
use mathlib.Core.Bool.{Bool, true, false}
use mathlib.Core.List.{List, ◌∷◌}
use Prim.Native.Nat.{ℕ, zero, suc, ◌+◌, ◌-◌, ◌*◌, ◌≤◌, ◌<◌, max}
use native.Mathlib.Decide.{ℕ_discrete, le_ind}
use native.Mathlib.Nat.{le_refl}
use native.Mathlib.Omega.{arith}
use borrow.Author.Tests.{eq-eqb, ltb-true, ltb-false}
use lib.Dec.{ltb}
use lib.ListN.{length, set, length-set}
use lib.Seq.{get_or-set_other}
use Rattle.groups.specs.Groups.{Edge, rep, group_sum, joins}
use Rattle.groups.proofs.RepLaws.{rep_idle}
use Rattle.frame.specs.Memory.{stride}
use Rattle.frame.specs.Words.{start_at, end_at, parent_at, size_at}
use Rattle.forest.specs.Forest.{root_of, grouping}
use Rattle.forest.specs.Unions.{parent_in, size_in, length_in, Parents, Summed, Reset}
use Rattle.forest.proofs.ForestLaws.{grouping_rep}
use Rattle.forest.proofs.SizeLaws.{sums_same, group_old, group_new}
use Rattle.forest.proofs.ParentLaws.{put_same, put_other, size_same, size_other}

pub reset_none : (p : List ℕ) (a : ℕ) → Reset p p a a
reset_none p a =
    record { long = refl; own = λ r l h. absurd (omega arith); sizes = λ r l h. absurd (omega arith); others = λ j o. refl }

-- run r too: its own parent, with its length as its size
abbrev pub reset_one : List ℕ → ℕ → List ℕ
reset_one q r = set (set q (parent_at r) r) (size_at r) (length_in q r)

-- starts and ends stand
pub reset_length : (p q : List ℕ) (a b r : ℕ) → Reset p q a b → length_in q r ≡ length_in p r
reset_length p q a b r R =
    ap₂ (λ (x : ℕ) (y : ℕ). x - y) (R.others (end_at r) (λ s l h. (omega arith, omega arith)))
    (R.others (start_at r) (λ s l h. (omega arith, omega arith)))

pub reset_more : (p q : List ℕ) (a r : ℕ) → a ≤ r → stride * suc r ≤ length p → Reset p q a r → Reset p (reset_one q r) a (r + 1)
reset_more p q a r l room R = record {
  long = length-set q₁ (size_at r) (length_in q r) ∙ length-set q (parent_at r) r ∙ R.long;
  own = λ s m h. get_or-set_other q₁ (size_at r) (parent_at s) (length_in q r) 0 (omega arith) ∙ parent s m h (ℕ_discrete s r);
  sizes = λ s m h. size s m h (ℕ_discrete s r);
  others =
      λ j o. get_or-set_other q₁ (size_at r) j (length_in q r) 0 (o r l (omega arith)).1
      ∙ get_or-set_other q (parent_at r) j r 0 (o r l (omega arith)).0 ∙ R.others j (λ s m h. o s m (omega arith));
}
  where
    q₁ : List ℕ
    q₁ = set q (parent_at r) r

    fits : stride * suc r ≤ length q
    fits = omega (arith, R.long)

    fits₁ : stride * suc r ≤ length q₁
    fits₁ = omega (arith, fits, length-set q (parent_at r) r)

    parent : (s : ℕ) → a ≤ s → s < r + 1 → Dec (s ≡ r) → parent_in q₁ s ≡ s
    parent s m h (yes e) = rw e (put_same q r r fits)
    parent s m h (no e) = put_other q r r fits s e ∙ R.own s m (omega arith)

    size : (s : ℕ) → a ≤ s → s < r + 1 → Dec (s ≡ r) → size_in (reset_one q r) s ≡ length_in p s
    size s m h (yes e) = rw e (size_same q₁ r (length_in q r) fits₁ ∙ reset_length p q a r r R)
    size s m h (no e) =
        size_other q₁ r (length_in q r) s e ∙ get_or-set_other q (parent_at r) (size_at s) r 0 (omega arith) ∙ R.sizes s m (omega arith)

-- the loop's end: no run above b where a is not, none at all where it is
pub reset_end : (p q : List ℕ) (a b r : ℕ) → r ≤ max a b → b ≤ r → Reset p q a r → Reset p q a b
reset_end p q a b r h l R = record {
  long = R.long;
  own = λ s m k. R.own s m (omega arith);
  sizes = λ s m k. R.sizes s m (omega arith);
  others = λ j o. R.others j (λ s m k. o s m (omega arith));
}

pub grouping_same : (f g : ℕ → ℕ) (n : ℕ) → ((r : ℕ) → r < n → f r ≡ g r) → grouping f n ≡ grouping g n
unfolding grouping
grouping_same f g zero h = refl
grouping_same f g (suc n) h = ap₂ (λ (x : ℕ) (es : List Edge). record { from = n; to = x } ∷ es) (h n (le_refl (suc n)))
    (grouping_same f g n (λ r l. h r (omega arith)))

module _ (p : ℕ → ℕ) (n : ℕ) (self : p n ≡ n) where
  own_rep : (a : ℕ) → rep (grouping p (suc n)) a ≡ rep (grouping p n) a
  unfolding grouping
  own_rep a = rep_idle (record { from = n; to = p n }) (grouping p n) (rw self) a

  own_joins : joins (grouping p (suc n)) ≡ joins (grouping p n)
  unfolding grouping joins
  own_joins = rw (self, eq-eqb (rep (grouping p n) n) (rep (grouping p n) n) refl) (omega arith)

-- runs a to before b that are their own parents change no grouping of those before
module _ (p q : List ℕ) (a b : ℕ) (P : Parents p a) (room : stride * b ≤ length q) (l : a ≤ b)
    (before : (r : ℕ) → r < a → parent_in q r ≡ parent_in p r) (alone : (r : ℕ) → a ≤ r → r < b → parent_in q r ≡ r) where
  same : grouping (parent_in q) a ≡ grouping (parent_in p) a
  same = grouping_same (parent_in q) (parent_in p) a before

  low : (r : ℕ) → r < b → parent_in q r ≤ r
  low r h = go (ltb r a) refl
    where
      go : (t : Bool) → ltb r a ≡ t → parent_in q r ≤ r
      go true t = let k = ltb-true r a t in omega (arith, before r k, P.low r k)
      go false t = let k = ltb-false r a t in omega (arith, alone r k h)

  rep_to : (m : ℕ) → a ≤ m → m ≤ b → (r : ℕ) → rep (grouping (parent_in q) m) r ≡ rep (grouping (parent_in p) a) r
  rep_to m k = le_ind (λ m. m ≤ b → (r : ℕ) → rep (grouping (parent_in q) m) r ≡ rep (grouping (parent_in p) a) r)
      (λ h r. ap (λ (es : List Edge). rep es r) same) (λ m k below h r. own_rep (parent_in q) m (alone m k h) r ∙ below (omega arith) r) m k

  joins_to : (m : ℕ) → a ≤ m → m ≤ b → joins (grouping (parent_in q) m) ≡ joins (grouping (parent_in p) a)
  joins_to m k = le_ind (λ m. m ≤ b → joins (grouping (parent_in q) m) ≡ joins (grouping (parent_in p) a)) (λ h. ap joins same)
      (λ m k below h. own_joins (parent_in q) m (alone m k h) ∙ below (omega arith)) m k

  pub alone_grouping : Parents q b × ((r : ℕ) → rep (grouping (parent_in q) b) r ≡ rep (grouping (parent_in p) a) r)
      × (joins (grouping (parent_in q) b) ≡ joins (grouping (parent_in p) a))
  alone_grouping = (record { room = room; low = low }, rep_to b l (le_refl b), joins_to b l (le_refl b))

-- so of runs that became groups of their own; and the other groups keep their sizes
module _ (p q : List ℕ) (a b : ℕ) (P : Parents p a) (room : stride * b ≤ length p) (l : a ≤ b) (R : Reset p q a b) where
  parent_before : (r : ℕ) → r < a → parent_in q r ≡ parent_in p r
  parent_before r h = R.others (parent_at r) (λ s m k. (omega arith, omega arith))

  size_before : (r : ℕ) → r < a → size_in q r ≡ size_in p r
  size_before r h = R.others (size_at r) (λ s m k. (omega arith, omega arith))

  pub reset_grouping : Parents q b × ((r : ℕ) → rep (grouping (parent_in q) b) r ≡ rep (grouping (parent_in p) a) r)
      × (joins (grouping (parent_in q) b) ≡ joins (grouping (parent_in p) a))
  reset_grouping = alone_grouping p q a b P (omega (arith, R.long)) l parent_before R.own

  Q : Parents q b
  Q = reset_grouping.0

  root_before : (r : ℕ) → r < a → root_of (parent_in q) r ≡ root_of (parent_in p) r
  root_before r h =
      sym (grouping_rep (parent_in q) b Q.low r (omega arith)) ∙ reset_grouping.1 r ∙ grouping_rep (parent_in p) a P.low r h

  -- sums over the old groups, and what the new runs have themselves
  pub reset_sized : (v : ℕ → ℕ) → Summed p a v → ((r : ℕ) → a ≤ r → r < b → v r ≡ length_in p r) → Summed q b v
  reset_sized v S new r h e = go (ltb r a) refl
    where
      low : (s : ℕ) → s < a → parent_in q s ≤ s
      low s k = Q.low s (omega arith)

      go : (t : Bool) → ltb r a ≡ t → size_in q r ≡ group_sum (root_of (parent_in q)) v b r
      go true t =
          let k = ltb-true r a t in
          sums_same _ (root_of (parent_in q)) _ (size_in q) v a root_before (λ s m z. size_before s m) S r k e
          ∙ sym (group_old (parent_in q) v a b l low R.own r k)
      go false t =
          let k = ltb-false r a t in
          R.sizes r k h ∙ sym (new r k h) ∙ sym (group_new (parent_in q) v a b l low R.own r k h)
