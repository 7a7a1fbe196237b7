-- Path halving keeps every root, and the smaller of two roots as the larger one's parent, with both sizes, makes one group of two.
-- Assumes nothing.
use mathlib.Core.Path.{◌≡◌, refl, sym, ap, ◌∙◌}
use mathlib.Core.Logic.{◌≢◌, inl, inr}
use mathlib.Core.Bool.{Bool, true, false, cond, not}
use mathlib.Core.List.{List, ◌∷◌}
use Prim.Native.Nat.{ℕ, suc, ◌+◌, ◌*◌, ◌≤◌, ◌<◌, min, max}
use native.Mathlib.Decide.{ℕ_discrete}
use native.Mathlib.Nat.{le_refl, le_trans}
use native.Mathlib.Omega.{arith}
use borrow.Author.Tests.{eq-eqb, ne_eqb, ltb-true, ltb-false}
use lib.Dec.{eqb, ltb}
use lib.ListN.{length, set}
use Rattle.groups.specs.Groups.{merge, rep, group_sum}
use Rattle.groups.proofs.RepLaws.{Merged, merged, merge_hit, merge_miss, rep_idle}
use Rattle.groups.proofs.SumLaws.{sum_same, sum_add}
use Rattle.frame.specs.Memory.{stride}
use Rattle.frame.specs.Words.{parent_at}
use Rattle.forest.specs.Forest.{root_of, grouping}
use Rattle.forest.specs.Unions.{parent_in, size_in, Parents, Sized, Summed, ParentsOnly, GroupWordsOnly, Found, Finds, ToJoin, joined}
use Rattle.forest.specs.Unions.{Union, Unites}
use Rattle.forest.proofs.ForestLaws.{root_stays, root_le, root_root, root_parent, root_unique, grouping_rep}
use Rattle.forest.proofs.SizeLaws.{sums_same, two_roots}
use Rattle.forest.proofs.ParentLaws.{only_refl, only_parents, only_trans, only_sizes, only_kept, kept_trans}
use Rattle.forest.proofs.ParentLaws.{put_same, put_other, put_kept, size_same, size_other, size_root, size_kept}

-- the parent's parent, and the words once it is the parent
abbrev over : List ℕ → ℕ → ℕ
over p x = parent_in p (parent_in p x)

abbrev half : List ℕ → ℕ → List ℕ
half p x = set p (parent_at x) (over p x)

module _ (p : List ℕ) (n x : ℕ) (P : Parents p n) (h : x < n) where
  up_low : parent_in p x ≤ x
  up_low = P.low x h

  over_low : over p x ≤ parent_in p x
  over_low = P.low (parent_in p x) (omega (arith, up_low))

  room : stride * suc x ≤ length p
  room = omega (arith, P.room)

  half_kept : ParentsOnly p (half p x) n
  half_kept = put_kept p n x (over p x) P h (le_trans over_low up_low)

  over_root : root_of (parent_in p) (over p x) ≡ root_of (parent_in p) x
  over_root = root_parent (parent_in p) n P.low (parent_in p x) (omega (arith, up_low)) ∙ root_parent (parent_in p) n P.low x h

  half_root : (r : ℕ) → r < n → root_of (parent_in (half p x)) r ≡ root_of (parent_in p) r
  half_root = root_unique (parent_in (half p x)) n half_kept.low (root_of (parent_in p)) (λ r m. step r m (ℕ_discrete r x))
      (λ r m. stop r m (ℕ_discrete r x))
    where
      step : (r : ℕ) → r < n → Dec (r ≡ x) → root_of (parent_in p) (parent_in (half p x) r) ≡ root_of (parent_in p) r
      step r m (yes e) = rw (e, put_same p x (over p x) room) over_root
      step r m (no e) = rw (put_other p x (over p x) room r e) (root_parent (parent_in p) n P.low r m)

      stop : (r : ℕ) → r < n → Dec (r ≡ x) → parent_in (half p x) r ≡ r → root_of (parent_in p) r ≡ r
      stop r m (yes e) g =
          let self : over p x ≡ x = sym (put_same p x (over p x) room) ∙ ap (parent_in (half p x)) (sym e) ∙ g ∙ e in
          rw e (root_stays (parent_in p) x (omega (arith, up_low, over_low)))
      stop r m (no e) g = root_stays (parent_in p) r (sym (put_other p x (over p x) room r e) ∙ g)

-- one turn of find, from run `at`
pub found_half : (p₀ p : List ℕ) (n x at : ℕ) → Parents p₀ n → at < n → Found p₀ p n x (root_of (parent_in p) at)
    → Found p₀ (half p at) n x (root_of (parent_in (half p at)) (over p at))
found_half p₀ p n x at P₀ h I = record {
  kept = only_trans p₀ p _ n I.kept (half_kept p n at P h);
  same = λ r m. half_root p n at P h r m ∙ I.same r m;
  found = half_root p n at P h _ (omega (arith, up_low p n at P h, over_low p n at P h)) ∙ over_root p n at P h ∙ I.found;
}
  where
    P : Parents p n
    P = only_parents p₀ p n P₀ I.kept

merge_min : (x y : ℕ) → merge x y (min x y) ≡ min x y
unfolding Merged
merge_min x y = go (merged x y (min x y))
  where
    go : Merged x y (min x y) → merge x y (min x y) ≡ min x y
    go (inl h) = h.1
    go (inr h) = h.1

-- of two roots x and y the smaller becomes the larger one's parent
module _ (p : List ℕ) (n x y : ℕ) (P : Parents p n) (hx : x < n) (hy : y < n) (at_x : parent_in p x ≡ x) (at_y : parent_in p y ≡ y) where
  abbrev lo : ℕ
  lo = min x y

  abbrev hi : ℕ
  hi = max x y

  either : (z : ℕ) → Dec (z ≡ x) → (z ≢ x → z ≡ y) → root_of (parent_in p) z ≡ z
  either z (yes e) f = rw e (root_stays (parent_in p) x at_x)
  either z (no e) f = rw (f e) (root_stays (parent_in p) y at_y)

  at_lo : root_of (parent_in p) lo ≡ lo
  at_lo = either lo (ℕ_discrete lo x) (λ e. omega arith)

  at_hi : root_of (parent_in p) hi ≡ hi
  at_hi = either hi (ℕ_discrete hi x) (λ e. omega arith)

  hi_room : stride * suc hi ≤ length p
  hi_room = omega (arith, P.room)

  linked_kept : ParentsOnly p (set p (parent_at (max x y)) (min x y)) n
  linked_kept = put_kept p n hi lo P (omega arith) (omega arith)

  linked_root : (r : ℕ) → r < n → root_of (parent_in (set p (parent_at (max x y)) (min x y))) r ≡ merge x y (root_of (parent_in p) r)
  linked_root = root_unique (parent_in q) n linked_kept.low (λ r. merge x y (root_of (parent_in p) r)) (λ r m. step r m (ℕ_discrete r hi))
      (λ r m. stop r (ℕ_discrete r hi))
    where
      q : List ℕ
      q = set p (parent_at hi) lo

      step : (r : ℕ) → r < n → Dec (r ≡ hi) → merge x y (root_of (parent_in p) (parent_in q r)) ≡ merge x y (root_of (parent_in p) r)
      step r m (yes e) = rw (e, put_same p hi lo hi_room, at_lo, at_hi) (merge_min x y ∙ sym (merge_hit x y hi refl))
      step r m (no e) = rw (put_other p hi lo hi_room r e, root_parent (parent_in p) n P.low r m)

      stop : (r : ℕ) → Dec (r ≡ hi) → parent_in q r ≡ r → merge x y (root_of (parent_in p) r) ≡ r
      stop r (yes e) g =
          merge_hit x y (root_of (parent_in p) r) (ap (root_of (parent_in p)) e ∙ at_hi) ∙ sym (put_same p hi lo hi_room)
          ∙ ap (parent_in q) (sym e) ∙ g
      stop r (no e) g =
          let self = root_stays (parent_in p) r (sym (put_other p hi lo hi_room r e) ∙ g) in
          merge_miss x y (root_of (parent_in p) r) (λ k. e (sym self ∙ k)) ∙ self

-- and the smaller root gets both sizes
abbrev linked : List ℕ → ℕ → ℕ → List ℕ
linked p x y = set p (parent_at (max x y)) (min x y)

abbrev both_sizes : List ℕ → ℕ → ℕ → ℕ
both_sizes p x y = size_in p (min x y) + size_in p (max x y)

module _ (p : List ℕ) (n x y : ℕ) (P : Parents p n) (hx : x < n) (hy : y < n) (at_x : parent_in p x ≡ x) (at_y : parent_in p y ≡ y) where
  K : ParentsOnly p (linked p x y) n
  K = linked_kept p n x y P hx hy at_x at_y

  joined_kept : GroupWordsOnly p (joined p (min x y) (max x y)) n
  unfolding joined
  joined_kept = kept_trans p (linked p x y) (joined p (min x y) (max x y)) n (only_kept p (linked p x y) n K)
      (size_kept (linked p x y) (min x y) (both_sizes p x y) n (only_parents p (linked p x y) n P K) (omega arith))

  joined_root : (r : ℕ) → r < n → root_of (parent_in (joined p (min x y) (max x y))) r ≡ merge x y (root_of (parent_in p) r)
  unfolding joined
  joined_root r h = size_root (linked p x y) (min x y) (both_sizes p x y) r ∙ linked_root p n x y P hx hy at_x at_y r h

  module _ (ne : x ≢ y) (v : ℕ → ℕ) (S : Summed p n v) where
    abbrev root : ℕ → ℕ
    root = root_of (parent_in p)

    is_lo : root (min x y) ≡ min x y
    is_lo = at_lo p n x y P hx hy at_x at_y

    is_hi : root (max x y) ≡ max x y
    is_hi = at_hi p n x y P hx hy at_x at_y

    -- the sum over both groups is that over the new one
    both_groups : group_sum (root_of (parent_in (joined p (min x y) (max x y)))) v n (min x y)
        ≡ group_sum root v n (min x y) + group_sum root v n (max x y)
    unfolding group_sum Merged
    both_groups = sum_add _ _ _ v v v n (λ s l. rw (joined_root s l) (go s (merged x y (root s))))
      where
        go : (s : ℕ) → Merged x y (root s)
            → cond (eqb (merge x y (root s)) (min x y)) (v s) 0
            ≡ cond (eqb (root s) (min x y)) (v s) 0 + cond (eqb (root s) (max x y)) (v s) 0
        go s (inl h) = rw (
          h.1,
          eq-eqb (min x y) (min x y) refl,
          eq-eqb (root s) (max x y) h.0,
          ne_eqb (root s) (min x y) (omega (arith, h.0)),
        ) (omega arith)
        go s (inr h) = rw (h.1, ne_eqb (root s) (max x y) h.0) (omega arith)

    -- and of no other group
    other_group : (r : ℕ) → r ≢ min x y → r ≢ max x y
        → group_sum (root_of (parent_in (joined p (min x y) (max x y)))) v n r ≡ group_sum root v n r
    unfolding group_sum Merged
    other_group r nl nh = sum_same _ _ v n (λ s l. rw (joined_root s l) (go s (merged x y (root s))))
      where
        go : (s : ℕ) → Merged x y (root s) → eqb (merge x y (root s)) r ≡ eqb (root s) r
        go s (inl h) = rw h.1 (ne_eqb (min x y) r (λ e. nl (sym e)) ∙ sym (ne_eqb (root s) r (λ e. nh (sym e ∙ h.0))))
        go s (inr h) = rw h.1 refl

    lo_size : size_in (joined p (min x y) (max x y)) (min x y) ≡ both_sizes p x y
    unfolding joined
    lo_size = size_same (linked p x y) (min x y) (both_sizes p x y) (omega (arith, P.room, K.long))

    other_size : (r : ℕ) → r ≢ min x y → size_in (joined p (min x y) (max x y)) r ≡ size_in p r
    unfolding joined
    other_size r e = size_other (linked p x y) (min x y) (both_sizes p x y) r e ∙ only_sizes p (linked p x y) n K r

    joined_sized : Summed (joined p (min x y) (max x y)) n v
    unfolding Merged
    joined_sized r h e = go (ℕ_discrete r (min x y))
      where
        go : Dec (r ≡ min x y) → size_in (joined p (min x y) (max x y)) r ≡ group_sum (root_of (parent_in (joined p (min x y) (max x y)))) v n r
        go (yes q) = rw (q, lo_size) (omega (arith, both_groups, S (min x y) (omega arith) is_lo, S (max x y) (omega arith) is_hi))
        go (no q) = other (merged x y (root r)) (sym (joined_root r h) ∙ e)
          where
            other : Merged x y (root r) → merge x y (root r) ≡ r
                → size_in (joined p (min x y) (max x y)) r ≡ group_sum (root_of (parent_in (joined p (min x y) (max x y)))) v n r
            other (inl k) m = absurd (q (sym m ∙ k.1))
            other (inr k) m =
                let self : root r ≡ r = sym k.1 ∙ m in
                other_size r q ∙ S r h self
                ∙ sym (other_group r q (λ z. k.0 (self ∙ z)))

-- what is known after the finds of a and of b, one after the other
pub record Both (p q : List ℕ) (n a b ra rb : ℕ) : Type 0 where
  pub kept : ParentsOnly p q n
  pub same : (r : ℕ) → r < n → root_of (parent_in q) r ≡ root_of (parent_in p) r
  pub is_a : ra ≡ root_of (parent_in p) a
  pub is_b : rb ≡ root_of (parent_in p) b
  pub low_a : ra ≤ a
  pub low_b : rb ≤ b
  pub self_a : parent_in q ra ≡ ra
  pub self_b : parent_in q rb ≡ rb

module _ (p o q : List ℕ) (n a b ra rb : ℕ) (P : Parents p n) (ha : a < n) (hb : b < n) (A : Found p o n a ra) (B : Found o q n b rb) where
  pub both : Both p q n a b ra rb
  both = record {
    kept = K;
    same = same;
    is_a = A.found;
    is_b = is_b;
    low_a = omega (arith, A.found, root_le (parent_in p) n P.low a ha);
    low_b = omega (arith, is_b, root_le (parent_in p) n P.low b hb);
    self_a = self a ha ra (same a ha ∙ sym A.found);
    self_b = self b hb rb (B.same b hb ∙ sym B.found);
  }
    where
      K : ParentsOnly p q n
      K = only_trans p o q n A.kept B.kept

      same : (r : ℕ) → r < n → root_of (parent_in q) r ≡ root_of (parent_in p) r
      same r h = B.same r h ∙ A.same r h

      is_b : rb ≡ root_of (parent_in p) b
      is_b = B.found ∙ A.same b hb

      self : (x : ℕ) → x < n → (s : ℕ) → root_of (parent_in q) x ≡ s → parent_in q s ≡ s
      self x h s e = rw e at (root_root (parent_in q) n K.low x h)

  both_sized : (v : ℕ → ℕ) → Summed p n v → Summed q n v
  both_sized v = sums_same _ _ _ _ v n both.same (λ r h e. only_sizes p q n both.kept r)

  -- where the roots are one, nothing is stored
  pub both_idle : ra ≡ rb → Union p q n a b false
  both_idle e = record {
    kept = only_kept p q n both.kept;
    sized = both_sized;
    told = sym (ap not (eq-eqb _ _ one));
    grouped =
        λ r m. both.same r m
        ∙ sym (rep_idle (record { from = a; to = b }) (grouping (parent_in p) n) (at a ha ∙ one ∙ sym (at b hb)) r ∙ at r m);
  }
    where
      one : root_of (parent_in p) a ≡ root_of (parent_in p) b
      one = sym both.is_a ∙ e ∙ both.is_b

      at : (r : ℕ) → r < n → rep (grouping (parent_in p) n) r ≡ root_of (parent_in p) r
      at = grouping_rep (parent_in p) n P.low

  -- else the smaller root is stored as the larger one's parent, and gets both sizes
  pub both_joined : ra ≢ rb → Union p (joined q (min ra rb) (max ra rb)) n a b true
  both_joined e = record {
    kept = kept_trans p q _ n (only_kept p q n C.kept) (joined_kept q n ra rb Q in_a in_b C.self_a C.self_b);
    told = sym (rw (← C.is_a, ← C.is_b) (ap not (ne_eqb ra rb e)));
    grouped = λ r m. joined_root q n ra rb Q in_a in_b C.self_a C.self_b r m ∙ right r m;
    sized = λ v S. joined_sized q n ra rb Q in_a in_b C.self_a C.self_b e v (both_sized v S);
  }
    where
      C : Both p q n a b ra rb
      C = both

      Q : Parents q n
      Q = only_parents p q n P C.kept

      in_a : ra < n
      in_a = omega (arith, C.low_a)

      in_b : rb < n
      in_b = omega (arith, C.low_b)

      right : (r : ℕ) → r < n → merge ra rb (root_of (parent_in q) r) ≡ rep (record { from = a; to = b } ∷ grouping (parent_in p) n) r
      right r m = unfold rep in rw (
        grouping_rep (parent_in p) n P.low a ha,
        grouping_rep (parent_in p) n P.low b hb,
        grouping_rep (parent_in p) n P.low r m,
        C.same r m,
        C.is_a,
        C.is_b,
      )

  -- and a word holds both
  pub both_fit : Sized p n → ra ≢ rb → size_in q (min ra rb) + size_in q (max ra rb) < 4294967296
  both_fit Z e = omega (
    arith,
    two_roots (parent_in p) (size_in p) n P.low ra rb in_a in_b (self a ha ra A.found) (self b hb rb both.is_b) e,
    only_sizes p q n both.kept (min ra rb),
    only_sizes p q n both.kept (max ra rb),
    Z.small,
    pair,
  )
    where
      in_a : ra < n
      in_a = omega (arith, both.low_a)

      in_b : rb < n
      in_b = omega (arith, both.low_b)

      self : (x : ℕ) → x < n → (s : ℕ) → s ≡ root_of (parent_in p) x → root_of (parent_in p) s ≡ s
      self x h s z = root_stays (parent_in p) s (rw z (root_root (parent_in p) n P.low x h))

      pair : size_in p (min ra rb) + size_in p (max ra rb) ≡ size_in p ra + size_in p rb
      pair = go (ltb ra rb) refl
        where
          go : (t : Bool) → ltb ra rb ≡ t → size_in p (min ra rb) + size_in p (max ra rb) ≡ size_in p ra + size_in p rb
          go true t =
              let h = ltb-true ra rb t in
              let l : min ra rb ≡ ra = omega arith in
              let m : max ra rb ≡ rb = omega arith in
              rw (l, m) refl
          go false t =
              let h = ltb-false ra rb t in
              let l : min ra rb ≡ rb = omega arith in
              let m : max ra rb ≡ ra = omega arith in
              rw (l, m) (omega arith)

  -- so they may be joined: a root is a word, its own parent
  pub both_asked : Sized p n → ra ≢ rb → parent_in q ra < 4294967296 → (lo hi : ℕ) → lo ≡ min ra rb → hi ≡ max ra rb → ToJoin q lo hi
  both_asked Z e few lo hi x y = rw (x, y) (record {
    below = omega (arith, e);
    room = omega (arith, P.room, both.kept.long, both.low_a, both.low_b);
    number = omega (arith, few, both.self_a);
    sizes = both_fit Z e;
  })

-- a root that is above the other run is in another group
module _ (p q : List ℕ) (n a b g : ℕ) (P : Parents p n) (ha : a < n) (hb : b < n) (own : parent_in p a ≡ a) (above : b < a)
    (B : Found p q n b g) where
  A : Found p p n a a
  A = record { kept = only_refl p n P; same = λ r m. refl; found = sym (root_stays (parent_in p) a own) }

  low : g < a
  low = omega (arith, (both p p q n a b a g P ha hb A B).low_b)

  pub above_joined : Union p (joined q g a) n a b true
  above_joined =
      let lo : min a g ≡ g = omega (arith, low) in
      let hi : max a g ≡ a = omega (arith, low) in
      rw (lo, hi) at (both_joined p p q n a b a g P ha hb A B (omega (arith, low)))

  pub above_asked : Sized p n → parent_in q a < 4294967296 → ToJoin q g a
  above_asked Z few = both_asked p p q n a b a g P ha hb A B Z (omega (arith, low)) few g a (omega (arith, low)) (omega (arith, low))

-- runs with one parent have one root
module _ (p : List ℕ) (n a b : ℕ) (P : Parents p n) (ha : a < n) (hb : b < n) where
  stands : (x : ℕ) → Found p p n x (root_of (parent_in p) x)
  stands x = record { kept = only_refl p n P; same = λ r m. refl; found = refl }

  pub one_parent : parent_in p a ≡ parent_in p b → Union p p n a b false
  one_parent e =
      let up = root_parent (parent_in p) n P.low in
      both_idle p p p n a b _ _ P ha hb (stands a) (stands b) (sym (up a ha) ∙ ap (root_of (parent_in p)) e ∙ up b hb)

-- ---- neither changes how many words there are

pub finds_long : (p q : List ℕ) (x s : ℕ) → Parents p (suc x) → Finds p q x s → length q ≡ length p
finds_long p q x s P F = (F (suc x) P (le_refl (suc x))).kept.long

pub unites_long : (p q : List ℕ) (a b : ℕ) (t : Bool) → Sized p (suc (max a b)) → Unites p q a b t → length q ≡ length p
unites_long p q a b t P U = (U (suc (max a b)) P.parents (omega arith) (omega arith)).kept.long
