-- The computed numbers are those of the chain rule, and no others are.
-- Assumes nothing.
use mathlib.Core.Path.{◌≡◌, refl, sym, ap, ap₂, ◌∙◌, subst}
use mathlib.Core.Logic.{◌⊎◌, inl, inr, ◌↔◌}
use mathlib.Core.Bool.{Bool, true, false, ◌&&◌, ◌||◌, true≢false}
use mathlib.Core.List.{List, [], ◌∷◌, map, zip_with, Memᴰ}
use Prim.Native.Nat.{ℕ, zero, suc, ◌+◌, ◌^◌, ◌≤◌, ◌<◌}
use native.Mathlib.Nat.{le_refl, not-suc-le-zero, le_of_suc-le-suc, zero-add}
use native.Mathlib.Omega.{arith}
use borrow.Author.Tests.{eqb-true, eqb-false, eq-eqb}
use lib.Dec.{eqb}
use lib.ListN.{length, get_or, length-map, get_or-eq_default}
use lib.Seq.{ext_get_or}
use Rattle.groups.specs.Groups.{Chain, one, more, Edge, Joined}
use Rattle.groups.proofs.BoolLaws.{and_true, and_left, and_right, and₃, or_right, or_cases}
use Rattle.groups.proofs.GatherLaws.{pairs_from, from_pairs}
use Rattle.groups.proofs.ChainLaws.{chain_map}
use Rattle.groups.proofs.RepLaws.{Ends, ends_all}
use Rattle.groups.proofs.NumberLaws.{number_right, number_unique, count_unique, numbered_over, numbered_same}
use Rattle.frame.specs.Shape.{size, coords}
use Rattle.frame.specs.Structure.{offset, backward, Moved, on}
use Rattle.frame.specs.ChainRule.{nonzero, Leads, Step, Group, Labelled, same_list, any, leads_by, edges_by, edges, group_count, label}
use Rattle.frame.specs.ChainRule.{range, labels}

-- ---- tests

pub any_found : (f : ℕ → Bool) (n : ℕ) → any f n ≡ true → (k : ℕ) × (k < n) × (f k ≡ true)
unfolding any
any_found f zero h = absurd (true≢false (sym h))
any_found f (suc n) h = go (any_found f n) (or_cases (f n) (any f n) h)
  where
    go : (any f n ≡ true → (k : ℕ) × (k < n) × (f k ≡ true)) → (f n ≡ true) ⊎ (any f n ≡ true) → (k : ℕ) × (k < suc n) × (f k ≡ true)
    go below (inl e) = (n, le_refl (suc n), e)
    go below (inr e) = let r = below e in (r.0, omega arith, r.2)

pub any_at : (f : ℕ → Bool) (n k : ℕ) → k < n → f k ≡ true → any f n ≡ true
unfolding any
any_at f zero k h e = absurd (not-suc-le-zero h)
any_at f (suc n) k h e = go (eqb k n) refl (any_at f n k)
  where
    go : (t : Bool) → eqb k n ≡ t → (k < n → f k ≡ true → any f n ≡ true) → (f n || any f n) ≡ true
    go true t below = rw (← eqb-true k n t, e)
    go false t below = let ne = eqb-false k n t in or_right (f n) (any f n) (below (omega arith) e)

pub any_none : (f : ℕ → Bool) (n : ℕ) → any f n ≡ false → (k : ℕ) → k < n → f k ≡ false
any_none f n h k l = go (f k) refl
  where
    go : (b : Bool) → f k ≡ b → f k ≡ false
    go true e = absurd (true≢false (sym (any_at f n k l e) ∙ h))
    go false e = e

pub none_any : (f : ℕ → Bool) (n : ℕ) → ((k : ℕ) → k < n → f k ≡ false) → any f n ≡ false
none_any f n h = go (any f n) refl
  where
    go : (b : Bool) → any f n ≡ b → any f n ≡ false
    go true e = let r = any_found f n e in absurd (true≢false (sym r.2 ∙ h r.0 r.1))
    go false e = e

-- the test is asked below n only
pub any_same : (f g : ℕ → Bool) (n : ℕ) → ((k : ℕ) → k < n → f k ≡ g k) → any f n ≡ any g n
unfolding any
any_same f g zero h = refl
any_same f g (suc n) h = ap₂ ◌||◌ (h n (le_refl (suc n))) (any_same f g n (λ k l. h k (omega arith)))

same_eq : (xs ys : List ℕ) → same_list xs ys ≡ true → xs ≡ ys
unfolding same_list
same_eq [] [] h = refl
same_eq [] (y ∷ ys) h = absurd (true≢false (sym h))
same_eq (x ∷ xs) [] h = absurd (true≢false (sym h))
same_eq (x ∷ xs) (y ∷ ys) h =
    ap₂ (λ (a : ℕ) (l : List ℕ). a ∷ l) (eqb-true x y (and_left (eqb x y) _ h)) (same_eq xs ys (and_right (eqb x y) _ h))

same_refl : (xs : List ℕ) → same_list xs xs ≡ true
unfolding same_list
same_refl [] = refl
same_refl (x ∷ xs) = and_true (eqb x x) (same_list xs xs) (eq-eqb x x refl) (same_refl xs)

-- ---- cells

-- a fed nonzero cell is fed
pub nonzero_below : (cells : List Bool) (p : ℕ) → nonzero cells p ≡ true → p < length cells
unfolding nonzero
nonzero_below [] p h = absurd (true≢false (sym h))
nonzero_below (c ∷ cells) zero h = omega arith
nonzero_below (c ∷ cells) (suc p) h = let k = nonzero_below cells p h in omega arith

-- an unfed cell is not one
pub nonzero_beyond : (cells : List Bool) (p : ℕ) → length cells ≤ p → nonzero cells p ≡ false
unfolding nonzero
nonzero_beyond cells p h = get_or-eq_default cells false h

-- ---- edges by the offsets whose codes pass a test

pub record LedBy (shape : List ℕ) (test : ℕ → Bool) (p q : ℕ) : Type 0 where
  pub code : ℕ
  pub is_code : code < 3 ^ length shape
  pub passes : test code ≡ true
  pub leads : Moved (coords shape p) (offset (length shape) code) (coords shape q)

module _ (shape : List ℕ) (test : ℕ → Bool) where
  abbrev leads_at : ℕ → ℕ → ℕ → Bool
  leads_at p q c = test c && same_list (zip_with ◌+◌ (coords shape p) (offset (length shape) c)) (map suc (coords shape q))

  found_led : (p q : ℕ) → leads_by shape test p q ≡ true → LedBy shape test p q
  unfolding leads_by Moved
  found_led p q h =
      let r = any_found (leads_at p q) (3 ^ length shape) h in
      record {
        code = r.0;
        is_code = r.1;
        passes = and_left (test r.0) _ r.2;
        leads = same_eq _ _ (and_right (test r.0) _ r.2);
      }

  led_found : (p q : ℕ) → LedBy shape test p q → leads_by shape test p q ≡ true
  unfolding leads_by Moved
  led_found p q h =
      any_at (leads_at p q) (3 ^ length shape) h.code h.is_code
      (and_true _ _ h.passes
      (subst (λ (l : List ℕ). same_list (zip_with ◌+◌ (coords shape p) (offset (length shape) h.code)) l ≡ true) h.leads
      (same_refl (zip_with ◌+◌ (coords shape p) (offset (length shape) h.code)))))

  module _ (cells : List Bool) where
    abbrev passing : ℕ → ℕ → Bool
    passing p q = nonzero cells p && (nonzero cells q && leads_by shape test p q)

    pub edge_led : (e : Edge) → Memᴰ e (edges_by shape test cells)
        → (nonzero cells e.from ≡ true) × (nonzero cells e.to ≡ true) × LedBy shape test e.from e.to
    unfolding edges_by
    edge_led e m =
        let b = and₃ (nonzero cells e.from) (nonzero cells e.to) (leads_by shape test e.from e.to)
        (pairs_from passing 0 (length cells) 0 (length cells) e m).passes in
        (b.0, b.1, found_led e.from e.to b.2)

    pub led_edge : (p q : ℕ) → nonzero cells p ≡ true → nonzero cells q ≡ true → LedBy shape test p q
        → Memᴰ (record { from = p; to = q }) (edges_by shape test cells)
    unfolding edges_by
    led_edge p q a b l =
        from_pairs passing 0 (length cells) 0 (length cells) (record { from = p; to = q })
        (record {
          from_low = omega arith;
          from_high = omega (arith, nonzero_below cells p a);
          to_low = omega arith;
          to_high = omega (arith, nonzero_below cells q b);
          passes = and_true _ _ a (and_true _ _ b (led_found p q l));
        })

    pub nonzero_ends : Ends (λ p. nonzero cells p ≡ true) (edges_by shape test cells)
    nonzero_ends = ends_all (λ p. nonzero cells p ≡ true) (edges_by shape test cells) (λ e m. let s = edge_led e m in (s.0, s.1))

-- ---- the edges are the steps

module _ (shape structure : List ℕ) (cells : List Bool) where
  -- the offsets of the chain rule
  abbrev uses : ℕ → Bool
  uses c = backward (offset (length shape) c) && on structure c

  led_leads : (p q : ℕ) → LedBy shape uses p q → Leads shape structure p q
  led_leads p q l = record {
    code = l.code;
    is_code = l.is_code;
    is_backward = and_left (backward (offset (length shape) l.code)) (on structure l.code) l.passes;
    is_on = and_right (backward (offset (length shape) l.code)) (on structure l.code) l.passes;
    leads = l.leads;
  }

  step_parts : (e : Edge) → Memᴰ e (edges shape structure cells)
      → (nonzero cells e.from ≡ true) × (nonzero cells e.to ≡ true) × Leads shape structure e.from e.to
  unfolding edges
  step_parts e m = let b = edge_led shape uses cells e m in (b.0, b.1, led_leads e.from e.to b.2)

  pub step_edge : (p q : ℕ) → nonzero cells p ≡ true → nonzero cells q ≡ true → Leads shape structure p q
      → Memᴰ (record { from = p; to = q }) (edges shape structure cells)
  unfolding edges
  step_edge p q a b l =
      led_edge shape uses cells p q a b
      (record { code = l.code; is_code = l.is_code; passes = and_true _ _ l.is_backward l.is_on; leads = l.leads })

  pub joined_step : (p q : ℕ) → Joined (edges shape structure cells) p q → Step shape structure cells p q
  joined_step p q (inl m) = let s = step_parts _ m in record { here = s.0; there = s.1; way = inl s.2 }
  joined_step p q (inr m) = let s = step_parts _ m in record { here = s.1; there = s.0; way = inr s.2 }

  pub step_joined : (p q : ℕ) → Step shape structure cells p q → Joined (edges shape structure cells) p q
  step_joined p q s = go s.way
    where
      go : Leads shape structure p q ⊎ Leads shape structure q p → Joined (edges shape structure cells) p q
      go (inl l) = inl (step_edge p q s.here s.there l)
      go (inr l) = inr (step_edge q p s.there s.here l)

  pub step_flip : (p q : ℕ) → Step shape structure cells p q → Step shape structure cells q p
  step_flip p q s = record { here = s.there; there = s.here; way = go s.way }
    where
      go : Leads shape structure p q ⊎ Leads shape structure q p → Leads shape structure q p ⊎ Leads shape structure p q
      go (inl l) = inr l
      go (inr l) = inl l

  -- all cells of a group are nonzero
  pub chain_nonzero : {p q : ℕ} → nonzero cells p ≡ true → Chain (Step shape structure cells) p q → nonzero cells q ≡ true
  chain_nonzero a one = a
  chain_nonzero a (more s h) = chain_nonzero s.there h

  ends : Ends (λ p. nonzero cells p ≡ true) (edges shape structure cells)
  unfolding edges
  ends = nonzero_ends shape uses cells

  -- ---- the numbers

  -- the computed numbers are those of the chain rule
  pub label_right : Labelled shape structure cells (group_count shape structure cells) (label shape structure cells)
  unfolding group_count label
  label_right = numbered_over (λ a b h. chain_map joined_step h) (λ a b h. chain_map step_joined h)
      (number_right (nonzero cells) (edges shape structure cells) ends (size shape))

  -- one number exactly for one group
  pub label_group : (p q : ℕ) → p < size shape → q < size shape → nonzero cells p ≡ true → nonzero cells q ≡ true
      → (label shape structure cells p ≡ label shape structure cells q) ↔ Group shape structure cells p q
  label_group p q hp hq a b = let s = label_right.same p q hp hq a b in (λ e. (a, s.0 e), λ g. s.1 g.1)

  -- whatever numbers the groups of the chain rule has these numbers, and this count
  module _ (n : ℕ) (ν : ℕ → ℕ) (N : Labelled shape structure cells n ν) where
    pub label_only : (p : ℕ) → p < size shape → ν p ≡ label shape structure cells p
    label_only p h =
        number_unique (nonzero cells) (edges shape structure cells) ends (size shape) n (group_count shape structure cells) ν
        (label shape structure cells)
        (numbered_over (λ a b h. chain_map step_joined h) (λ a b h. chain_map joined_step h) N)
        (numbered_over (λ a b h. chain_map step_joined h) (λ a b h. chain_map joined_step h) label_right) p h

    pub count_only : n ≡ group_count shape structure cells
    count_only =
        count_unique (nonzero cells) (edges shape structure cells) ends (size shape) n (group_count shape structure cells) ν
        (label shape structure cells)
        (numbered_over (λ a b h. chain_map step_joined h) (λ a b h. chain_map joined_step h) N)
        (numbered_over (λ a b h. chain_map step_joined h) (λ a b h. chain_map joined_step h) label_right)

-- ---- the numbers as a list

pub length_range : (i n : ℕ) → length (range i n) ≡ n
unfolding range
length_range i zero = refl
length_range i (suc n) = ap suc (length_range (suc i) n)

pub get_d_range : (i n k d : ℕ) → k < n → get_or (range i n) k d ≡ i + k
unfolding range
get_d_range i zero k d h = absurd (not-suc-le-zero h)
get_d_range i (suc n) zero d h = omega arith
get_d_range i (suc n) (suc k) d h = get_d_range (suc i) n k d (le_of_suc-le-suc h) ∙ omega arith

pub get_d_map : (f : ℕ → ℕ) (l : List ℕ) (k d : ℕ) → k < length l → get_or (map f l) k d ≡ f (get_or l k d)
get_d_map f [] k d h = absurd (not-suc-le-zero h)
get_d_map f (x ∷ xs) zero d h = refl
get_d_map f (x ∷ xs) (suc k) d h = get_d_map f xs k d (le_of_suc-le-suc h)

module _ (shape structure : List ℕ) (cells : List Bool) where
  pub labels_at : (p : ℕ) → p < size shape → get_or (labels shape structure cells) p 0 ≡ label shape structure cells p
  unfolding labels
  labels_at p h =
      get_d_map (label shape structure cells) (range 0 (size shape)) p 0 (rw (length_range 0 (size shape)) h)
      ∙ ap (label shape structure cells) (get_d_range 0 (size shape) p 0 h ∙ zero-add p)

  pub length_labels : length (labels shape structure cells) ≡ size shape
  unfolding labels
  length_labels = length-map (range 0 (size shape)) (label shape structure cells) ∙ length_range 0 (size shape)

  -- they are numbered by the chain rule, and no other list of that length is
  pub labels_right : Labelled shape structure cells (group_count shape structure cells) (λ p. get_or (labels shape structure cells) p 0)
  labels_right = numbered_same (label shape structure cells) _ (λ p h. sym (labels_at p h)) (label_right shape structure cells)

  pub labels_only : (n : ℕ) (ns : List ℕ) → length ns ≡ size shape → Labelled shape structure cells n (λ p. get_or ns p 0)
      → ns ≡ labels shape structure cells
  labels_only n ns l N =
      ext_get_or 0 ns (labels shape structure cells) (l ∙ sym length_labels)
      (λ i h. label_only shape structure cells n _ N i (subst (λ (k : ℕ). i < k) l h) ∙ sym (labels_at i (subst (λ (k : ℕ). i < k) l h)))
