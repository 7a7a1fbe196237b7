-- SciPy's description is document 01's chain rule, for every symmetric structure: one step, one grouping, one count, the same numbers.
-- Assumes nothing.
use mathlib.Core.Path.{◌≡◌, refl, sym, ap, ◌∙◌}
use mathlib.Core.Logic.{◌⊎◌, inl, inr, ◌↔◌}
use mathlib.Core.Bool.{Bool, true, false, not}
use mathlib.Core.List.{List, Memᴰ}
use Prim.Native.Nat.{ℕ, ◌<◌}
use native.Mathlib.Nat.{zero-add}
use native.Mathlib.Omega.{arith}
use borrow.Author.Tests.{ltb-true, ltb-false, lt-ltb, eqb-false, ne_eqb, not-true}
use lib.Dec.{eqb, ltb}
use lib.ListN.{length, get_or, length-map}
use Rattle.groups.specs.Groups.{Chain, Joined}
use Rattle.groups.specs.Numbers.{number}
use Rattle.groups.proofs.BoolLaws.{and_true, and_left, and_right}
use Rattle.groups.proofs.ChainLaws.{chain_map}
use Rattle.groups.proofs.RepLaws.{Ends}
use Rattle.groups.proofs.NumberLaws.{number_right, numbered_over, numbered_same}
use Rattle.frame.specs.Shape.{size, coords}
use Rattle.frame.specs.Structure.{on, centre_code, opposite_code, Symmetric}
use Rattle.frame.specs.ChainRule.{nonzero, Leads, Step, Labelled, group_count, label, range, labels}
use Rattle.frame.specs.Scipy.{Connects, ScipyStep, ScipyLabelled, connecting, scipy_edges, scipy_count, scipy_labels}
use Rattle.frame.specs.Causes.{open_cause}
use Rattle.frame.proofs.ShapeLaws.{length_coords}
use Rattle.frame.proofs.StructureLaws.{twice_mid, half_mid, backward_below}
use Rattle.frame.proofs.ChainRuleLaws.{edge_led, led_edge, nonzero_ends, count_only, labels_only, length_range, get_d_range}
use Rattle.frame.proofs.ChainRuleLaws.{get_d_map, label_right}
use Rattle.frame.proofs.SymmetryLaws.{symmetric_test, opposite_leads}
use Rattle.frame.proofs.CauseLaws.{open_accepted}

module _ (shape structure : List ℕ) (symmetric : Symmetric (length shape) structure) where
  abbrev rank : ℕ
  rank = length shape

  -- ---- connections

  -- either way: by the opposite offset
  abbrev connects_back : (p q : ℕ) → Connects shape structure p q → Connects shape structure q p
  connects_back p q c = record {
    code = opposite_code rank c.code;
    is_code = omega (arith, c.is_code);
    off_centre = λ e. c.off_centre (omega (arith, half_mid rank, twice_mid rank, c.is_code));
    is_on = sym (symmetric c.code c.is_code) ∙ c.is_on;
    leads = opposite_leads rank c.code (coords shape p) (coords shape q) c.is_code (length_coords shape p) (length_coords shape q)
        c.leads;
  }

  -- document 01's offsets are the half of SciPy's before the centre
  leads_connects : (p q : ℕ) → Leads shape structure p q → Connects shape structure p q
  leads_connects p q l =
      let below = ltb-true l.code (centre_code rank) (sym (backward_below rank l.code l.is_code) ∙ l.is_backward) in
      record { code = l.code; is_code = l.is_code; off_centre = λ e. omega arith; is_on = l.is_on; leads = l.leads }

  connects_before : (p q : ℕ) (c : Connects shape structure p q) → c.code < centre_code rank → Leads shape structure p q
  connects_before p q c l = record {
    code = c.code;
    is_code = c.is_code;
    is_backward = backward_below rank c.code c.is_code ∙ lt-ltb c.code (centre_code rank) l;
    is_on = c.is_on;
    leads = c.leads;
  }

  connects_leads : (p q : ℕ) → Connects shape structure p q → Leads shape structure p q ⊎ Leads shape structure q p
  connects_leads p q c = go (ltb c.code (centre_code rank)) refl
    where
      go : (b : Bool) → ltb c.code (centre_code rank) ≡ b → Leads shape structure p q ⊎ Leads shape structure q p
      go true e = inl (connects_before p q c (ltb-true c.code (centre_code rank) e))
      go false e =
          let above = ltb-false c.code (centre_code rank) e in
          let off = c.off_centre in
          inr (connects_before q p (connects_back p q c) (omega (arith, half_mid rank, twice_mid rank, c.is_code)))

  -- ---- steps

  module _ (cells : List Bool) where
    step_scipy : (p q : ℕ) → Step shape structure cells p q → ScipyStep shape structure cells p q
    step_scipy p q s = record { here = s.here; there = s.there; connected = go s.way }
      where
        go : Leads shape structure p q ⊎ Leads shape structure q p → Connects shape structure p q
        go (inl l) = leads_connects p q l
        go (inr l) = connects_back q p (leads_connects q p l)

    scipy_step : (p q : ℕ) → ScipyStep shape structure cells p q → Step shape structure cells p q
    scipy_step p q s = record { here = s.here; there = s.there; way = connects_leads p q s.connected }

    -- SciPy's step is document 01's
    pub same_step : (p q : ℕ) → ScipyStep shape structure cells p q ↔ Step shape structure cells p q
    same_step p q = (scipy_step p q, step_scipy p q)

    -- so one chain joins two cells by the one exactly when one does by the other
    pub same_chain : (p q : ℕ) → Chain (ScipyStep shape structure cells) p q ↔ Chain (Step shape structure cells) p q
    same_chain p q = (λ h. chain_map scipy_step h, λ h. chain_map step_scipy h)

    -- and whatever numbers the groups numbers SciPy's features
    pub same_labelled : (n : ℕ) (ν : ℕ → ℕ) → ScipyLabelled shape structure cells n ν ↔ Labelled shape structure cells n ν
    same_labelled n ν = (
      numbered_over (λ a b h. chain_map scipy_step h) (λ a b h. chain_map step_scipy h),
      numbered_over (λ a b h. chain_map step_scipy h) (λ a b h. chain_map scipy_step h),
    )

    -- ---- computed

    abbrev test : ℕ → Bool
    test = connecting shape structure

    edge_scipy : (p q : ℕ) → Memᴰ (record { from = p; to = q }) (scipy_edges shape structure cells)
        → ScipyStep shape structure cells p q
    unfolding scipy_edges connecting
    edge_scipy p q m =
        let b = edge_led shape test cells (record { from = p; to = q }) m in
        let l = b.2 in
        record {
          here = b.0;
          there = b.1;
          connected = record {
            code = l.code;
            is_code = l.is_code;
            off_centre = eqb-false l.code (centre_code rank)
                (not-true _ (and_left (not (eqb l.code (centre_code rank))) _ l.passes));
            is_on = and_right (not (eqb l.code (centre_code rank))) (on structure l.code) l.passes;
            leads = l.leads;
          };
        }

    scipy_edge : (p q : ℕ) → ScipyStep shape structure cells p q
        → Memᴰ (record { from = p; to = q }) (scipy_edges shape structure cells)
    unfolding scipy_edges connecting
    scipy_edge p q s =
        let c = s.connected in
        led_edge shape test cells p q s.here s.there
        (record {
          code = c.code;
          is_code = c.is_code;
          passes = and_true _ _ (ap not (ne_eqb c.code (centre_code rank) c.off_centre)) c.is_on;
          leads = c.leads;
        })

    joined_scipy : (p q : ℕ) → Joined (scipy_edges shape structure cells) p q → ScipyStep shape structure cells p q
    joined_scipy p q (inl m) = edge_scipy p q m
    joined_scipy p q (inr m) = let s = edge_scipy q p m in
        record { here = s.there; there = s.here; connected = connects_back q p s.connected }

    scipy_joined : (p q : ℕ) → ScipyStep shape structure cells p q → Joined (scipy_edges shape structure cells) p q
    scipy_joined p q s = inl (scipy_edge p q s)

    -- the computed numbers are those of SciPy's description
    pub scipy_number : ℕ → ℕ
    scipy_number = number (nonzero cells) (scipy_edges shape structure cells)

    ends : Ends (λ p. nonzero cells p ≡ true) (scipy_edges shape structure cells)
    unfolding scipy_edges
    ends = nonzero_ends shape test cells

    pub scipy_right : ScipyLabelled shape structure cells (scipy_count shape structure cells) scipy_number
    unfolding scipy_count scipy_number
    scipy_right = numbered_over (λ a b h. chain_map joined_scipy h) (λ a b h. chain_map scipy_joined h)
        (number_right (nonzero cells) (scipy_edges shape structure cells) ends (size shape))

    -- so n and the numbers are SciPy's
    pub same_count : scipy_count shape structure cells ≡ group_count shape structure cells
    same_count = count_only shape structure cells _ scipy_number ((same_labelled _ scipy_number).0 scipy_right)

    pub same_labels : scipy_labels shape structure cells ≡ labels shape structure cells
    same_labels = labels_only shape structure cells (scipy_count shape structure cells) (scipy_labels shape structure cells) long
        (numbered_same scipy_number _ (λ p h. sym (at p h)) ((same_labelled _ scipy_number).0 scipy_right))
      where
        long : length (scipy_labels shape structure cells) ≡ size shape
        long = unfold scipy_labels in length-map (range 0 (size shape)) _ ∙ length_range 0 (size shape)

        at : (p : ℕ) → p < size shape → get_or (scipy_labels shape structure cells) p 0 ≡ scipy_number p
        at p h = unfold scipy_labels scipy_number in
            get_d_map scipy_number (range 0 (size shape)) p 0 (rw (length_range 0 (size shape)) h)
            ∙ ap scipy_number (get_d_range 0 (size shape) p 0 h ∙ zero-add p)

-- ---- of every accepted opening

module _ (shape structure : List ℕ) (memory : ℕ) (accepted : open_cause shape structure memory ≡ 0) where
  pub accepted_symmetric : Symmetric (length shape) structure
  accepted_symmetric = (symmetric_test (length shape) structure).0 (open_accepted shape structure memory accepted).not_lopsided

  -- whatever cells are fed: n and the numbers of document 01's chain rule are those of SciPy's description, and of what it computes
  pub accepted_scipy : (cells : List Bool)
      → ScipyLabelled shape structure cells (group_count shape structure cells) (label shape structure cells)
      × (scipy_count shape structure cells ≡ group_count shape structure cells)
      × (scipy_labels shape structure cells ≡ labels shape structure cells)
  accepted_scipy cells = (
    (same_labelled shape structure accepted_symmetric cells _ _).1 (label_right shape structure cells),
    same_count shape structure accepted_symmetric cells,
    same_labels shape structure accepted_symmetric cells,
  )
