-- Runs by their numbers: each is known by the cell that begins it, and groups of runs number the cells.
-- Assumes nothing.
use mathlib.Core.Path.{◌≡◌, refl, sym, ap, ◌∙◌, subst}
use mathlib.Core.Logic.{◌⊎◌, inl, inr}
use mathlib.Core.Bool.{Bool, true, false, not, cond, ◌&&◌, true≢false}
use mathlib.Core.List.{List, [], ◌∷◌}
use Prim.Native.Nat.{ℕ, zero, suc, ◌+◌, ◌-◌, ◌%◌, ◌≤◌, ◌<◌}
use native.Mathlib.Nat.{le_refl, lt_of_lt_of_le, mod-one, zero-mod}
use native.Mathlib.Omega.{arith}
use borrow.Author.Tests.{eqb-true, eqb-false, eq-eqb, not-true, leb-true, leb-false, lt-ltb}
use lib.Dec.{eqb, leb}
use lib.ListN.{length}
use Rattle.groups.specs.Groups.{Chain, one, more, Edge, Joined, rep, is_root, count, groups, joins}
use Rattle.groups.specs.Numbers.{Numbered, number}
use Rattle.groups.proofs.BoolLaws.{and_true, and_left, and_right}
use Rattle.groups.proofs.CountLaws.{count_on, count_off, count_mono, count_le, count_all, count_beyond, place, Placed, place_right}
use Rattle.groups.proofs.CountLaws.{placed_only}
use Rattle.groups.proofs.ChainLaws.{chain_trans, chain_sym}
use Rattle.groups.proofs.RepLaws.{rep_least, Ends}
use Rattle.groups.proofs.GroupLaws.{groups_joins, all_live}
use Rattle.groups.proofs.NumberLaws.{number_right, numbered_over}
use Rattle.groups.proofs.QuotientLaws.{Onto, by_runs}
use Rattle.frame.specs.Shape.{size, width}
use Rattle.frame.specs.Structure.{left_code, left_on}
use Rattle.frame.specs.ChainRule.{nonzero, Leads, Step, edges, group_count, label}
use Rattle.frame.specs.Runs.{goes_on, begins_run, runs, run_of}
use Rattle.frame.proofs.StructureLaws.{mid, twice_mid, half_mid, next_mid, backward_mid, left_moved}
use Rattle.frame.proofs.ChainRuleLaws.{nonzero_below, nonzero_beyond, step_edge, step_flip, label_only, count_only}

-- ---- the cell to the left

module _ (structure : List ℕ) (cells : List Bool) where
  -- where the left byte is nonzero, a cell that goes on leads to the cell to the left
  pub left_leads : (shape : List ℕ) (p : ℕ) → p < size shape → left_on shape structure ≡ true → goes_on shape cells p ≡ true
      → Leads shape structure p (p - 1)
  unfolding left_on goes_on
  left_leads [] p h l g = unfold width in absurd
      (true≢false (sym (and_left (not (eqb (p % 1) 0)) (nonzero cells (p - 1)) g) ∙ ap not (eq-eqb (p % 1) 0 (mod-one p))))
  left_leads (d ∷ ds) p h l g =
      let r = length ds in
      let c : left_code (suc r) < mid (suc r) = omega (arith, half_mid (suc r), next_mid r) in
      record {
        code = left_code (suc r);
        is_code = omega (arith, twice_mid (suc r));
        is_backward =
            backward_mid (suc r) (left_code (suc r)) (omega (arith, twice_mid (suc r))) ∙ lt-ltb (left_code (suc r)) (mid (suc r)) c;
        is_on = l;
        leads = left_moved (d ∷ ds) p (omega arith) h
            (λ z. eqb-false (p % width (d ∷ ds)) 0 (not-true _ (and_left _ (nonzero cells (p - 1)) g)) z);
      }

  pub goes_pos : (shape : List ℕ) (p : ℕ) → goes_on shape cells p ≡ true → 0 < p
  unfolding goes_on
  goes_pos shape zero g = absurd (true≢false
      (sym (and_left (not (eqb (0 % width shape) 0)) (nonzero cells (0 - 1)) g) ∙ ap not
      (eq-eqb (0 % width shape) 0 (zero-mod (width shape)))))
  goes_pos shape (suc p) g = omega arith

  pub goes_nonzero : (shape : List ℕ) (p : ℕ) → goes_on shape cells p ≡ true → nonzero cells (p - 1) ≡ true
  unfolding goes_on
  goes_nonzero shape p g = and_right (not (eqb (p % width shape) 0)) (nonzero cells (p - 1)) g

-- ---- n is at most runs: every group begins with a run

module _ (shape structure : List ℕ) (cells : List Bool) where
  root_begins : (p : ℕ) → p < size shape → (nonzero cells p && is_root (edges shape structure cells) p) ≡ true
      → begins_run shape structure cells p ≡ true
  unfolding begins_run is_root
  root_begins p h e = and_true (nonzero cells p) _ a (go (left_on shape structure) refl (goes_on shape cells p) refl)
    where
      a : nonzero cells p ≡ true
      a = and_left (nonzero cells p) _ e

      r : rep (edges shape structure cells) p ≡ p
      r = eqb-true _ _ (and_right (nonzero cells p) (eqb (rep (edges shape structure cells) p) p) e)

      go : (b : Bool) → left_on shape structure ≡ b → (c : Bool) → goes_on shape cells p ≡ c
          → not (left_on shape structure && goes_on shape cells p) ≡ true
      go false eb c ec = rw eb
      go true eb false ec = rw (eb, ec)
      go true eb true ec =
          let pos = goes_pos structure cells shape p ec in
          let k = rep_least (edges shape structure cells)
          (more (inl (step_edge shape structure cells p (p - 1) a (goes_nonzero structure cells shape p ec)
          (left_leads structure cells shape p h eb ec))) one) in
          absurd (omega (arith, r))

  pub count_runs : group_count shape structure cells ≤ runs shape structure cells
  unfolding group_count runs groups
  count_runs = count_le _ _ (size shape) root_begins

-- ---- where a run begins

-- the cell that begins run r
pub start_of : List ℕ → List ℕ → List Bool → ℕ → ℕ
start_of shape structure cells r = place (begins_run shape structure cells) (size shape) r

-- a step leads from a cell of run r to one of run s
pub record RunStep (shape structure : List ℕ) (cells : List Bool) (r s : ℕ) : Type 0 where
  pub p : ℕ
  pub q : ℕ
  pub steps : Step shape structure cells p q
  pub of_r : run_of shape structure cells p ≡ r
  pub of_s : run_of shape structure cells q ≡ s

module _ (shape structure : List ℕ) (cells : List Bool) where
  -- the cells that begin a run, the run of a cell, the cell that begins a run, how many runs there are, and steps
  abbrev begins : ℕ → Bool
  begins = begins_run shape structure cells

  abbrev of : ℕ → ℕ
  of = run_of shape structure cells

  abbrev start : ℕ → ℕ
  start = start_of shape structure cells

  abbrev N : ℕ
  N = runs shape structure cells

  abbrev Steps : ℕ → ℕ → Type 0
  Steps = Step shape structure cells

  -- b begins the run that p is of, and a chain leads to it
  pub record Begun (p b : ℕ) : Type 0 where
    pub at_most : b ≤ p
    pub is_begin : begins b ≡ true
    pub ranks : count begins (suc b) ≡ count begins (suc p)
    pub chained : Chain Steps p b

  -- a nonzero cell begins a run, or the left byte is nonzero and it goes on
  begins_or : (p : ℕ) → nonzero cells p ≡ true
      → (begins p ≡ true) ⊎ ((begins p ≡ false) × (left_on shape structure ≡ true) × (goes_on shape cells p ≡ true))
  unfolding begins_run
  begins_or p a = go (left_on shape structure) refl (goes_on shape cells p) refl
    where
      go : (b : Bool) → left_on shape structure ≡ b → (c : Bool) → goes_on shape cells p ≡ c
          → ((nonzero cells p && not (left_on shape structure && goes_on shape cells p)) ≡ true) ⊎
          (((nonzero cells p && not (left_on shape structure && goes_on shape cells p)) ≡ false) × (left_on shape structure ≡ true)
          × (goes_on shape cells p ≡ true))
      go false eb c ec = inl (rw (a, eb))
      go true eb false ec = inl (rw (a, eb, ec))
      go true eb true ec = inr (rw (a, eb, ec), eb, ec)

  here_begun : (p : ℕ) → begins p ≡ true → (b : ℕ) × Begun p b
  here_begun p e = (p, record { at_most = le_refl p; is_begin = e; ranks = refl; chained = one })

  begun : (p : ℕ) → p < size shape → nonzero cells p ≡ true → (b : ℕ) × Begun p b
  begun zero h a = go (begins_or zero a)
    where
      go : (begins 0 ≡ true) ⊎ ((begins 0 ≡ false) × (left_on shape structure ≡ true) × (goes_on shape cells 0 ≡ true)) → (b : ℕ) × Begun 0 b
      go (inl e) = here_begun 0 e
      go (inr g) = absurd (omega (arith, goes_pos structure cells shape 0 g.2))
  begun (suc p) h a = go (begun p (omega arith)) (begins_or (suc p) a)
    where
      back : suc p - 1 ≡ p
      back = omega arith

      go : (nonzero cells p ≡ true → (b : ℕ) × Begun p b)
          → (begins (suc p) ≡ true) ⊎ ((begins (suc p) ≡ false) × (left_on shape structure ≡ true) × (goes_on shape cells (suc p) ≡ true))
          → (b : ℕ) × Begun (suc p) b
      go below (inl e) = here_begun (suc p) e
      go below (inr g) =
          let l : nonzero cells p ≡ true = rw back at (goes_nonzero structure cells shape (suc p) g.2) in
          let s : Leads shape structure (suc p) p = rw back at (left_leads structure cells shape (suc p) h g.1 g.2) in
          let r = below l in
          let R = r.1 in (
            r.0,
            record {
              at_most = omega (arith, R.at_most);
              is_begin = R.is_begin;
              ranks = R.ranks ∙ sym (count_off begins (suc p) g.0);
              chained = more (record { here = a; there = l; way = inl s }) R.chained;
            },
          )

  -- where its run starts
  module _ (fits : length cells ≤ size shape) where
    pub nonzero_under : (p : ℕ) → nonzero cells p ≡ true → p < size shape
    nonzero_under p a = lt_of_lt_of_le (nonzero_below cells p a) fits

    placed : (p : ℕ) → nonzero cells p ≡ true → (b : ℕ) × Begun p b × Placed begins (size shape) (of p) b
    unfolding run_of
    placed p a =
        let h = nonzero_under p a in
        let r = begun p h a in (
          r.0,
          r.1,
          record {
            under = omega (arith, r.1.at_most);
            passes = r.1.is_begin;
            rank = omega (
              arith,
              r.1.ranks,
              count_on begins r.0 r.1.is_begin,
            );
          },
        )

    pub run_below : (p : ℕ) → nonzero cells p ≡ true → of p < N
    unfolding runs
    run_below p a =
        let t = placed p a in
        omega (arith, t.2.rank, count_on begins t.0 t.2.passes, count_mono begins (suc t.0) (size shape) t.2.under)

    pub start_right : (r : ℕ) → r < N → Placed begins (size shape) r (start r)
    unfolding runs start_of
    start_right r h = place_right begins (size shape) r h

    start_is : (p : ℕ) (a : nonzero cells p ≡ true) → (placed p a).0 ≡ start (of p)
    start_is p a = placed_only _ _ _ _ _ (placed p a).2 (start_right (of p) (run_below p a))

    pub start_nonzero : (r : ℕ) → r < N → nonzero cells (start r) ≡ true
    unfolding begins_run
    start_nonzero r h = and_left (nonzero cells (start r)) _ (start_right r h).passes

    pub chain_start : (p : ℕ) → nonzero cells p ≡ true → Chain Steps p (start (of p))
    chain_start p a = subst (λ (k : ℕ). Chain Steps p k) (start_is p a) (placed p a).1.chained

    pub run_of_start : (r : ℕ) → r < N → of (start r) ≡ r
    unfolding run_of
    run_of_start r h = let t = start_right r h in omega (arith, t.rank, count_on begins (start r) t.passes)

    pub start_less : (r s : ℕ) → r < s → s < N → start r < start s
    start_less r s l h = go (leb (start s) (start r)) refl
      where
        go : (b : Bool) → leb (start s) (start r) ≡ b → start r < start s
        go true t = absurd (omega (
          arith,
          count_mono begins (start s) (start r) (leb-true _ _ t),
          (start_right r (omega arith)).rank,
          (start_right s h).rank,
        ))
        go false t = leb-false _ _ t

    pub lift_step : (r s : ℕ) → RunStep shape structure cells r s → Chain Steps (start r) (start s)
    lift_step r s t =
        let a = subst (λ (k : ℕ). Chain Steps t.p (start k)) t.of_r (chain_start t.p t.steps.here) in
        let b = subst (λ (k : ℕ). Chain Steps t.q (start k)) t.of_s (chain_start t.q t.steps.there) in
        chain_trans (chain_sym (step_flip shape structure cells) a) (more t.steps b)

    pub runs_onto : Onto (nonzero cells) Steps (size shape) (RunStep shape structure cells) N of start
    runs_onto = record {
      flip = step_flip shape structure cells;
      run_below = λ p h a. run_below p a;
      start_below = λ r h. (start_right r h).under;
      start_live = start_nonzero;
      run_start_lem = run_of_start;
      start_first = λ p h a. subst (λ (k : ℕ). k ≤ p) (start_is p a) (placed p a).1.at_most;
      start_chain = λ p h a. chain_start p a;
      start_mono = start_less;
      down = λ p q s. more (record { p = p; q = q; steps = s; of_r = refl; of_s = refl }) one;
      lift = lift_step;
      inside = λ r s t. subst (λ (k : ℕ). k < N) t.of_s (run_below t.q t.steps.there);
    }

    -- edges between runs that join what steps join give the count, the numbers and the joins
    module _ (es : List Edge) (sound : (r s : ℕ) → Chain (Joined es) r s → Chain (RunStep shape structure cells) r s)
        (whole : (r s : ℕ) → Chain (RunStep shape structure cells) r s → Chain (Joined es) r s) where
      runs_number : Numbered (nonzero cells) Steps (size shape) (groups (λ r. true) es N)
          (λ p. cond (nonzero cells p) (number (λ r. true) es (of p)) 0)
      runs_number = by_runs runs_onto _ _ (numbered_over sound whole (number_right (λ r. true) es (all_live es) N))

      pub runs_count : groups (λ r. true) es N ≡ group_count shape structure cells
      runs_count = count_only shape structure cells _ _ runs_number

      pub runs_label : (p : ℕ) → p < size shape → cond (nonzero cells p) (number (λ r. true) es (of p)) 0 ≡ label shape structure cells p
      runs_label p h = label_only shape structure cells _ _ runs_number p h

      -- the joins that a program over runs counts
      pub runs_joins : Ends (λ r. r < N) es → group_count shape structure cells + joins es ≡ N
      runs_joins w =
          ap (λ (k : ℕ). k + joins es) (sym runs_count) ∙ groups_joins (λ r. true) N es w (all_live es) ∙ count_all N

-- no run begins beyond the fed cells, so they are counted there
module _ (shape structure : List ℕ) (cells : List Bool) where
  begins_beyond : (a : ℕ) → length cells ≤ a → begins_run shape structure cells a ≡ false
  unfolding begins_run
  begins_beyond a h = rw (nonzero_beyond cells a h)

  pub runs_counted : length cells ≤ size shape → runs shape structure cells ≡ count (begins_run shape structure cells) (length cells)
  unfolding runs
  runs_counted fits =
      let e : length cells + (size shape - length cells) ≡ size shape = omega arith in
      ap (count (begins_run shape structure cells)) (sym e)
      ∙ count_beyond (begins_run shape structure cells) (length cells) (size shape - length cells) begins_beyond
