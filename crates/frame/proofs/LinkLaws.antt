-- The law that joins cells and runs: a chain joins two nonzero fed cells exactly when touches link their runs.
-- Assumes nothing.
use mathlib.Core.Path.{◌≡◌, refl, sym, ap, ◌∙◌, subst}
use mathlib.Core.Logic.{◌⊎◌, inl, inr, ◌↔◌}
use mathlib.Core.Bool.{Bool, true, false, ◌||◌}
use mathlib.Core.List.{List}
use Prim.Native.Nat.{ℕ, zero, suc, ◌+◌, ◌-◌, ◌*◌, ◌/◌, ◌%◌, ◌^◌, ◌≤◌, ◌<◌}
use native.Mathlib.Nat.{le_trans, div-add-mod', pow-succ'}
use native.Mathlib.Omega.{arith}
use borrow.Author.Tests.{ne_eqb, ltb-true, ltb-false, lt-ltb}
use lib.Dec.{ltb}
use lib.Arith.{digits_div, digits_mod}
use lib.ListN.{length, replicate}
use Rattle.groups.specs.Groups.{Chain, one, more, Edge, Joined, Linked}
use Rattle.groups.proofs.BoolLaws.{and_true, or_left, or_right}
use Rattle.groups.proofs.CountLaws.{count_off}
use Rattle.groups.proofs.ChainLaws.{chain_trans, chain_sym, chain_map, chain_refl, chain_bind}
use Rattle.groups.proofs.RepLaws.{linked_sym}
use Rattle.frame.specs.Shape.{size, width, leading, lines, coords}
use Rattle.frame.specs.Structure.{offset, Moved, on, left_on}
use Rattle.frame.specs.ChainRule.{nonzero, Leads, Step}
use Rattle.frame.specs.Runs.{goes_on, begins_run, run_of, Run, runs_before, frame_run}
use Rattle.frame.specs.Touches.{reaches, used, has_nbr, nbr_line, frame_touches}
use Rattle.frame.proofs.ShapeLaws.{length_leading, length_coords, coords_inj, Fits, fits_size}
use Rattle.frame.proofs.StructureLaws.{mid, twice_mid, next_mid, backward_mid, length_offset, offset_mid, left_on_lem, moved_only}
use Rattle.frame.proofs.StructureLaws.{moved_still, line_moved}
use Rattle.frame.proofs.ChainRuleLaws.{step_flip}
use Rattle.frame.proofs.RunLaws.{start_of, RunStep, nonzero_under, chain_start, lift_step}
use Rattle.frame.proofs.FrameRunLaws.{run_within, run_cells, line_below, InRun, cell_run}
use Rattle.frame.proofs.NbrLaws.{nbr_found, nbr_moved}
use Rattle.frame.proofs.ReachLaws.{Meeting, meeting_reaches, reaches_meeting}
use Rattle.frame.proofs.TouchLaws.{used_below, Touch, touches_from_lem, from_touches}

-- one of three is set
three_on : (f : ℕ → Bool) (t : ℕ) → t < 3 → f t ≡ true → (f 0 || (f 1 || f 2)) ≡ true
three_on f zero h o = or_left (f 0) (f 1 || f 2) o
three_on f (suc zero) h o = or_right (f 0) (f 1 || f 2) (or_left (f 1) (f 2) o)
three_on f (suc (suc zero)) h o = or_right (f 0) (f 1 || f 2) (or_right (f 1) (f 2) o)
three_on f (suc (suc (suc t))) h o = absurd (omega arith)

-- the offset before the centre's leads to the cell before, in the same line
one_left : (shape : List ℕ) (p q c : ℕ) → 0 < length shape → c < 3 ^ length shape → c ≡ 3 * mid (length (leading shape)) → p < size shape
    → q < size shape → p / width shape < lines shape → q / width shape < lines shape
    → Moved (coords shape p) (offset (length shape) c) (coords shape q) → (p ≡ suc q) × (p % width shape ≡ 0 → ⊥)
one_left shape p q c ranked hc e hp hq lp lq m = (
  omega (arith, div-add-mod' p (width shape), div-add-mod' q (width shape), ap (λ (k : ℕ). k * width shape) line, move.1, last),
  λ z. omega (arith, move.1, last),
)
  where
    ds : List ℕ
    ds = leading shape

    move : Moved (coords ds (p / width shape)) (offset (length ds) (c / 3)) (coords ds (q / width shape))
        × (p % width shape + c % 3 ≡ suc (q % width shape))
    move = (line_moved shape c p q ranked hc hp hq).0 m

    third : c / 3 ≡ mid (length ds)
    third = rw e (omega arith)

    last : c % 3 ≡ 0
    last = rw e (omega arith)

    still : Moved (coords ds (p / width shape)) (replicate (length ds) 1) (coords ds (p / width shape))
    still = subst (λ (k : ℕ). Moved (coords ds (p / width shape)) (replicate k 1) (coords ds (p / width shape)))
        (length_coords ds (p / width shape)) (moved_still (coords ds (p / width shape)))

    line : p / width shape ≡ q / width shape
    line = coords_inj ds (p / width shape) (q / width shape) lp lq
        (moved_only (coords ds (p / width shape)) (replicate (length ds) 1) (coords ds (p / width shape))
        (coords ds (q / width shape)) still (rw (third, offset_mid (length ds)) at move.0))

module _ (shape structure : List ℕ) (cells : List Bool) (n : ℕ) (F : Fits shape n cells) where
  -- the leading dimensions and the width, how many runs stand before each line, the runs by number, the run of a cell, and the touches of
  -- all fed lines
  abbrev ds : List ℕ
  ds = leading shape

  abbrev w : ℕ
  w = width shape

  abbrev S : ℕ → ℕ
  S = runs_before shape structure cells

  abbrev run : ℕ → Run
  run = frame_run shape structure cells

  abbrev of : ℕ → ℕ
  of = run_of shape structure cells

  abbrev T : List Edge
  T = frame_touches shape structure cells 0 n

  fits : length cells ≤ size shape
  fits = fits_size shape n cells F

  line_in_lem : (p : ℕ) → nonzero cells p ≡ true → p / w < lines shape
  line_in_lem p a = le_trans (line_below shape structure cells n F p a) F.below

  -- ---- a step stays in a run, or is a touch

  -- to the left, with the left byte nonzero: the same run
  stays : (p q : ℕ) → nonzero cells p ≡ true → nonzero cells q ≡ true → left_on shape structure ≡ true → p ≡ suc q → (p % w ≡ 0 → ⊥)
      → of p ≡ of q
  unfolding run_of
  stays p q a b l e ne = rw e (ap (λ (k : ℕ). k - 1)
      (count_off (begins_run shape structure cells) (suc q) (subst (λ (k : ℕ). begins_run shape structure cells k ≡ false) e off)))
    where
      back : p - 1 ≡ q
      back = omega arith

      goes : goes_on shape cells p ≡ true
      goes = unfold goes_on in rw (ne_eqb (p % w) 0 ne, back, b)

      off : begins_run shape structure cells p ≡ false
      off = unfold begins_run in rw (a, l, goes)

  module _ (p q : ℕ) (a : nonzero cells p ≡ true) (b : nonzero cells q ≡ true) (L : Leads shape structure p q) where
    hp : p < size shape
    hp = nonzero_under shape structure cells fits p a

    hq : q < size shape
    hq = nonzero_under shape structure cells fits q b

    low : L.code < mid (suc (length ds))
    low = subst (λ (k : ℕ). L.code < mid k) (length_leading shape F.ranked)
        (ltb-true _ _ (sym (backward_mid (length shape) L.code L.is_code) ∙ L.is_backward))

    same_run : L.code ≡ 3 * mid (length ds) → of p ≡ of q
    same_run e =
        let k = one_left shape p q L.code F.ranked L.is_code e hp hq (line_in_lem p a) (line_in_lem q b) L.leads in
        stays p q a b (left_on_lem shape structure F.ranked ∙ ap (on structure) (sym e) ∙ L.is_on) k.0 k.1

    touch : L.code / 3 < mid (length ds) → Touch ds structure S run 0 n (of p) (of q)
    touch h =
        record {
          line = p / w;
          line_low = omega arith;
          line_high = omega (arith, line_below shape structure cells n F p a);
          lead = k;
          is_lead = omega (arith, twice_mid (length ds));
          is_used = unfold used in and_true _ _ (backward_mid (length ds) k (omega (arith, twice_mid (length ds))) ∙ lt-ltb k
              (mid (length ds)) h) (rw zeroth at (three_on (λ t. on structure (3 * k + t)) (L.code % 3) (omega arith) byte));
          nbr_there = found.0;
          r_low = P.low;
          r_high = P.high;
          s_low = subst (λ (m : ℕ). S m ≤ of q) (sym found.1) Q.low;
          s_high = subst (λ (m : ℕ). of q < S (suc m)) (sym found.1) Q.high;
          reached =
              rw zeroth at (meeting_reaches (λ t. on structure (3 * k + t)) (run (of q)) (run (of p))
              (record {
                t = L.code % 3;
                is_t = omega arith;
                is_on = byte;
                x = p % w;
                in_c = P.covers;
                y = q % w;
                in_m = Q.covers;
                along =
                    move.1;
              }));
        }
      where
        k : ℕ
        k = L.code / 3

        P : InRun shape structure cells n F p
        P = cell_run shape structure cells n F p a

        Q : InRun shape structure cells n F q
        Q = cell_run shape structure cells n F q b

        move : Moved (coords ds (p / w)) (offset (length ds) k) (coords ds (q / w)) × (p % w + L.code % 3 ≡ suc (q % w))
        move = (line_moved shape L.code p q F.ranked L.is_code hp hq).0 L.leads

        found : (has_nbr ds (offset (length ds) k) (p / w) ≡ true) × (nbr_line ds (offset (length ds) k) (p / w) ≡ q / w)
        found = nbr_found ds (offset (length ds) k) (p / w) (q / w) (line_in_lem p a) (line_in_lem q b) (length_offset (length ds) k) move.0

        byte : on structure (3 * k + L.code % 3) ≡ true
        byte = let e : 3 * (L.code / 3) + L.code % 3 ≡ L.code = omega arith in ap (on structure) e ∙ L.is_on

        zeroth : 3 * k + 0 ≡ 3 * k
        zeroth = omega arith

    leads_linked : Linked T (of p) (of q)
    leads_linked = go (ltb (L.code / 3) (mid (length ds))) refl
      where
        go : (t : Bool) → ltb (L.code / 3) (mid (length ds)) ≡ t → Linked T (of p) (of q)
        go true t = more (inl (from_touches ds structure S run 0 n _ _ (touch (ltb-true _ _ t)))) one
        go false t = chain_refl (same_run (let k = ltb-false (L.code / 3) (mid (length ds)) t in omega (arith, next_mid (length ds), low)))

  -- ---- a touch is a step

  touch_step : (r s : ℕ) → Touch ds structure S run 0 n r s → RunStep shape structure cells r s
  touch_step r s T = record { p = p; q = q; steps = record { here = P.1; there = Q.1; way = inl leads }; of_r = P.2; of_s = Q.2 }
    where
      ℓ : ℕ
      ℓ = T.line

      k : ℕ
      k = T.lead

      m : ℕ
      m = nbr_line ds (offset (length ds) k) ℓ

      hl : ℓ < lines shape
      hl = omega (arith, T.line_high, F.below)

      moves : (m < size ds) × Moved (coords ds ℓ) (offset (length ds) k) (coords ds m)
      moves = nbr_moved ds (offset (length ds) k) ℓ hl (length_offset (length ds) k) T.nbr_there

      zeroth : 3 * k ≡ 3 * k + 0
      zeroth = omega arith

      M : Meeting (λ t. on structure (3 * k + t)) (run s) (run r)
      M =
          reaches_meeting (λ t. on structure (3 * k + t)) (run s) (run r)
          (run_within shape structure cells m s moves.0 T.s_low T.s_high).full
          (run_within shape structure cells ℓ r hl T.r_low T.r_high).full
          (subst (λ (z : ℕ). reaches (on structure z) (on structure (3 * k + 1)) (on structure (3 * k + 2)) (run s) (run r) ≡ true) zeroth
          T.reached)

      p : ℕ
      p = ℓ * w + M.x

      q : ℕ
      q = m * w + M.y

      P : (M.x < w) × (nonzero cells p ≡ true) × (of p ≡ r)
      P = run_cells shape structure cells ℓ r hl T.r_low T.r_high M.x M.in_c

      Q : (M.y < w) × (nonzero cells q ≡ true) × (of q ≡ s)
      Q = run_cells shape structure cells m s moves.0 T.s_low T.s_high M.y M.in_m

      c : ℕ
      c = 3 * k + M.t

      hk : k < mid (length ds)
      hk = used_below structure (length ds) k T.is_lead T.is_used

      rank : length shape ≡ suc (length ds)
      rank = length_leading shape F.ranked

      hc : c < 3 ^ length shape
      hc = rw rank (omega (arith, pow-succ' 3 (length ds), twice_mid (length ds), M.is_t, hk))

      below : c < mid (length shape)
      below = rw rank (omega (arith, next_mid (length ds), M.is_t, hk))

      third : c / 3 ≡ k
      third = omega (arith, M.is_t)

      last : c % 3 ≡ M.t
      last = omega (arith, M.is_t)

      move : Moved (coords shape p) (offset (length shape) c) (coords shape q)
      move =
          (line_moved shape c p q F.ranked hc (nonzero_under shape structure cells fits p P.1)
          (nonzero_under shape structure cells fits q Q.1)).1
          (rw (digits_div ℓ P.0, digits_div m Q.0, digits_mod ℓ P.0, digits_mod m Q.0, third, last) (moves.1, M.along))

      leads : Leads shape structure p q
      leads = record {
        code = c;
        is_code = hc;
        is_backward = backward_mid (length shape) c hc ∙ lt-ltb c
            (mid (length shape)) below;
        is_on = M.is_on;
        leads = move;
      }

  -- ---- both ways

  pub linked_steps : (r s : ℕ) → Linked T r s → Chain (RunStep shape structure cells) r s
  linked_steps r s h = chain_map go h
    where
      turn : (x y : ℕ) → RunStep shape structure cells x y → RunStep shape structure cells y x
      turn x y t =
          record { p = t.q; q = t.p; steps = step_flip shape structure cells t.p t.q t.steps; of_r = t.of_s; of_s = t.of_r }

      go : (x y : ℕ) → Joined T x y → RunStep shape structure cells x y
      go x y (inl m) = touch_step x y (touches_from_lem ds structure S run 0 n x y m)
      go x y (inr m) = turn y x (touch_step y x (touches_from_lem ds structure S run 0 n y x m))

  step_linked : (p q : ℕ) → Step shape structure cells p q → Linked T (of p) (of q)
  step_linked p q s = go s.way
    where
      go : Leads shape structure p q ⊎ Leads shape structure q p → Linked T (of p) (of q)
      go (inl l) = leads_linked p q s.here s.there l
      go (inr l) = linked_sym T (leads_linked q p s.there s.here l)

  pub steps_linked : (r s : ℕ) → Chain (RunStep shape structure cells) r s → Linked T r s
  steps_linked r s h = chain_bind (λ k. k) go h
    where
      go : (x y : ℕ) → RunStep shape structure cells x y → Linked T x y
      go x y t = chain_trans (chain_refl (sym t.of_r)) (chain_trans (step_linked t.p t.q t.steps) (chain_refl t.of_s))

  -- the law
  pub chain_linked : (p q : ℕ) → nonzero cells p ≡ true → nonzero cells q ≡ true
      → Chain (Step shape structure cells) p q ↔ Linked T (of p) (of q)
  chain_linked p q a b = (
    λ h. chain_bind of step_linked h,
    λ h.
        let up = chain_bind (start_of shape structure cells) (lift_step shape structure cells fits) (linked_steps _ _ h) in
        chain_trans (chain_start shape structure cells fits p a)
        (chain_trans up (chain_sym (step_flip shape structure cells) (chain_start shape structure cells fits q b))),
  )
