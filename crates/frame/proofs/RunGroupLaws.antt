-- What follows of the groups of runs: n is their count, a cell's number is its run's, runs = n + joins, and each one's smallest run.
-- Assumes nothing.
use mathlib.Core.Path.{◌≡◌, sym, ap, ◌∙◌, subst}
use mathlib.Core.Logic.{◌↔◌}
use mathlib.Core.Bool.{Bool, true, cond}
use mathlib.Core.List.{List, [], append-nil}
use Prim.Native.Nat.{ℕ, ◌+◌, ◌≤◌, ◌<◌}
use native.Mathlib.Nat.{zero-add, lt_of_le_of_lt}
use native.Mathlib.Omega.{arith}
use lib.ListN.{length}
use Rattle.groups.specs.Groups.{Chain, Edge, Joined, Linked, rep, groups, joins, visit}
use Rattle.groups.specs.Numbers.{number}
use Rattle.groups.proofs.ChainLaws.{chain_trans, chain_map, chain_refl}
use Rattle.groups.proofs.RepLaws.{rep_le, rep_linked, rep_right, rep_least, Ends}
use Rattle.groups.proofs.VisitLaws.{visit_joined, joined_visit, ends_visit}
use Rattle.frame.specs.Shape.{size, leading}
use Rattle.frame.specs.ChainRule.{nonzero, Step, group_count, label}
use Rattle.frame.specs.Runs.{runs, run_of, SmallestRun, runs_before, frame_run}
use Rattle.frame.specs.Touches.{frame_touches}
use Rattle.frame.proofs.ShapeLaws.{Fits, fits_size}
use Rattle.frame.proofs.ChainRuleLaws.{chain_nonzero}
use Rattle.frame.proofs.RunLaws.{start_of, RunStep, run_below, start_nonzero, run_of_start, runs_count, runs_label, runs_joins}
use Rattle.frame.proofs.FrameRunLaws.{start_le, runs_all}
use Rattle.frame.proofs.TouchLaws.{touches_below}
use Rattle.frame.proofs.LinkLaws.{linked_steps, steps_linked, chain_linked}

module _ (shape structure : List ℕ) (cells : List Bool) (n : ℕ) (F : Fits shape n cells) where
  -- the touches of all fed lines
  abbrev T : List Edge
  T = frame_touches shape structure cells 0 n

  -- their runs, and the run of a cell
  abbrev N : ℕ
  N = runs shape structure cells

  abbrev of : ℕ → ℕ
  of = run_of shape structure cells

  -- both runs of every touch are runs of the fed lines
  pub touches_runs : Ends (λ r. r < N) T
  touches_runs =
      subst (λ (k : ℕ). Ends (λ r. r < k) T) (ap (runs_before shape structure cells) (zero-add n) ∙ sym (runs_all shape structure cells n F))
      (touches_below (leading shape) structure (runs_before shape structure cells) (frame_run shape structure cells)
      (start_le shape structure cells) 0 n (omega (arith, F.below)))

  -- for every list that joins what the touches join, in any order and with repeats
  module _ (es : List Edge) (into : (a b : ℕ) → Joined es a b → Joined T a b) (onto : (a b : ℕ) → Joined T a b → Joined es a b) where
    there : (r s : ℕ) → Chain (Joined es) r s → Chain (RunStep shape structure cells) r s
    there r s h = linked_steps shape structure cells n F r s (chain_map into h)

    back : (r s : ℕ) → Chain (RunStep shape structure cells) r s → Chain (Joined es) r s
    back r s h = chain_map onto (steps_linked shape structure cells n F r s h)

    -- n of the cells is the number of groups of runs
    pub groups_runs : groups (λ r. true) es N ≡ group_count shape structure cells
    groups_runs = runs_count shape structure cells (fits_size shape n cells F) es there back

    -- a cell's number is its run's
    pub number_runs_lem : (p : ℕ) → p < size shape → cond (nonzero cells p) (number (λ r. true) es (of p)) 0 ≡ label shape structure cells p
    number_runs_lem = runs_label shape structure cells (fits_size shape n cells F) es there back

    -- runs = n + joins
    pub joins_runs : Ends (λ r. r < N) es → group_count shape structure cells + joins es ≡ N
    joins_runs = runs_joins shape structure cells (fits_size shape n cells F) es there back

    -- the runs of two cells have one representative exactly when a chain joins the cells
    pub rep_chain : (p q : ℕ) → nonzero cells p ≡ true → nonzero cells q ≡ true
        → (rep es (of p) ≡ rep es (of q)) ↔ Chain (Step shape structure cells) p q
    rep_chain p q a b =
        let C = chain_linked shape structure cells n F p q a b in
        let R = rep_right es (of p) (of q) in
        (λ e. C.1 (chain_map into (R.0 e)), λ h. R.1 (chain_map onto (C.0 h)))

    -- which is the smallest run of the cells' group
    pub rep_smallest : (p : ℕ) → nonzero cells p ≡ true → SmallestRun shape structure cells p (rep es (of p))
    rep_smallest p a = record {
      cell = start;
      of_group = (a, (linked start live).1 (chain_trans (chain_map into (rep_linked es (of p))) (chain_refl (sym own))));
      of_run = own;
      least = λ q g. rep_least es (chain_map onto ((linked q (chain_nonzero shape structure cells a g.1)).0 g.1));
    }
      where
        linked : (q : ℕ) → nonzero cells q ≡ true → Chain (Step shape structure cells) p q ↔ Linked T (of p) (of q)
        linked q b = chain_linked shape structure cells n F p q a b

        fits : length cells ≤ size shape
        fits = fits_size shape n cells F

        below : rep es (of p) < N
        below = lt_of_le_of_lt (rep_le es (of p)) (run_below shape structure cells fits p a)

        start : ℕ
        start = start_of shape structure cells (rep es (of p))

        live : nonzero cells start ≡ true
        live = start_nonzero shape structure cells fits (rep es (of p)) below

        own : of start ≡ rep es (of p)
        own = run_of_start shape structure cells fits (rep es (of p)) below

  -- ---- the touches, visited one after the other

  into : (a b : ℕ) → Joined (visit T []) a b → Joined T a b
  into a b h = rw append-nil at (visit_joined T [] a b h)

  onto : (a b : ℕ) → Joined T a b → Joined (visit T []) a b
  onto a b h = joined_visit T [] a b (rw append-nil h)

  pub groups_visited : groups (λ r. true) (visit T []) N ≡ group_count shape structure cells
  groups_visited = groups_runs _ into onto

  pub number_visited : (p : ℕ) → p < size shape
      → cond (nonzero cells p) (number (λ r. true) (visit T []) (of p)) 0 ≡ label shape structure cells p
  number_visited = number_runs_lem _ into onto

  pub joins_visited : group_count shape structure cells + joins (visit T []) ≡ N
  joins_visited = joins_runs _ into onto (ends_visit (λ r. r < N) T [] touches_runs tt)

  pub chain_visited : (p q : ℕ) → nonzero cells p ≡ true → nonzero cells q ≡ true
      → (rep (visit T []) (of p) ≡ rep (visit T []) (of q)) ↔ Chain (Step shape structure cells) p q
  chain_visited = rep_chain _ into onto

  pub smallest_visited : (p : ℕ) → nonzero cells p ≡ true → SmallestRun shape structure cells p (rep (visit T []) (of p))
  smallest_visited = rep_smallest _ into onto
