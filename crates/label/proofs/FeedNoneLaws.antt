-- A feed of no lines: the record and the words stand.
-- Assumes nothing.
use mathlib.Core.Path.{◌≡◌, refl, sym, ap, ap₂, ◌∙◌, subst}
use mathlib.Core.Bool.{Bool}
use mathlib.Core.List.{List}
use Prim.Native.Nat.{ℕ, zero, suc, ◌+◌, ◌<◌}
use native.Mathlib.Nat.{add-zero, zero-mul}
use native.Mathlib.Omega.{arith}
use Rattle.groups.specs.Groups.{rep, joins, gather, visit}
use Rattle.frame.specs.Shape.{width}
use Rattle.frame.specs.Runs.{runs, nonzero_cells, run_length}
use Rattle.frame.specs.Touches.{touches}
use Rattle.frame.specs.Plain.{Answer}
use Rattle.frame.specs.Words.{parent_of, size_word}
use Rattle.frame.specs.Lists.{set_all}
use Rattle.frame.proofs.FrameRunLaws.{start_zero, runs_all}
use Rattle.frame.proofs.CellLaws.{cells_most}
use Rattle.frame.proofs.PlainLaws.{figures_same, kept_old}
use Rattle.forest.specs.Forest.{root_of, Sums}
use Rattle.forest.proofs.ForestLaws.{grouping_rep, grouping_joins}
use Rattle.forest.proofs.SizeLaws.{sums_same, brought_sums}
use Rattle.label.specs.declared.Session.{Session}
use Rattle.label.specs.Record.{shape_of, structure_of, lines_of, with_figures}
use Rattle.label.specs.Sound.{Sound}
use Rattle.label.specs.Held.{grouping_of}
use Rattle.label.specs.Feeding.{runs_after, run_after, feed_brings, feed_touches, feed_edges, size_after, figures_after, feed_record}
use Rattle.label.specs.Feeding.{with_lines, with_runs, feed_cause_of, FeedWords, FeedPromise}
use Rattle.label.specs.Steps.{FeedAccepted}
use Rattle.label.proofs.AcceptedLaws.{cause_accepted, accepted_fits, accepted_session}

module _ (s : Session) (ws : List ℕ) (cells : List Bool) (G : FeedAccepted s ws 0 cells) where
  S : Sound s ws
  S = G.is_sound

  no_runs : runs (shape_of s) (structure_of s) cells ≡ 0
  no_runs = runs_all (shape_of s) (structure_of s) cells 0 (accepted_fits s ws 0 cells G) ∙ start_zero (shape_of s) (structure_of s) cells

  same_runs : runs_after s cells ≡ s.figures.runs
  unfolding runs_after
  same_runs = omega (arith, no_runs)

  same_words : with_runs s ws 0 cells ≡ ws
  unfolding with_runs with_lines
  same_words = rw no_runs (unfold set_all in refl)

  same_edges : feed_edges s ws 0 cells ≡ grouping_of s ws
  unfolding feed_edges feed_touches touches gather visit
  same_edges = refl

  -- each root brings its word, and no other run anything
  sized_none : (r : ℕ) → r < runs_after s cells → rep (feed_edges s ws 0 cells) r ≡ r
      → size_word (lines_of s) ws r ≡ size_after s ws 0 cells r
  unfolding size_after feed_brings
  sized_none r h e =
      let low = S.words.parents in
      let p = parent_of (lines_of s) ws in
      let same : (q : ℕ) → q < s.figures.runs → rep (feed_edges s ws 0 cells) q ≡ root_of p q = λ q l. rw same_edges (grouping_rep p
      s.figures.runs low q l) in
      subst (λ (n : ℕ). Sums (rep (feed_edges s ws 0 cells)) (size_word (lines_of s) ws) (feed_brings s ws cells) n) (sym same_runs)
      (sums_same (root_of p) _ _ _ _ s.figures.runs same (λ q l z. refl)
      (brought_sums s.figures.runs p (size_word (lines_of s) ws) (λ q. run_length (run_after s ws cells q)) low)) r h e

  pub words_none : FeedWords s ws 0 cells ws
  words_none = record {
    long = refl;
    others = λ j free. rw same_words;
    parents = λ r h. S.words.parents r (rw (← same_runs) h);
    grouped =
        λ r h. rw same_edges (sym (grouping_rep (parent_of (lines_of s) ws) s.figures.runs S.words.parents r (rw (← same_runs) h)));
    sized = sized_none;
    no_lines = λ e. refl;
  }

  same_joins : joins (feed_edges s ws 0 cells) ≡ s.figures.joins
  same_joins =
      ap joins same_edges ∙ grouping_joins (parent_of (lines_of s) ws) s.figures.runs S.words.parents ∙ sym S.words.join_count

  same_cells : s.figures.cells + nonzero_cells cells ≡ s.figures.cells
  same_cells = omega (arith, cells_most cells, G.whole, zero-mul (width (shape_of s)))

  same_figures : figures_after s ws 0 cells ≡ s.figures
  same_figures = figures_same same_runs same_joins same_cells

  pub record_none : feed_record s ws 0 cells ≡ s
  unfolding feed_record
  record_none = ap₂ (with_figures s) (add-zero s.fed) same_figures

-- so of every record, sound or not: with k = 0 nothing changes
pub feed_none : (s : Session) (ws : List ℕ) (cells : List Bool) (a : Answer) (s' : Session) (ws' : List ℕ)
    → FeedPromise s ws 0 cells a s' ws'
    → (s' ≡ s) × (ws' ≡ ws)
feed_none s ws cells a s' ws' P = go (feed_cause_of s ws 0 cells) refl
  where
    go : (c : ℕ) → feed_cause_of s ws 0 cells ≡ c → (s' ≡ s) × (ws' ≡ ws)
    go zero e =
        let G = cause_accepted s ws 0 cells e in
        (accepted_session s ws 0 cells G a s' ws' P ∙ record_none s ws cells G, (P.accepted e).no_lines refl)
    go (suc c) e = (P.session ∙ kept_old s (feed_record s ws 0 cells) (feed_cause_of s ws 0 cells) c e, P.refusal (omega arith))
