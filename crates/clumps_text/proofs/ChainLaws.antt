-- The labels printed are the chain rule's and SciPy's: for each text of the form whose structure is not lopsided, the objects and labels
-- of its output label its frame.
-- Assumes nothing.
use mathlib.Core.Path.{◌≡◌, refl, ap, ◌∙◌}
use mathlib.Core.Bool.{true, false}
use mathlib.Core.List.{List, []}
use Prim.Native.Nat.{ℕ, ◌-◌}
use lib.ListN.{length, get_or}
use Rattle.frame.specs.Shape.{size}
use Rattle.frame.specs.ChainRule.{Labelled, group_count, labels}
use Rattle.frame.specs.Scipy.{ScipyLabelled}
use Rattle.frame.specs.Causes.{lopsided}
use Rattle.frame.specs.Runs.{runs, nonzero_cells}
use Rattle.frame.specs.Plain.{feeds, groups_of, figures}
use Rattle.frame.proofs.ChainRuleLaws.{labels_right, length_labels}
use Rattle.frame.proofs.SymmetryLaws.{symmetric_test}
use Rattle.frame.proofs.ScipyLaws.{same_labelled}
use Rattle.clumps_text.specs.Input.{TextFrame, parsed, parse}
use Rattle.clumps_text.specs.Output.{frame_shape, frame_structure, refusal_text, labelled_text, output_to, printed, clumps_of}

abbrev runs_in : TextFrame → ℕ
runs_in f = runs (frame_shape f) (frame_structure f) f.cells

-- an output, and the labelling of a frame that it prints
pub record Labelling (f : TextFrame) (out : List ℕ) : Type 0 where
  pub n : ℕ
  pub ns : List ℕ
  pub one_each : length ns ≡ size (frame_shape f)
  pub labelled : Labelled (frame_shape f) (frame_structure f) f.cells n (λ p. get_or ns p 0)
  pub described : ScipyLabelled (frame_shape f) (frame_structure f) f.cells n (λ p. get_or ns p 0)
  pub prints : out ≡ labelled_text n (record { runs = runs_in f; joins = runs_in f - n; cells = nonzero_cells f.cells }) ns

pub chain_rule : (text : List ℕ) (f : TextFrame) → parse text ≡ parsed f [] → lopsided 2 (frame_structure f) ≡ false
    → Labelling f (clumps_of text)
unfolding clumps_of printed output_to figures groups_of feeds
chain_rule text f e even =
    record {
      n = group_count (frame_shape f) (frame_structure f) f.cells;
      ns = labels (frame_shape f) (frame_structure f) f.cells;
      one_each = length_labels (frame_shape f) (frame_structure f) f.cells;
      labelled = labels_right (frame_shape f) (frame_structure f) f.cells;
      described = (same_labelled (frame_shape f) (frame_structure f) ((symmetric_test 2 (frame_structure f)).0 even) f.cells _ _).1
          (labels_right (frame_shape f) (frame_structure f) f.cells);
      prints = ap printed e ∙ rw even refl;
    }

-- and one that is lopsided is refused
pub lopsided_text : (text : List ℕ) (f : TextFrame) → parse text ≡ parsed f [] → lopsided 2 (frame_structure f) ≡ true
    → clumps_of text ≡ refusal_text 12
unfolding clumps_of printed output_to
lopsided_text text f e uneven = ap printed e ∙ rw uneven refl
