-- The program's output for each input: the figures and labels of the frame by crate frame's definitions, or refusal 11 or 12.
-- Assumes nothing.
use Rattle.std.specs.Prelude.{Bool, cond, List, [], ◌∷◌, map, ℕ, length, replicate}
use Rattle.frame.specs.ChainRule.{group_count, labels}
use Rattle.frame.specs.Causes.{lopsided}
use Rattle.frame.specs.declared.Figures.{Figures}
use Rattle.frame.specs.Plain.{figures}
use Rattle.label.specs.WholeFrame.{all_fed}
use Rattle.clumps_text.specs.Text.{line, decimal, decimals, cells_name, runs_name, joins_name, objects_name, labels_name, refused_name}
use Rattle.clumps_text.specs.Input.{TextFrame, Parsed, parsed, bad, parse}

-- ---- the frame that is labelled

-- the shape is lines, width
abbrev pub frame_shape : TextFrame → List ℕ
frame_shape f = f.lines ∷ f.width ∷ []

-- a flag as a byte of a structure or a cell
abbrev pub as_byte : Bool → ℕ
as_byte b = cond b 1 0

-- nine flags, or none for nine ones (document 02's F-7)
unfoldable pub structure_bytes : List Bool → List ℕ
structure_bytes [] = replicate 9 1
structure_bytes (b ∷ bs) = map as_byte (b ∷ bs)

abbrev pub frame_structure : TextFrame → List ℕ
frame_structure f = structure_bytes f.structure

-- ---- the text

-- a refusal prints only its number
unfoldable pub refusal_text : ℕ → List ℕ
refusal_text cause = line refused_name (decimal cause) []

unfoldable pub labelled_text : ℕ → Figures → List ℕ → List ℕ
labelled_text n f labels =
    line runs_name (decimal f.runs)
    (line joins_name (decimal f.joins)
    (line cells_name (decimal f.cells) (line objects_name (decimal n) (line labels_name (decimals labels) []))))

-- a lopsided structure is refused by 12. Else objects is n, and the figures are those of all lines fed
unfoldable pub output_to : List ℕ → List ℕ → List Bool → List ℕ
output_to shape structure cells =
    cond (lopsided (length shape) structure) (refusal_text 12)
    (labelled_text (group_count shape structure cells) (figures shape (all_fed shape structure cells)) (labels shape structure cells))

abbrev pub output_of : TextFrame → List ℕ
output_of f = output_to (frame_shape f) (frame_structure f) f.cells

-- a text that is not of the form, or has bytes past its fourth line, is refused by 11
unfoldable pub printed : Parsed TextFrame → List ℕ
printed (parsed f []) = output_of f
printed (parsed f (b ∷ rest)) = refusal_text 11
printed bad = refusal_text 11

unfoldable pub clumps_of : List ℕ → List ℕ
clumps_of text = printed (parse text)
