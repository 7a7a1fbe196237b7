-- What the functions that read and label promise each other.
-- Assumes nothing.
use Rattle.std.specs.Prelude.{◌≡◌, Bool, false, cond, List, [], ◌∷◌, map, ℕ, ◌*◌, length, take, Option, MatchOption}
use Rattle.std.specs.Borrow.{Bor}
use Rattle.frame.specs.ChainRule.{group_count, labels}
use Rattle.frame.specs.Causes.{lopsided}
use Rattle.frame.specs.Kinds.{nz}
use Rattle.frame.specs.Plain.{Answer, counted, refused, figures}
use Rattle.causes.specs.Cases.{cause_number}
use Rattle.label.specs.WholeFrame.{all_fed}
use Rattle.clumps_text.specs.declared.shapes.Shape.{Shape}
use Rattle.clumps_text.specs.declared.Frame.{Frame}
use Rattle.clumps_text.specs.declared.Refusal as Declared
use Rattle.clumps_text.specs.declared.Refusal.TheVariants as R
use Rattle.clumps_text.specs.Input.{TextFrame, Parsed, parsed, bad, and_then, parse_flags, flags_given, last_lines, parse}
use Rattle.clumps_text.specs.Output.{as_byte, structure_bytes, frame_structure, refusal_text, output_to, printed}

-- ---- reading

-- a was read, and the text after it is answered; or nothing was, and nothing is
abbrev pub Leaves : {A : Type 0} → Parsed A → A → Option (Bor (List ℕ)) → Type 0
Leaves r a answer = MatchOption answer (r ≡ bad) (λ rest. r ≡ parsed a rest.now)

-- what was read is answered too
abbrev pub Gives : {A : Type 0} → Parsed A → Option (A × Bor (List ℕ)) → Type 0
Gives r answer = MatchOption answer (r ≡ bad) (λ p. r ≡ parsed p.0 p.1.now)

-- flags as bytes 0 and 1
unfoldable pub parse_as_bytes : ℕ → List ℕ → Parsed (List ℕ)
parse_as_bytes n t = and_then (parse_flags n t) λ fs s. parsed (map as_byte fs) s

-- the structure's bytes: its flags, or nine ones for none
unfoldable pub parse_structure : List ℕ → Parsed (List ℕ)
parse_structure t = and_then (parse_flags (flags_given t) t) λ fs s. parsed (structure_bytes fs) s

-- the first two lines are read, and the last two follow
abbrev pub ShapeParsed : List ℕ → Option (Shape × Bor (List ℕ)) → Type 0
ShapeParsed text answer = MatchOption answer (parse text ≡ bad) (λ p. parse text ≡ last_lines p.0.width p.0.lines p.1.now)

-- a frame's cells, the first of the array
abbrev pub first_cells : Frame → List ℕ
first_cells f = take (f.shape.lines * f.shape.width) f.cells

-- the text is that of a frame, which was read with its structure and cells as bytes
pub record FrameRead (text : List ℕ) (f : Frame) : Type 0 where
  pub frame : TextFrame
  pub is_read : parse text ≡ parsed frame []
  pub width : frame.width ≡ f.shape.width
  pub lines : frame.lines ≡ f.shape.lines
  pub structure_is : frame_structure frame ≡ f.structure
  pub cells_are : map as_byte frame.cells ≡ first_cells f

-- or it is of no frame, or has bytes past its fourth line
abbrev pub FrameParsed : List ℕ → Option Frame → Type 0
FrameParsed text answer = MatchOption answer (printed (parse text) ≡ refusal_text 11) (FrameRead text)

-- ---- labelling

abbrev pub shape_of : Frame → List ℕ
shape_of f = f.shape.lines ∷ f.shape.width ∷ []

abbrev pub cells_of : Frame → List Bool
cells_of f = map nz (first_cells f)

-- what is printed for a frame
abbrev pub output_for : Frame → List ℕ
output_for f = output_to (shape_of f) f.structure (cells_of f)

-- refused by 12 where the structure is lopsided; else accepted, with the figures and labels of crate frame's definitions
pub record Labels (shape structure : List ℕ) (cells : List Bool) (a : Answer) (numbers : List ℕ) : Type 0 where
  pub said : a ≡ cond (lopsided (length shape) structure) (refused 12)
      (counted (group_count shape structure cells) (figures shape (all_fed shape structure cells)))
  pub labelled : lopsided (length shape) structure ≡ false → numbers ≡ labels shape structure cells

-- ---- refusals

-- the program's own is 11; the others are the causes' numbers
abbrev pub refusal_number : Declared.Refusal → ℕ
refusal_number R.Form = 11
refusal_number (R.Frame c) = cause_number c
