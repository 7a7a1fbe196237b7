-- What the structure's line means: nine characters mean themselves (`nine_bytes`), and an empty line means nine ones (`empty_means_ones`).
-- Assumes nothing.
use mathlib.Core.Path.{◌≡◌, refl, sym, ap, ◌∙◌}
use mathlib.Core.Logic.{inr}
use mathlib.Core.Bool.{Bool, true, false}
use mathlib.Core.List.{List, [], ◌∷◌, map}
use Prim.Native.Nat.{ℕ}
use native.Mathlib.Omega.{arith}
use lib.ListN.{length, replicate}
use Rattle.frame.specs.Structure.{on}
use Rattle.frame.specs.ChainRule.{any}
use Rattle.frame.specs.Causes.{unlike, lopsided}
use Rattle.clumps_text.specs.Input.{TextFrame, Accepted, text_of}
use Rattle.clumps_text.specs.Output.{as_byte, frame_shape, structure_bytes, output_to, printed, clumps_of}
use Rattle.clumps_text.proofs.InputLaws.{parse_text}

-- nine flags are no empty structure
pub nine_bytes : (fs : List Bool) → length fs ≡ 9 → map as_byte fs ≡ structure_bytes fs
unfolding structure_bytes
nine_bytes [] e = absurd (omega arith)
nine_bytes (f ∷ fs) e = refl

pub empty_nine : {out : List ℕ} → out ≡ structure_bytes [] → length out ≡ 9
unfolding structure_bytes
empty_nine e = ap length e

-- an empty line is never refused by 12
pub empty_not_lopsided : lopsided 2 (structure_bytes []) ≡ false
unfolding structure_bytes any on unlike lopsided
empty_not_lopsided = refl

-- the frame whose line names nine ones
abbrev ones_named : TextFrame → TextFrame
ones_named f = record { width = f.width; lines = f.lines; structure = replicate 9 true; cells = f.cells }

-- what is printed where the line is empty is printed where it names them
pub empty_means_ones : (f : TextFrame) → Accepted f → f.structure ≡ [] → clumps_of (text_of f) ≡ clumps_of (text_of (ones_named f))
unfolding clumps_of printed structure_bytes
empty_means_ones f a e =
    ap printed (parse_text f a)
    ∙ (ap (λ (s : List Bool). output_to (frame_shape f) (structure_bytes s) f.cells) e ∙ sym (ap printed (parse_text (ones_named f) named)))
  where
    named : Accepted (ones_named f)
    named =
        record {
          some_width = a.some_width;
          most_width = a.most_width;
          some_lines = a.some_lines;
          most_lines = a.most_lines;
          nine_or_none = inr refl;
          all_cells = a.all_cells;
        }
