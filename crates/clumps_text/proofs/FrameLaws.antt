-- The frame read: its four lines one after the other, with structure and cells as bytes, and what is printed for it.
-- Assumes nothing.
use mathlib.Core.Path.{◌≡◌, refl, sym, ap, ◌∙◌}
use mathlib.Core.Bool.{Bool, true, false}
use mathlib.Core.List.{List, [], ◌∷◌, map}
use Prim.Native.Nat.{ℕ, ◌*◌, ◌≤◌}
use native.Mathlib.Nat.{mul-le-mul}
use native.Mathlib.Omega.{arith}
use lib.ListN.{length}
use Rattle.frame.specs.Kinds.{nz}
use Rattle.clumps_text.specs.declared.Frame.{Frame}
use Rattle.clumps_text.specs.Input.{TextFrame, Parsed, parsed, bad, and_then, parse_exactly, parse_flags, flags_given, last_lines, parse}
use Rattle.clumps_text.specs.Text.{structure_name, cells_name}
use Rattle.clumps_text.specs.Output.{as_byte, structure_bytes, frame_structure, refusal_text, output_to, printed, clumps_of}
use Rattle.clumps_text.specs.Steps.{parse_as_bytes, parse_structure, first_cells, FrameRead, output_for}
use Rattle.clumps_text.proofs.InputLaws.{through, then_parsed, then_bad, same_read, same_rest}

pub product : {l w : ℕ} → l ≤ 48 → w ≤ 48 → l * w ≤ 2304
product {l} {w} h k = mul-le-mul h k

-- ---- flags read as bytes are flags read

module _ {A B : Type 0} (f : A → B) where
  pub record Before (r : Parsed A) (b : B) (t : List ℕ) : Type 0 where
    pub was : A
    pub is_read : r ≡ parsed was t
    pub gives : f was ≡ b

  pub before : (r : Parsed A) {b : B} {t : List ℕ} → and_then r (λ a s. parsed (f a) s) ≡ parsed b t → Before r b t
  before r e =
      let h = through r _ e in
      record {
        was = h.first;
        is_read = h.reads ∙ ap (λ (s : List ℕ). parsed h.first s) (same_rest h.goes_on);
        gives = same_read h.goes_on;
      }

  pub none_before : (r : Parsed A) → and_then r (λ a s. parsed (f a) s) ≡ bad → r ≡ bad
  unfolding and_then
  none_before (parsed a s) e = absurd (let z : ◌≡◌ {A = ℕ} 0 1 = cc in omega arith)
  none_before bad e = refl

-- ---- the last two lines, part by part: where a part is not read, the text is refused

module _ (text : List ℕ) where
  pub refused : parse text ≡ bad → printed (parse text) ≡ refusal_text 11
  unfolding printed
  refused e = ap printed e

  module _ (w l : ℕ) (t₁ : List ℕ) (h : parse text ≡ last_lines w l t₁) where
    pub no_name : parse_exactly structure_name t₁ ≡ bad → printed (parse text) ≡ refusal_text 11
    unfolding last_lines
    no_name e = refused (h ∙ then_bad _ e)

    module _ {t₂ : List ℕ} (e₁ : parse_exactly structure_name t₁ ≡ parsed tt t₂) where
      pub no_structure : parse_structure t₂ ≡ bad → printed (parse text) ≡ refusal_text 11
      unfolding last_lines parse_structure
      no_structure e = refused (h ∙ (then_parsed _ e₁ ∙ then_bad _ (none_before structure_bytes (parse_flags (flags_given t₂) t₂) e)))

      module _ {s t₃ : List ℕ} (e₂ : parse_structure t₂ ≡ parsed s t₃) where
        flags : Before structure_bytes (parse_flags (flags_given t₂) t₂) s t₃
        unfolding parse_structure
        flags = before structure_bytes (parse_flags (flags_given t₂) t₂) e₂

        pub no_cells_name : parse_exactly (10 ∷ cells_name) t₃ ≡ bad → printed (parse text) ≡ refusal_text 11
        unfolding last_lines
        no_cells_name e = refused (h ∙ (then_parsed _ e₁ ∙ (then_parsed _ flags.is_read ∙ then_bad _ e)))

        -- n is the number of cells
        module _ {t₄ : List ℕ} (e₃ : parse_exactly (10 ∷ cells_name) t₃ ≡ parsed tt t₄) {n : ℕ} (m : n ≡ l * w) where
          pub no_cells : parse_as_bytes n t₄ ≡ bad → printed (parse text) ≡ refusal_text 11
          unfolding last_lines parse_as_bytes
          no_cells q =
              let e : parse_as_bytes (l * w) t₄ ≡ bad = ap (λ (k : ℕ). parse_as_bytes k t₄) (sym m) ∙ q in
              refused (h ∙ (then_parsed _ e₁ ∙ (then_parsed _ flags.is_read ∙ (then_parsed _ e₃
              ∙ then_bad _ (none_before (map as_byte) (parse_flags (l * w) t₄) e)))))

          module _ {c t₅ : List ℕ} (e₄ : parse_as_bytes n t₄ ≡ parsed c t₅) where
            cells : Before (map as_byte) (parse_flags (l * w) t₄) c t₅
            unfolding parse_as_bytes
            cells = before (map as_byte) (parse_flags (l * w) t₄) (ap (λ (k : ℕ). parse_as_bytes k t₄) (sym m) ∙ e₄)

            pub no_last_byte : parse_exactly (10 ∷ []) t₅ ≡ bad → printed (parse text) ≡ refusal_text 11
            unfolding last_lines
            no_last_byte e =
                refused
                (h ∙ (then_parsed _ e₁ ∙ (then_parsed _ flags.is_read ∙ (then_parsed _ e₃ ∙ (then_parsed _ cells.is_read ∙ then_bad _ e)))))

            abbrev frame : TextFrame
            frame = record { width = w; lines = l; structure = flags.was; cells = cells.was }

            module _ {t₆ : List ℕ} (e₅ : parse_exactly (10 ∷ []) t₅ ≡ parsed tt t₆) where
              all_read : parse text ≡ parsed frame t₆
              unfolding last_lines
              all_read =
                  h ∙ (then_parsed _ e₁ ∙ (then_parsed _ flags.is_read ∙ (then_parsed _ e₃ ∙ (then_parsed _ cells.is_read ∙ then_parsed _ e₅))))

              pub bytes_after : (length t₆ ≡ 0 → ⊥) → printed (parse text) ≡ refusal_text 11
              unfolding printed
              bytes_after n = ap printed all_read ∙ more t₆ n
                where
                  more : (t : List ℕ) → (length t ≡ 0 → ⊥) → printed (parsed frame t) ≡ refusal_text 11
                  more [] m = absurd (m refl)
                  more (b ∷ t) m = refl

              pub frame_read : (f : Frame) → f.shape.width ≡ w → f.shape.lines ≡ l → f.structure ≡ s → first_cells f ≡ c
                  → length t₆ ≡ 0 → FrameRead text f
              frame_read f p q r x n =
                  record {
                    frame = frame;
                    is_read = all_read ∙ ap (λ (t : List ℕ). parsed frame t) (none t₆ n);
                    width = sym p;
                    lines = sym q;
                    structure_is = flags.gives ∙ sym r;
                    cells_are = cells.gives ∙ sym x;
                  }
                where
                  none : (t : List ℕ) → length t ≡ 0 → t ≡ []
                  none [] m = refl
                  none (b ∷ t) m = absurd (omega arith)

-- ---- what is printed for a frame that was read

nz_as_byte : (b : Bool) → nz (as_byte b) ≡ b
unfolding nz
nz_as_byte true = refl
nz_as_byte false = refl

flags_as_bytes : (fs : List Bool) → map nz (map as_byte fs) ≡ fs
flags_as_bytes [] = refl
flags_as_bytes (b ∷ fs) = ap (λ (c : Bool). c ∷ map nz (map as_byte fs)) (nz_as_byte b) ∙ ap (λ (l : List Bool). b ∷ l) (flags_as_bytes fs)

pub frame_output : {text : List ℕ} {f : Frame} → FrameRead text f → output_for f ≡ clumps_of text
unfolding clumps_of printed
frame_output {text} {f} r =
    let g = r.frame in
    let c : g.cells ≡ map nz (first_cells f) = sym (flags_as_bytes g.cells) ∙ ap (map nz) r.cells_are in
    let a : clumps_of text ≡ output_to (g.lines ∷ g.width ∷ []) (frame_structure g) g.cells = ap printed r.is_read in
    sym (a ∙ rw (r.lines, r.width, r.structure_is, c))

-- and for a text of which none was
pub refused_output : (text : List ℕ) → printed (parse text) ≡ refusal_text 11 → refusal_text 11 ≡ clumps_of text
unfolding clumps_of
refused_output text e = sym e
