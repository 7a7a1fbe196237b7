-- A record as words: which words are bytes, a structure copied from them, and a record read back from where it was written.
-- Assumes nothing.
use denote.Param.Members.{Mut}
use Rattle.std.specs.Array.{IsMapOf}
use Rattle.std.specs.Fn.{Called}
use Rattle.std.proofs.lemmas.List.{ext_get_or}
use mathlib.Core.Path.{◌≡◌, refl, ap, ◌∙◌, subst}
use mathlib.Core.Bool.{true, false}
use mathlib.Core.List.{List, [], ◌∷◌, ◌++◌, append_assoc}
use Prim.Native.Nat.{ℕ, ◌+◌, ◌≤◌, ◌<◌}
use native.Mathlib.Numerals.{add-one}
use native.Mathlib.Omega.{arith}
use borrow.Author.Tests.{lt-ltb, le-ltb}
use lib.ListN.{length, get_or, drop, length-append, length-drop, drop_of_length-le}
use lib.Seq.{drop-cons, length-take-le, take_at, get_or-append-add}
use Rattle.frame.specs.Overlay.{overlay}
use Rattle.frame.proofs.OverlayLaws.{length_overlay, overlay_short}
use Rattle.frame.specs.declared.Figures.{Figures}
use Rattle.label.specs.declared.Session.{Session}
use Rattle.record_c.specs.Records.{record_words, figure_words, words_of, structure_words, record_of, bytes, StructureReady, RecordReady}

-- ---- bytes

-- the rest of a list, from a byte on and from what is none on
pub bytes_next : (l : List ℕ) (i : ℕ) → i < length l → get_or l i 0 ≤ 255 → bytes (drop (i + 1) l) ≡ bytes (drop i l)
unfolding bytes
bytes_next l i h b = rw (add-one, drop-cons l i 0 h, lt-ltb (get_or l i 0) 256 (omega arith)) refl

pub bytes_stop : (l : List ℕ) (i : ℕ) → i < length l → 255 < get_or l i 0 → bytes (drop i l) ≡ false
unfolding bytes
bytes_stop l i h b = rw (drop-cons l i 0 h, le-ltb (get_or l i 0) 256 (omega arith)) refl

pub bytes_end : (l : List ℕ) (i : ℕ) → length l ≤ i → bytes (drop i l) ≡ true
unfolding bytes
bytes_end l i h = rw (drop_of_length-le l {i = i} h) refl

-- ---- shape and structure

-- an array that is mapped by what gives each number back
pub mapped_same : {F : Type 0} (g : Mut F (ℕ × Unit {0}) ℕ) (f : F) (xs ys : List ℕ) (n : ℕ) → IsMapOf g f xs ys n → length xs ≡ n
    → ((p q : F) (x y : ℕ) → Called g p (x, tt) y q → y ≡ x) → ys ≡ xs
mapped_same g f xs ys n M e same =
    ext_get_or 0 ys xs (omega (arith, M.long)) (λ i h. let c = M.at i 0 0 (omega (arith, M.long)) in same c.0 c.1 _ _ c.2)

pub structure_ready : (r : List ℕ) → RecordReady r → StructureReady (structure_words r)
structure_ready r R = record { long = length-take-le 81 (drop 5 r) (omega (arith, length-drop 5 r, R.long)); are_bytes = R.are_bytes }

-- ---- a record that was written is read back

module _ (rank fed : ℕ) (f : Figures) (structure t : List ℕ) (n : length structure ≡ 81) where
  abbrev figures : List ℕ
  figures = fed ∷ (figure_words f ++ t)

  abbrev rest : List ℕ
  rest = structure ++ figures

  figure : (k : ℕ) → get_or rest (81 + k) 0 ≡ get_or figures k 0
  figure k = subst (λ (m : ℕ). get_or rest (m + k) 0 ≡ get_or figures k 0) n (get_or-append-add structure figures k 0)

  read_back : (shape : List ℕ) → length shape ≡ 4
      → record_of (rank ∷ (shape ++ rest)) ≡ record { rank = rank; shape = shape; structure = structure; fed = fed; figures = f }
  unfolding record_of
  read_back [] e = absurd (omega arith)
  read_back (a ∷ []) e = absurd (omega arith)
  read_back (a ∷ b ∷ []) e = absurd (omega arith)
  read_back (a ∷ b ∷ c ∷ []) e = absurd (omega arith)
  read_back (a ∷ b ∷ c ∷ d ∷ []) e = rw (take_at structure figures 81 n, figure 0, figure 1, figure 2, figure 3) refl
  read_back (a ∷ b ∷ c ∷ d ∷ x ∷ l) e = absurd (omega arith)

-- an array of four, one of 81 bytes
pub record Formed (s : Session) : Type 0 where
  pub shape : length s.shape ≡ 4
  pub structure : length s.structure ≡ 81
  pub are_bytes : bytes s.structure ≡ true

module _ (s : Session) (F : Formed s) (r : List ℕ) (long : record_words ≤ length r) where
  abbrev tail : List ℕ
  tail = drop (length (words_of s)) r

  words_long : length (words_of s) ≡ record_words
  unfolding words_of
  words_long =
      let last = s.fed ∷ figure_words s.figures in
      omega (arith, length-append s.shape (s.structure ++ last), length-append s.structure last, F.shape, F.structure)

  words_then : overlay (words_of s) r ≡ s.rank ∷ (s.shape ++ (s.structure ++ (s.fed ∷ (figure_words s.figures ++ tail))))
  words_then = overlay_short (words_of s) r (omega (arith, words_long)) ∙ unfold words_of in simp append_assoc

  -- what is written is the record, and its words hold it
  pub written_read : record_of (overlay (words_of s) r) ≡ s
  written_read =
      ap record_of words_then ∙ read_back s.rank s.fed s.figures s.structure tail F.structure s.shape F.shape

  pub written_ready : RecordReady (overlay (words_of s) r)
  unfolding record_of
  written_ready =
      record {
        long = omega (arith, length_overlay (words_of s) r);
        are_bytes = ap (λ (x : Session). bytes x.structure) written_read ∙ F.are_bytes;
      }
