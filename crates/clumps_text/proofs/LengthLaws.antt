-- How long texts get: no accepted text has more than 2,349 bytes, so a longer one is refused (`long_refused`), and no output has more
-- than 11,572 (`output_most`).
-- Assumes nothing.
use mathlib.Core.Path.{◌≡◌, refl, ap, subst}
use mathlib.Core.Logic.{◌⊎◌, inl, inr}
use mathlib.Core.Bool.{Bool, true, false, cond}
use mathlib.Core.List.{List, [], ◌∷◌, map}
use Prim.Native.Nat.{ℕ, suc, ◌*◌, ◌/◌, ◌≤◌, ◌<◌}
use native.Mathlib.Nat.{le_trans}
use native.Mathlib.Omega.{arith}
use borrow.Author.Tests.{ltb-true, ltb-false}
use lib.Dec.{ltb}
use lib.ListN.{length, get_or, length-append, length-map}
use Rattle.groups.proofs.CountLaws.{count_most}
use Rattle.frame.specs.Shape.{size}
use Rattle.frame.specs.ChainRule.{nonzero, group_count, labels}
use Rattle.frame.specs.Causes.{lopsided}
use Rattle.frame.specs.Runs.{begins_run, runs, nonzero_cells}
use Rattle.frame.specs.declared.Figures.{Figures}
use Rattle.frame.specs.Plain.{feeds, groups_of, figures}
use Rattle.frame.proofs.ChainRuleLaws.{labels_right, length_labels}
use Rattle.frame.proofs.CellLaws.{cells_most}
use Rattle.clumps_text.specs.Text.{decimal, blank_before, decimals, flag_character, width_name, lines_name, structure_name, cells_name}
use Rattle.clumps_text.specs.Text.{runs_name, joins_name, objects_name, labels_name, refused_name}
use Rattle.clumps_text.specs.Input.{TextFrame, Accepted, text_before, Parsed, parsed, bad, parse}
use Rattle.clumps_text.specs.Output.{frame_shape, frame_structure, refusal_text, labelled_text, output_to, output_of, printed, clumps_of}
use Rattle.clumps_text.proofs.DecimalLaws.{decimal_small, decimal_more}
use Rattle.clumps_text.proofs.InputLaws.{parse_back}
use Rattle.clumps_text.proofs.FrameLaws.{product}
use Rattle.clumps_text.proofs.LabelLaws.{groups_most}

-- ---- numbers

one_digit : (n : ℕ) → n < 10 → length (decimal n) ≤ 1
one_digit n h = rw (decimal_small n h) (omega arith)

-- numbers below ten times m have one digit more than those below m
digit_more : (m k : ℕ) → ((n : ℕ) → n < m → length (decimal n) ≤ k) → (n : ℕ) → n < 10 * m → length (decimal n) ≤ suc k
digit_more m k f n h = go (ltb n 10) refl
  where
    go : (b : Bool) → ltb n 10 ≡ b → length (decimal n) ≤ suc k
    go true e = omega (arith, one_digit n (ltb-true n 10 e))
    go false e =
        let l : 10 ≤ n = ltb-false n 10 e in
        let t : length (decimal (n / 10)) ≤ k = f (n / 10) (omega arith) in
        rw (decimal_more n l) (simp length-append (omega arith))

two_digits : (n : ℕ) → n < 100 → length (decimal n) ≤ 2
two_digits = digit_more 10 1 one_digit

four_digits : (n : ℕ) → n < 10000 → length (decimal n) ≤ 4
four_digits = digit_more 1000 3 (digit_more 100 2 two_digits)

Small : List ℕ → Type 0
Small ns = (i : ℕ) → i < length ns → get_or ns i 0 < 10000

blanks_most : (ns : List ℕ) → Small ns → length (blank_before ns) ≤ 5 * length ns
unfolding blank_before Small
blanks_most [] h = omega arith
blanks_most (n ∷ ns) h =
    let a = four_digits n (h 0 (omega arith)) in
    let b = blanks_most ns (λ i l. h (suc i) (omega arith)) in
    simp length-append (omega arith)

decimals_most : (ns : List ℕ) → Small ns → length ns ≤ 2304 → length (decimals ns) ≤ 11519
unfolding decimals Small
decimals_most [] h m = omega arith
decimals_most (n ∷ ns) h m =
    let a = four_digits n (h 0 (omega arith)) in
    let b = blanks_most ns (λ i l. h (suc i) (omega arith)) in
    simp length-append (omega arith)

-- ---- outputs

refusal_text_most : (cause : ℕ) → cause < 100 → length (refusal_text cause) ≤ 11572
unfolding refusal_text refused_name
refusal_text_most cause h =
    let t = two_digits cause h in
    simp length-append (omega arith)

labelled_text_most : (n : ℕ) (f : Figures) (ns : List ℕ) → f.runs < 10000 → f.joins < 10000 → f.cells < 10000 → n < 10000 → Small ns
    → length ns ≤ 2304 → length (labelled_text n f ns) ≤ 11572
unfolding labelled_text runs_name joins_name cells_name objects_name labels_name
labelled_text_most n f ns a b t c s m =
    let x = four_digits f.runs a in
    let y = four_digits f.joins b in
    let u = four_digits f.cells t in
    let z = four_digits n c in
    let w = decimals_most ns s m in
    simp length-append (omega arith)

either_most : (b : Bool) (xs ys : List ℕ) → length xs ≤ 11572 → length ys ≤ 11572 → length (cond b xs ys) ≤ 11572
either_most true xs ys h k = h
either_most false xs ys h k = k

module _ (f : TextFrame) (a : Accepted f) where
  size_most : size (frame_shape f) ≤ 2304
  unfolding size
  size_most = omega (arith, product a.most_lines a.most_width)

  count_small : group_count (frame_shape f) (frame_structure f) f.cells < 10000
  count_small = omega (arith, groups_most (frame_shape f) (frame_structure f) f.cells, size_most)

  runs_small : runs (frame_shape f) (frame_structure f) f.cells < 10000
  unfolding runs
  runs_small = omega (arith, count_most (begins_run (frame_shape f) (frame_structure f) f.cells) (size (frame_shape f)), size_most)

  total_small : nonzero_cells f.cells < 10000
  total_small = omega (arith, cells_most f.cells, a.all_cells, product a.most_lines a.most_width)

  labels_small : Small (labels (frame_shape f) (frame_structure f) f.cells)
  unfolding Small
  labels_small p h = go (nonzero f.cells p) refl
    where
      l : p < size (frame_shape f)
      l = subst (λ (k : ℕ). p < k) (length_labels (frame_shape f) (frame_structure f) f.cells) h

      go : (b : Bool) → nonzero f.cells p ≡ b → get_or (labels (frame_shape f) (frame_structure f) f.cells) p 0 < 10000
      go true e = omega (arith, ((labels_right (frame_shape f) (frame_structure f) f.cells).on p l e).1, count_small)
      go false e = omega (arith, (labels_right (frame_shape f) (frame_structure f) f.cells).off p l e)

  accepted_most : length (output_of f) ≤ 11572
  unfolding output_to figures groups_of feeds
  accepted_most =
      let long = length_labels (frame_shape f) (frame_structure f) f.cells in
      either_most (lopsided 2 (frame_structure f)) _ _ (refusal_text_most 12 (omega arith))
      (labelled_text_most _ _ _ runs_small (omega (arith, runs_small)) total_small count_small labels_small
      (omega (arith, long, size_most)))

pub output_most : (text : List ℕ) → length (clumps_of text) ≤ 11572
unfolding clumps_of printed
output_most text = go (parse text) refl
  where
    go : (x : Parsed TextFrame) → parse text ≡ x → length (printed x) ≤ 11572
    go (parsed f []) e = accepted_most f (parse_back text f [] e).accepted
    go (parsed f (b ∷ rest)) e = refusal_text_most 11 (omega arith)
    go bad e = refusal_text_most 11 (omega arith)

-- ---- inputs

flags_most : (s : List Bool) → (length s ≡ 0) ⊎ (length s ≡ 9) → length s ≤ 9
flags_most s (inl e) = omega arith
flags_most s (inr e) = omega arith

text_most : (f : TextFrame) → Accepted f → length (text_before f []) ≤ 2349
unfolding text_before width_name lines_name structure_name cells_name
text_most f a =
    let w = two_digits f.width (omega (arith, a.most_width)) in
    let l = two_digits f.lines (omega (arith, a.most_lines)) in
    let s : length (map flag_character f.structure) ≤ 9 = le_trans (omega (arith, length-map f.structure flag_character))
    (flags_most f.structure a.nine_or_none) in
    let c : length (map flag_character f.cells) ≤ 2304 = omega (
      arith,
      length-map f.cells flag_character,
      a.all_cells,
      product a.most_lines a.most_width,
    ) in
    simp length-append (omega arith)

pub long_refused : (text : List ℕ) → 2349 < length text → clumps_of text ≡ refusal_text 11
unfolding clumps_of printed
long_refused text h = go (parse text) refl
  where
    go : (x : Parsed TextFrame) → parse text ≡ x → printed x ≡ refusal_text 11
    go (parsed f []) e =
        let t = parse_back text f [] e in
        absurd (omega (arith, ap length t.text, text_most f t.accepted))
    go (parsed f (b ∷ rest)) e = refl
    go bad e = refl
