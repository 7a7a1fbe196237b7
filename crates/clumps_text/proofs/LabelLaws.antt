-- Frames of the sizes that a text can say are labelled: no cause of a refusal but 12 holds, and what is promised then is what is printed.
-- Assumes nothing.
use mathlib.Core.Path.{◌≡◌, refl, sym, ap, ◌∙◌}
use mathlib.Core.Bool.{Bool, true, false, cond, ◌&&◌}
use mathlib.Core.List.{List, [], ◌∷◌, map, map-id}
use Prim.Native.Nat.{ℕ, ◌*◌, ◌≤◌}
use native.Mathlib.Nat.{mul-le-mul, mul-one, mul_assoc, le_trans}
use native.Mathlib.Omega.{arith}
use borrow.Author.Tests.{eq-eqb, ne_eqb, le-leb, lt-leb, le-ltb}
use lib.Dec.{eqb, ltb, leb}
use lib.ListN.{length, length-map}
use lib.Seq.{length-take-le}
use Rattle.groups.specs.Groups.{groups, is_root}
use Rattle.groups.proofs.CountLaws.{count_most}
use Rattle.frame.specs.Shape.{size, width, leading}
use Rattle.frame.specs.Structure.{left_on}
use Rattle.frame.specs.ChainRule.{nonzero, edges, group_count, labels}
use Rattle.frame.specs.Kinds.{nz, u16, largest, holds, write}
use Rattle.frame.specs.Memory.{stride, most_runs, per_line, words_needed}
use Rattle.frame.specs.Causes.{bad_rank, has_zero, too_large, lopsided, first_cause, open_tests, frame_tests, frame_cause}
use Rattle.frame.specs.declared.Figures.{Figures}
use Rattle.frame.specs.Plain.{Answer, fed, counted, refused, unless, kept, feeds, groups_of, figures}
use Rattle.label.specs.WholeFrame.{frame_cause_of, FramePromise, all_fed}
use Rattle.clumps_text.specs.declared.Frame.{Frame}
use Rattle.clumps_text.specs.Output.{refusal_text, labelled_text, output_to}
use Rattle.clumps_text.specs.Steps.{first_cells, Labels}
use Rattle.clumps_text.proofs.FrameLaws.{product}

-- a frame of a size that a text can say, nine structure bytes, and a byte and a number for each cell
pub record Ready (width lines : ℕ) (structure cells numbers : List ℕ) : Type 0 where
  pub some_width : 1 ≤ width
  pub most_width : width ≤ 48
  pub some_lines : 1 ≤ lines
  pub most_lines : lines ≤ 48
  pub nine : length structure ≡ 9
  pub bytes : length cells ≡ lines * width
  pub places : length numbers ≡ lines * width

pub ready : (f : Frame) {numbers : List ℕ} → length f.structure ≡ 9 → length f.cells ≡ 2304
    → length numbers ≡ f.shape.lines * f.shape.width → Ready f.shape.width f.shape.lines f.structure (first_cells f) numbers
ready f s c n =
    let r = f.shape.limits in
    let p = product r.3 r.1 in
    record {
      some_width = r.0;
      most_width = r.1;
      some_lines = r.2;
      most_lines = r.3;
      nine = s;
      bytes = length-take-le (f.shape.lines * f.shape.width) f.cells (omega (arith, c, p));
      places = n;
    }

unless_12 : (b : Bool) (a : Answer) → unless (cond b 12 0) a ≡ cond b (refused 12) a
unfolding unless
unless_12 true a = refl
unless_12 false a = refl

-- no frame has more groups than cells
pub groups_most : (shape structure : List ℕ) (cells : List Bool) → group_count shape structure cells ≤ size shape
unfolding group_count groups
groups_most shape structure cells = count_most (λ a. nonzero cells a && is_root (edges shape structure cells) a) (size shape)

per_line_lem : (left : Bool) (w : ℕ) → 1 ≤ w → most_runs left w ≤ w
per_line_lem true w h = omega arith
per_line_lem false w h = omega arith

module _ {w l : ℕ} {structure cells numbers : List ℕ} (r : Ready w l structure cells numbers) where
  abbrev shape : List ℕ
  shape = l ∷ w ∷ []

  all_cells : size shape ≡ l * w
  unfolding size
  all_cells = omega arith

  most_cells : l * w ≤ 2304
  most_cells = mul-le-mul r.most_lines r.most_width

  enough : words_needed shape structure ≤ 11569
  unfolding words_needed per_line width size leading
  enough =
      let p : most_runs (left_on shape structure) w ≤ w = per_line_lem (left_on shape structure) w r.some_width in
      let q : l * most_runs (left_on shape structure) w ≤ 2304 = mul-le-mul r.most_lines (le_trans p r.most_width) in
      let e : stride * (l * 1) * most_runs (left_on shape structure) w ≡ stride * (l * most_runs (left_on shape structure) w) =
      ap (λ (k : ℕ). stride * k * most_runs (left_on shape structure) w) (mul-one l)
      ∙ mul_assoc stride l (most_runs (left_on shape structure) w) in
      omega (arith, e, q, r.most_lines)

  not_large : too_large shape ≡ false
  unfolding too_large width size leading
  not_large =
      let a : leb 2147483647 w ≡ false = lt-leb 2147483647 w (omega (arith, r.most_width)) in
      let b : leb 4294967293 (l * 1) ≡ false = lt-leb 4294967293 (l * 1) (omega (arith, r.most_lines)) in
      let c : leb 4294967293 (l * (w * 1)) ≡ false = lt-leb 4294967293 (l * (w * 1)) (omega (arith, most_cells)) in
      rw (a, b, c)

  no_zero : has_zero (leading shape) ≡ false
  unfolding has_zero leading
  no_zero = rw (ne_eqb l 0 (λ e. omega (arith, r.some_lines)))

  fits : (n : ℕ) → n ≤ size shape → holds u16 n ≡ true
  unfolding holds largest
  fits n h = le-leb n 65535 (omega (arith, all_cells, most_cells))

  abbrev uneven : Bool
  uneven = lopsided 2 structure

  only_12 : (memory c o n : ℕ) → memory ≡ 11569 → c ≡ l * w → o ≡ l * w → n ≤ size shape
      → frame_cause shape structure memory c o (holds u16 n) ≡ cond uneven 12 0
  unfolding frame_cause frame_tests open_tests first_cause bad_rank
  only_12 memory c o n m x y h =
      let s : eqb (length structure) 9 ≡ true = eq-eqb (length structure) 9 r.nine in
      let e : ltb memory (words_needed shape structure) ≡ false = le-ltb memory (words_needed shape structure) (omega (arith, enough)) in
      let p : eqb c (size shape) ≡ true = eq-eqb c (size shape) (x ∙ sym all_cells) in
      let q : eqb o (size shape) ≡ true = eq-eqb o (size shape) (y ∙ sym all_cells) in
      rw (s, no_zero, not_large, e, p, q, fits n h)

  abbrev bs : List Bool
  bs = map nz cells

  abbrev same : List ℕ → List ℕ
  same = map (λ x. x)

  -- the numbers of an output are its places
  pub labels_done : (words : List ℕ) {words' : List ℕ} {a : Answer} {numbers' : List ℕ} → length words ≡ 11569
      → FramePromise u16 shape structure words bs (same numbers) a words' (same numbers') → Labels shape structure bs a numbers'
  unfolding frame_cause_of groups_of figures feeds unless kept
  labels_done words {numbers' = numbers'} m p =
      let z : frame_cause_of u16 shape structure words bs (same numbers) ≡ cond uneven 12 0 =
      only_12 (length words) (length bs) (length (same numbers)) (group_count shape structure bs) m (length-map cells nz ∙ r.bytes)
      (length-map numbers (λ x. x) ∙ r.places) (groups_most shape structure bs) in
      let done = counted (groups_of shape (all_fed shape structure bs)) (figures shape (all_fed shape structure bs)) in
      record {
        said = p.said ∙ ap (λ (k : ℕ). unless k done) z ∙ unless_12 uneven done;
        labelled =
            λ e. sym (map-id numbers') ∙ p.output
            ∙ ap (λ (k : ℕ). kept k (same numbers) (map (write u16) (labels shape structure bs))) (z ∙ ap (λ (b : Bool). cond b 12 0) e)
            ∙ map-id (labels shape structure bs);
      }

-- ---- what an answer prints

abbrev pub answer_text : Answer → List ℕ → List ℕ
answer_text (fed l f) numbers = []
answer_text (counted n f) numbers = labelled_text n f numbers
answer_text (refused c) numbers = refusal_text c

-- the figures and the labels of an accepted one, or the number of a refusal
pub answer_printed : {shape structure : List ℕ} {cells : List Bool} {a : Answer} {numbers : List ℕ} → Labels shape structure cells a numbers
    → answer_text a numbers ≡ output_to shape structure cells
unfolding output_to
answer_printed {shape} {structure} {cells} {numbers = numbers} l =
    ap (λ (b : Answer). answer_text b numbers) l.said ∙ go (lopsided (length shape) structure) l.labelled
  where
    f : Figures
    f = figures shape (all_fed shape structure cells)

    n : ℕ
    n = group_count shape structure cells

    go : (b : Bool) → (b ≡ false → numbers ≡ labels shape structure cells)
        → answer_text (cond b (refused 12) (counted n f)) numbers ≡ cond b (refusal_text 12) (labelled_text n f (labels shape structure cells))
    go true h = refl
    go false h = ap (labelled_text n f) (h refl)
