-- A record whose words hold runs is sound, if the rest of what is asked holds.
-- Assumes nothing.
use mathlib.Core.Path.{◌≡◌, sym, ap, ◌∙◌, subst}
use mathlib.Core.Bool.{Bool, false}
use mathlib.Core.List.{List}
use Prim.Native.Nat.{ℕ, suc, ◌+◌, ◌-◌, ◌≤◌, ◌<◌}
use native.Mathlib.Nat.{le_refl, le_trans}
use native.Mathlib.Omega.{arith}
use lib.ListN.{length, get_or}
use Rattle.frame.specs.Shape.{width, lines}
use Rattle.frame.specs.Structure.{left_on}
use Rattle.frame.specs.Runs.{nonzero_cells, Run, none, line_runs, gap_of, line_of, frame_runs, runs_before, frame_run}
use Rattle.frame.specs.Memory.{per_line}
use Rattle.frame.specs.Words.{line_start, run_start, run_end, parent_of, size_word, stored_run}
use Rattle.frame.proofs.LineLaws.{Within}
use Rattle.frame.proofs.FrameRunLaws.{start_zero, start_suc, start_le, run_at, Located, located, runs_few, run_within, run_order}
use Rattle.forest.specs.Forest.{non_roots, root_sizes}
use Rattle.geo.specs.Geometry.{ShapeSound}
use Rattle.sweep.specs.Sweeps.{InOrder}
use Rattle.label.specs.declared.Session.{Session}
use Rattle.label.specs.Record.{shape_of, structure_of, lines_of}
use Rattle.label.specs.Sound.{Sound}
use Rattle.label.proofs.StoreLaws.{Stores, stores_total}
use Rattle.label.proofs.ApartLaws.{Short, line_short}

module _ (s : Session) (ws : List ℕ) (cells : List Bool) (H : Stores s ws cells) where
  -- the shape, the structure, how many runs stand before each line, the runs by number, and whether the left byte is nonzero
  abbrev dims : List ℕ
  dims = shape_of s

  abbrev bytes : List ℕ
  bytes = structure_of s

  abbrev S : ℕ → ℕ
  S = runs_before (shape_of s) (structure_of s) cells

  abbrev run : ℕ → Run
  run = frame_run (shape_of s) (structure_of s) cells

  abbrev left : Bool
  left = left_on (shape_of s) (structure_of s)

  -- line starts
  module _ (ℓ : ℕ) (h : ℓ < s.fed) where
    in_frame : ℓ < lines dims
    in_frame = le_trans h H.fits.below

    here : line_start ws ℓ ≡ S ℓ
    here = H.starts ℓ (omega arith)

    there : line_start ws (suc ℓ) ≡ S (suc ℓ)
    there = H.starts (suc ℓ) h

    starts_rise : line_start ws ℓ ≤ line_start ws (suc ℓ)
    starts_rise = omega (arith, here, there, start_suc dims bytes cells ℓ)

    starts_room : line_start ws (suc ℓ) ≤ line_start ws ℓ + per_line dims bytes
    starts_room = omega (arith, here, there, start_suc dims bytes cells ℓ, runs_few dims bytes cells ℓ)

    next_starts : (r : ℕ) → line_start ws ℓ ≤ r → suc r < line_start ws (suc ℓ)
        → run_end (lines_of s) ws r + gap_of left ≤ run_start (lines_of s) ws (suc r)
    next_starts r low high =
        let high' : suc r < S (suc ℓ) = rw there at high in
        let last : S (suc ℓ) ≤ s.figures.runs = subst (λ (n : ℕ). S (suc ℓ) ≤ n) (sym H.runs_are)
        (start_le dims bytes cells (suc ℓ) s.fed h) in
        let e : run_end (lines_of s) ws r ≡ (run r).end = ap (λ (u : Run). u.end) (H.listed r (omega arith)) in
        let b : run_start (lines_of s) ws (suc r) ≡ (run (suc r)).start = ap (λ (u : Run). u.start) (H.listed (suc r) (omega arith)) in
        omega (arith, run_order dims bytes cells ℓ r (suc r) in_frame (rw here at low) (le_refl (suc r)) high')

  -- runs
  module _ (r : ℕ) (h : r < s.figures.runs) where
    place : Located dims bytes cells s.fed r
    place = located dims bytes cells s.fed r (subst (λ (n : ℕ). r < n) H.runs_are h)

    run_inside : Within (width dims) (stored_run (lines_of s) ws r)
    run_inside = subst (Within (width dims)) (sym (H.listed r h))
        (run_within dims bytes cells place.of_line r (in_frame place.of_line place.is_line) place.low place.high)

    run_short : left ≡ false → Short (stored_run (lines_of s) ws r)
    unfolding frame_runs
    run_short e =
        let ℓ = place.of_line in
        let i : ℕ = r - S ℓ in
        let k : i < length (frame_runs dims bytes cells ℓ) = omega (arith, place.low, place.high, start_suc dims bytes cells ℓ) in
        let n : r ≡ S ℓ + i = omega (arith, place.low) in
        let q : stored_run (lines_of s) ws r ≡ get_or (frame_runs dims bytes cells ℓ) i none = H.listed r h ∙ ap run n
        ∙ run_at dims bytes cells ℓ i (in_frame ℓ place.is_line) k in
        let o : Short (get_or (line_runs left (line_of (width dims) cells ℓ)) i none) = rw e (line_short (line_of (width dims) cells ℓ) i) in
        subst Short (sym q) o

  -- each line's runs are in order
  pub stores_ordered : (ℓ : ℕ) → ℓ < s.fed → InOrder (stored_run (lines_of s) ws) (line_start ws ℓ) (line_start ws (suc ℓ))
  stores_ordered ℓ h = record {
    upto = starts_rise ℓ h;
    nonempty = λ r low high. (run_inside r (before r high)).full;
    ordered = λ r low high. omega (arith, next_starts ℓ h r low high);
  }
    where
      before : (r : ℕ) → r < line_start ws (suc ℓ) → r < s.figures.runs
      before r high = omega (arith, there ℓ h, H.runs_are, start_le dims bytes cells (suc ℓ) s.fed h)

  module _ (shape : ShapeSound dims bytes (length ws) s.fed) (parents : (r : ℕ) → r < s.figures.runs → parent_of (lines_of s) ws r ≤ r)
      (join_count : s.figures.joins ≡ non_roots (parent_of (lines_of s) ws) s.figures.runs)
      (total : s.figures.cells ≡ nonzero_cells cells)
      (sizes : root_sizes (parent_of (lines_of s) ws) (size_word (lines_of s) ws) s.figures.runs ≡ s.figures.cells) where
    pub stores_sound : Sound s ws
    stores_sound = record {
      shape = shape;
      words = record {
        first = H.starts 0 (omega arith) ∙ start_zero dims bytes cells;
        rising = starts_rise;
        last = H.starts s.fed (le_refl s.fed) ∙ sym H.runs_are;
        room = unfold per_line in starts_room;
        nonempty = λ r h. (run_inside r h).full;
        inside = λ r h. (run_inside r h).fits;
        ordered = λ ℓ h r k. next_starts ℓ h r;
        single = λ e r h. run_short r h e;
        parents = parents;
        join_count = join_count;
        total = total ∙ sym (stores_total s ws cells H);
        sizes = sizes;
      };
    }
