-- The words of a sound record, of any origin, hold the runs of the cells that they hold.
-- Assumes nothing.
use mathlib.Core.Path.{◌≡◌, sym, ap, ◌∙◌, subst}
use mathlib.Core.Bool.{Bool, true, false}
use mathlib.Core.List.{List, map}
use Prim.Native.Nat.{ℕ, zero, suc, ◌+◌, ◌-◌, ◌*◌, ◌≤◌, ◌<◌}
use native.Mathlib.Nat.{le_refl, le_trans, lt_of_lt_of_le}
use native.Mathlib.Omega.{arith}
use lib.Arith.{digits_lt, digits_div, digits_mod}
use lib.ListN.{length, get_or}
use Rattle.frame.specs.Shape.{width}
use Rattle.frame.specs.Structure.{left_on}
use Rattle.frame.specs.ChainRule.{nonzero, any, range}
use Rattle.frame.specs.Runs.{runs, nonzero_cells, Run, none, Covers, gap_of, line_of, frame_runs, runs_before, frame_run}
use Rattle.frame.specs.Words.{line_start, stored_run}
use Rattle.frame.proofs.ChainRuleLaws.{any_found, any_at, nonzero_below}
use Rattle.frame.proofs.LineLaws.{In, Apart, Within, in_below}
use Rattle.frame.proofs.FrameRunLaws.{start_zero, start_suc, run_at, located, nonzero_line, short, runs_all}
use Rattle.frame.proofs.CauseLaws.{rank_right}
use Rattle.frame.proofs.ListLaws.{listed_at, listed_length}
use Rattle.label.specs.declared.Session.{Session}
use Rattle.label.specs.Record.{shape_of, structure_of, lines_of}
use Rattle.label.specs.Sound.{Sound}
use Rattle.label.specs.Held.{holds_cell, cells_of}
use Rattle.label.proofs.SoundLaws.{starts_rise}
use Rattle.label.proofs.HoldLaws.{holds_parts, parts_hold, length_held, nonzero_held}
use Rattle.label.proofs.StoreLaws.{Stores, stores_total}
use Rattle.label.proofs.ApartLaws.{Short, apart_from, line_only}

module _ (s : Session) (ws : List ℕ) (K : Sound s ws) where
  -- the shape, the structure, the width, the cells held, whether the left byte is nonzero, and the runs stored
  abbrev dims : List ℕ
  dims = shape_of s

  abbrev bytes : List ℕ
  bytes = structure_of s

  abbrev w : ℕ
  w = width (shape_of s)

  abbrev cells : List Bool
  cells = cells_of s ws

  abbrev left : Bool
  left = left_on (shape_of s) (structure_of s)

  abbrev stored : ℕ → Run
  stored = stored_run (lines_of s) ws

  -- of the cells held: the runs of each line, how many stand before it, and the runs by number
  abbrev R : ℕ → List Run
  R = frame_runs (shape_of s) (structure_of s) (cells_of s ws)

  abbrev S : ℕ → ℕ
  S = runs_before (shape_of s) (structure_of s) (cells_of s ws)

  abbrev run : ℕ → Run
  run = frame_run (shape_of s) (structure_of s) (cells_of s ws)

  -- ---- line starts

  start_most : (ℓ : ℕ) → ℓ ≤ s.fed → line_start ws ℓ ≤ s.figures.runs
  start_most ℓ h = subst (λ (n : ℕ). line_start ws ℓ ≤ n) K.words.last (starts_rise s ws K ℓ s.fed h (le_refl s.fed))

  -- ---- one line

  module _ (ℓ : ℕ) (h : ℓ < s.fed) where
    -- how many runs the words hold of it, these, and its cells
    abbrev few : ℕ
    few = line_start ws (suc ℓ) - line_start ws ℓ

    abbrev held : List Run
    held = map (λ i. stored_run (lines_of s) ws (line_start ws ℓ + i)) (range 0 (line_start ws (suc ℓ) - line_start ws ℓ))

    abbrev flags : List Bool
    flags = line_of (width (shape_of s)) (cells_of s ws) ℓ

    held_length : length held ≡ few
    held_length = listed_length (λ i. stored (line_start ws ℓ + i)) few

    held_at : (i : ℕ) → i < few → get_or held i none ≡ stored (line_start ws ℓ + i)
    held_at i l = listed_at (λ i. stored (line_start ws ℓ + i)) few i none l

    below : (i : ℕ) → i < few → line_start ws ℓ + i < s.figures.runs
    below i l = omega (arith, start_most (suc ℓ) h)

    held_within : (i : ℕ) → i < length held → Within w (get_or held i none)
    held_within i l =
        let k : i < few = rw held_length at l in
        subst (Within w) (sym (held_at i k)) (record {
          full = K.words.nonempty (line_start ws ℓ + i) (below i k);
          fits = K.words.inside
              (line_start ws ℓ + i) (below i k);
        })

    held_next : (i : ℕ) → suc i < length held → (get_or held i none).end + gap_of left ≤ (get_or held (suc i) none).start
    held_next i l =
        let k : suc i < few = rw held_length at l in
        let e : line_start ws ℓ + suc i ≡ suc (line_start ws ℓ + i) = omega arith in
        rw (held_at i (omega arith), held_at (suc i) k, e)
        (K.words.ordered ℓ h (line_start ws ℓ + i) (below i (omega arith)) (omega arith) (omega arith))

    held_apart : Apart (gap_of left) 0 w held
    held_apart = apart_from held (gap_of left) 0 w (λ l. omega arith) held_within held_next

    held_short : left ≡ false → (i : ℕ) → i < length held → Short (get_or held i none)
    held_short e i l =
        let k : i < few = rw held_length at l in
        subst Short (sym (held_at i k)) (K.words.single e (line_start ws ℓ + i) (below i k))

    -- ---- its columns

    flag_held : (x : ℕ) → x < w → get_or flags x false ≡ any (holds_cell s ws (ℓ * w + x)) s.figures.runs
    flag_held x l = nonzero_line dims bytes cells ℓ x l ∙ nonzero_held s ws (ℓ * w + x) (digits_lt h l)

    covered_on : (i x : ℕ) → In held i x → get_or flags x false ≡ true
    covered_on i x c =
        let b = in_below held i x c in
        let k : i < few = rw held_length at b in
        let l : x < w = omega (arith, c.1, (held_within i b).fits) in
        flag_held x l ∙ any_at (holds_cell s ws (ℓ * w + x)) s.figures.runs (line_start ws ℓ + i) (below i k)
        (parts_hold s ws (ℓ * w + x) (line_start ws ℓ + i)
        (record {
          low = rw (digits_div ℓ l) (omega arith);
          high = rw (digits_div ℓ l) (omega arith);
          covers = rw (digits_mod ℓ l) (subst (λ (u : Run). Covers u x) (held_at i k) c);
        }))

    on_covered : (x : ℕ) → get_or flags x false ≡ true → (i : ℕ) × In held i x
    unfolding nonzero
    on_covered x e =
        let l : x < w = lt_of_lt_of_le (nonzero_below flags x e) (short dims bytes cells ℓ) in
        let f = any_found (holds_cell s ws (ℓ * w + x)) s.figures.runs (sym (flag_held x l) ∙ e) in
        let r = f.0 in
        let k = holds_parts s ws (ℓ * w + x) r f.2 in
        let low : line_start ws ℓ ≤ r = rw (digits_div ℓ l) at k.low in
        let high : r < line_start ws (suc ℓ) = rw (digits_div ℓ l) at k.high in
        let c : Covers (stored r) x = rw (digits_mod ℓ l) at k.covers in
        let i : ℕ = r - line_start ws ℓ in
        let q : line_start ws ℓ + i ≡ r = omega arith in
        let m : get_or held i none ≡ stored r = held_at i (omega arith) ∙ ap stored q in
        (i, subst (λ (u : Run). Covers u x) (sym m) c)

    line_runs_lem : R ℓ ≡ held
    unfolding frame_runs
    line_runs_lem = line_only left flags w held (short dims bytes cells ℓ) held_apart held_short covered_on on_covered

  -- ---- all lines

  starts_are : (ℓ : ℕ) → ℓ ≤ s.fed → line_start ws ℓ ≡ S ℓ
  starts_are zero h = K.words.first ∙ sym (start_zero dims bytes cells)
  starts_are (suc ℓ) h = omega (
    arith,
    starts_are ℓ (omega arith),
    K.words.rising ℓ h,
    start_suc dims bytes cells ℓ,
    ap length (line_runs_lem ℓ h),
    held_length ℓ h,
  )

  runs_are : s.figures.runs ≡ S s.fed
  runs_are = sym K.words.last ∙ starts_are s.fed (le_refl s.fed)

  listed : (r : ℕ) → r < s.figures.runs → stored r ≡ run r
  listed r h =
      let P = located dims bytes cells s.fed r (subst (λ (n : ℕ). r < n) runs_are h) in
      let ℓ = P.of_line in
      let i : ℕ = r - S ℓ in
      let q : r ≡ S ℓ + i = omega (arith, P.low) in
      let k : i < length (R ℓ) = omega (arith, P.low, P.high, start_suc dims bytes cells ℓ) in
      let e : line_start ws ℓ + i ≡ r = omega (arith, P.low, starts_are ℓ (omega (arith, P.is_line))) in
      let l : i < line_start ws (suc ℓ) - line_start ws ℓ = omega (arith, ap length (line_runs_lem ℓ P.is_line), held_length ℓ P.is_line) in
      sym
      (ap run q
      ∙ run_at dims bytes cells ℓ i (le_trans P.is_line K.shape.within) k
      ∙ ap (λ (rs : List Run). get_or rs i none) (line_runs_lem ℓ P.is_line)
      ∙ held_at ℓ P.is_line i l
      ∙ ap stored e)

  pub sound_stores : Stores s ws (cells_of s ws)
  sound_stores = record {
    fits = record { ranked = (rank_right dims K.shape.ranked).0; below = K.shape.within; whole = length_held s ws };
    starts = starts_are;
    runs_are = runs_are;
    listed = listed;
  }

  -- so runs are document 01's for those cells
  pub runs_held : s.figures.runs ≡ runs (shape_of s) (structure_of s) (cells_of s ws)
  runs_held = runs_are ∙ sym (runs_all dims bytes cells s.fed sound_stores.fits)

  -- and the total is document 02's
  pub cells_held : s.figures.cells ≡ nonzero_cells (cells_of s ws)
  cells_held = K.words.total ∙ stores_total s ws (cells_of s ws) sound_stores
