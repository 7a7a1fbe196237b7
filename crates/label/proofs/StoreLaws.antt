-- Words that hold the runs of cells: they give those cells back, and each nonzero cell's run.
-- Assumes nothing.
use mathlib.Core.Path.{◌≡◌, refl, sym, ap, ◌∙◌, subst}
use mathlib.Core.Bool.{Bool, true, false, true≢false}
use mathlib.Core.List.{List}
use Prim.Native.Nat.{ℕ, suc, ◌*◌, ◌/◌, ◌%◌, ◌≤◌, ◌<◌}
use native.Mathlib.Nat.{le_trans, lt_of_lt_of_le, div-add-mod', div-lt_iff_lt-mul}
use native.Mathlib.Omega.{arith}
use lib.Seq.{ext_get_or}
use Rattle.frame.specs.Shape.{width}
use Rattle.frame.specs.ChainRule.{nonzero, any}
use Rattle.frame.specs.Runs.{nonzero_cells, run_of, Run, Covers, run_lengths, runs_before, frame_run}
use Rattle.frame.specs.Words.{line_start, stored_run}
use Rattle.frame.proofs.ShapeLaws.{factor_pos, Fits}
use Rattle.frame.proofs.ChainRuleLaws.{any_found, any_at, nonzero_below}
use Rattle.frame.proofs.FrameRunLaws.{start_le, run_cells, line_below, InRun, cell_run}
use Rattle.frame.proofs.CellLaws.{lengths_same, runs_cells}
use Rattle.frame.proofs.ListLaws.{last_only}
use Rattle.label.specs.declared.Session.{Session}
use Rattle.label.specs.Record.{shape_of, structure_of, lines_of}
use Rattle.label.specs.Held.{holds_cell, cells_of, holder_of}
use Rattle.label.proofs.HoldLaws.{holds_parts, parts_hold, length_held, nonzero_held}

-- the words hold the runs of those cells, which are the cells of the lines fed
pub record Stores (s : Session) (ws : List ℕ) (cells : List Bool) : Type 0 where
  pub fits : Fits (shape_of s) s.fed cells
  pub starts : (ℓ : ℕ) → ℓ ≤ s.fed → line_start ws ℓ ≡ runs_before (shape_of s) (structure_of s) cells ℓ
  pub runs_are : s.figures.runs ≡ runs_before (shape_of s) (structure_of s) cells s.fed
  pub listed : (r : ℕ) → r < s.figures.runs → stored_run (lines_of s) ws r ≡ frame_run (shape_of s) (structure_of s) cells r

module _ (s : Session) (ws : List ℕ) (cells : List Bool) (H : Stores s ws cells) where
  -- the shape, the structure, the width, and the run of a cell
  abbrev dims : List ℕ
  dims = shape_of s

  abbrev bytes : List ℕ
  bytes = structure_of s

  abbrev w : ℕ
  w = width (shape_of s)

  abbrev of : ℕ → ℕ
  of = run_of (shape_of s) (structure_of s) cells

  -- the runs have as many cells as are nonzero
  pub stores_total : run_lengths (stored_run (lines_of s) ws) s.figures.runs ≡ nonzero_cells cells
  stores_total =
      lengths_same (stored_run (lines_of s) ws) (frame_run dims bytes cells) s.figures.runs H.listed
      ∙ ap (run_lengths (frame_run dims bytes cells)) H.runs_are
      ∙ runs_cells dims bytes cells s.fed H.fits

  -- a nonzero cell is held by its run
  module _ (p : ℕ) (a : nonzero cells p ≡ true) where
    in_run : InRun dims bytes cells s.fed H.fits p
    in_run = cell_run dims bytes cells s.fed H.fits p a

    fed_line : p / w < s.fed
    fed_line = line_below dims bytes cells s.fed H.fits p a

    pub stores_below : of p < s.figures.runs
    stores_below =
        let k : of p < runs_before dims bytes cells s.fed = lt_of_lt_of_le in_run.high
        (start_le dims bytes cells (suc (p / w)) s.fed fed_line) in
        subst (λ (n : ℕ). of p < n) (sym H.runs_are) k

    pub own_holds : holds_cell s ws p (of p) ≡ true
    own_holds =
        parts_hold s ws p (of p)
        (record {
          low = rw (H.starts (p / w) (omega (arith, fed_line))) in_run.low;
          high = rw (H.starts (suc (p / w)) fed_line) in_run.high;
          covers = subst (λ (u : Run). Covers u (p % w)) (sym (H.listed (of p) stores_below)) in_run.covers;
        })

  -- a run that holds a cell of the lines fed is its run, and the cell is nonzero
  pub holder_is : (p r : ℕ) → p < s.fed * w → r < s.figures.runs → holds_cell s ws p r ≡ true → (nonzero cells p ≡ true) × (of p ≡ r)
  holder_is p r h l e =
      let k = holds_parts s ws p r e in
      let fed : p / w < s.fed = (div-lt_iff_lt-mul (factor_pos s.fed w p h)).1 h in
      let low : runs_before dims bytes cells (p / w) ≤ r = rw (H.starts (p / w) (omega arith)) at k.low in
      let high : r < runs_before dims bytes cells (suc (p / w)) = rw (H.starts (suc (p / w)) fed) at k.high in
      let covers : Covers (frame_run dims bytes cells r) (p % w) = subst (λ (u : Run). Covers u (p % w)) (H.listed r l) k.covers in
      let c = run_cells dims bytes cells (p / w) r (le_trans fed H.fits.below) low high (p % w) covers in
      subst (λ (q : ℕ). (nonzero cells q ≡ true) × (of q ≡ r)) (div-add-mod' p w) (c.1, c.2)

  pub stores_held : (p : ℕ) → p < s.fed * w → any (holds_cell s ws p) s.figures.runs ≡ nonzero cells p
  stores_held p h = go (nonzero cells p) refl (any (holds_cell s ws p) s.figures.runs) refl
    where
      go : (b : Bool) → nonzero cells p ≡ b → (t : Bool) → any (holds_cell s ws p) s.figures.runs ≡ t
          → any (holds_cell s ws p) s.figures.runs ≡ nonzero cells p
      go true a t e = any_at (holds_cell s ws p) s.figures.runs (of p) (stores_below p a) (own_holds p a) ∙ sym a
      go false a true e =
          let f = any_found (holds_cell s ws p) s.figures.runs e in absurd (true≢false (sym (holder_is p f.0 h f.1 f.2).0 ∙ a))
      go false a false e = e ∙ sym a

  pub stores_cells : cells_of s ws ≡ cells
  unfolding nonzero
  stores_cells =
      ext_get_or false (cells_of s ws) cells (length_held s ws ∙ sym H.fits.whole)
      (λ p h. let k : p < s.fed * w = rw (length_held s ws) at h in nonzero_held s ws p k ∙ stores_held p k)

  pub stores_holder : (p : ℕ) → nonzero cells p ≡ true → holder_of s ws p ≡ of p
  unfolding holder_of
  stores_holder p a =
      let h : p < s.fed * w = rw H.fits.whole at (nonzero_below cells p a) in
      last_only (holds_cell s ws p) s.figures.runs (of p) (stores_below p a) (own_holds p a) (λ r l e. sym (holder_is p r h l e).1)
