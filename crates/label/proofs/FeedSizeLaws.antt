-- What the runs of a feed bring to their groups: it adds up to the total, whatever the record's origin; so the record is sound again.
-- Assumes nothing.
use mathlib.Core.Path.{◌≡◌, refl, sym, ap, ◌∙◌}
use mathlib.Core.Bool.{Bool, true}
use mathlib.Core.List.{List, ◌++◌}
use Prim.Native.Nat.{ℕ, ◌+◌, ◌-◌, ◌*◌, ◌≤◌, ◌<◌}
use native.Mathlib.Omega.{arith}
use borrow.Author.Tests.{lt-ltb}
use lib.ListN.{length}
use Rattle.groups.specs.Groups.{rep, sum_over}
use Rattle.frame.specs.Shape.{width}
use Rattle.frame.specs.Runs.{nonzero_cells, run_length, run_lengths, frame_run}
use Rattle.frame.specs.Words.{parent_of, size_word, stored_run}
use Rattle.frame.proofs.CellLaws.{cells_append, lengths_sum, lengths_same, runs_cells}
use Rattle.forest.specs.Forest.{root_of, root_sizes, Sums}
use Rattle.forest.proofs.SizeLaws.{sums_same, sums_total, brought_total}
use Rattle.geo.proofs.ShapeSoundLaws.{shape_stays}
use Rattle.label.specs.declared.Session.{Session}
use Rattle.label.specs.Record.{shape_of, structure_of, lines_of}
use Rattle.label.specs.Sound.{Sound}
use Rattle.label.specs.Feeding.{runs_after, run_after, feed_edges, feed_brings, size_after, feed_record, FeedWords}
use Rattle.label.proofs.StoreLaws.{Stores, stores_total}
use Rattle.label.proofs.StoredSound.{stores_sound}
use Rattle.label.proofs.FeedLaws.{fits_all, runs_after_lem, run_after_lem, written, stores_after, joins_after}

module _ (s : Session) (ws : List ℕ) (k : ℕ) (more : List Bool) where
  abbrev L : ℕ
  L = lines_of s

  abbrev parent : ℕ → ℕ
  parent = parent_of (lines_of s) ws

  abbrev size : ℕ → ℕ
  size = size_word (lines_of s) ws

  -- a run that the words hold is the run it was
  pub run_old : (r : ℕ) → r < s.figures.runs → run_after s ws more r ≡ stored_run (lines_of s) ws r
  unfolding run_after
  run_old r h = rw (lt-ltb r s.figures.runs h)

  runs_rise : s.figures.runs ≤ runs_after s more
  unfolding runs_after
  runs_rise = omega arith

  -- what the promise says of the fifth words, as sums over the groups that the parents hold
  pub fed_sums : (ws' : List ℕ) → FeedWords s ws k more ws'
      → Sums (root_of (parent_of (lines_of s) ws')) (size_word (lines_of s) ws') (feed_brings s ws more) (runs_after s more)
  unfolding size_after
  fed_sums ws' W = sums_same (rep (feed_edges s ws k more)) _ (size_word L ws') _ (feed_brings s ws more) (runs_after s more) W.grouped
      (λ r h e. refl) W.sized

  module _ (cells : List Bool) (H : Stores s ws cells) (few : k ≤ lines_of s - s.fed) (whole : length more ≡ k * width (shape_of s)) where
    lengths_after : sum_over (λ r. true) (λ r. run_length (run_after s ws more r)) (runs_after s more) ≡ nonzero_cells (cells ++ more)
    lengths_after =
        lengths_sum (run_after s ws more) (runs_after s more)
        ∙ lengths_same (run_after s ws more) (frame_run (shape_of s) (structure_of s) (cells ++ more)) (runs_after s more)
        (run_after_lem s ws cells H k more few whole)
        ∙ ap (run_lengths (frame_run (shape_of s) (structure_of s) (cells ++ more))) (runs_after_lem s ws cells H k more few whole)
        ∙ runs_cells (shape_of s) (structure_of s) (cells ++ more) (s.fed + k) (fits_all s ws cells H k more few whole)

    lengths_before : sum_over (λ r. true) (λ r. run_length (run_after s ws more r)) s.figures.runs ≡ nonzero_cells cells
    lengths_before =
        lengths_sum (run_after s ws more) s.figures.runs
        ∙ lengths_same (run_after s ws more) (stored_run L ws) s.figures.runs run_old
        ∙ stores_total s ws cells H

    -- the roots' words before and the new cells
    pub brings_total : sum_over (λ r. true) (feed_brings s ws more) (runs_after s more)
        ≡ root_sizes (parent_of (lines_of s) ws) (size_word (lines_of s) ws) s.figures.runs + nonzero_cells more
    unfolding feed_brings
    brings_total = omega (
      arith,
      brought_total s.figures.runs parent size (λ r. run_length (run_after s ws more r)) (runs_after s more) runs_rise,
      lengths_after,
      lengths_before,
      cells_append cells more,
    )

    -- so the roots' words afterwards add up to that
    pub fed_total : (ws' : List ℕ) → FeedWords s ws k more ws'
        → root_sizes (parent_of (lines_of s) ws') (size_word (lines_of s) ws') (runs_after s more)
        ≡ root_sizes (parent_of (lines_of s) ws) (size_word (lines_of s) ws) s.figures.runs + nonzero_cells more
    fed_total ws' W =
        sums_total (parent_of L ws') (size_word L ws') (runs_after s more) W.parents (feed_brings s ws more) (fed_sums ws' W) ∙ brings_total

-- hence the record is sound again
module _ (s : Session) (ws : List ℕ) (cells : List Bool) (H : Stores s ws cells) (k : ℕ) (more : List Bool) (few : k ≤ lines_of s - s.fed)
    (whole : length more ≡ k * width (shape_of s)) (S : Sound s ws) (ws' : List ℕ) (W : FeedWords s ws k more ws') where
  T : Stores (feed_record s ws k more) ws' (cells ++ more)
  T = stores_after s ws cells H k more few whole S.shape.memory ws' W

  -- the runs that the words then hold are those of the promise
  pub ran_after : (r : ℕ) → r < runs_after s more → stored_run (lines_of s) ws' r ≡ run_after s ws more r
  ran_after r h = (written s ws cells H k more few whole S.shape.memory ws' W).ran r h

  pub sound_after : Sound (feed_record s ws k more) ws'
  unfolding feed_record shape_of structure_of
  sound_after =
      stores_sound (feed_record s ws k more) ws' (cells ++ more) T (shape_stays _ _ _ _ S.shape (sym W.long) T.fits.below)
      W.parents (joins_after s ws cells H k more few whole S.shape.memory ws' W S.words.parents)
      (omega (arith, S.words.total, stores_total s ws cells H, cells_append cells more))
      (fed_total s ws k more cells H few whole ws' W ∙ ap (λ (n : ℕ). n + nonzero_cells more) S.words.sizes)
