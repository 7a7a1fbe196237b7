-- A feed on a record of any origin: the runs that its words hold afterwards, and its grouping.
-- Assumes nothing.
use mathlib.Core.Path.{◌≡◌, refl, sym, ap, ap₂, ◌∙◌}
use mathlib.Core.Bool.{Bool, true, false, cond}
use mathlib.Core.List.{List, ◌++◌}
use Prim.Native.Nat.{ℕ, ◌+◌, ◌-◌, ◌*◌, ◌≤◌, ◌<◌}
use native.Mathlib.Nat.{le_refl, add-mul, mul_assoc, mul-le-mul_right}
use native.Mathlib.Omega.{arith}
use borrow.Author.Tests.{leb-true, leb-false, ltb-true, ltb-false}
use lib.Dec.{ltb, leb}
use lib.ListN.{length, length-append}
use Rattle.groups.specs.Groups.{groups, joins}
use Rattle.groups.proofs.CountLaws.{count_all}
use Rattle.groups.proofs.RepLaws.{Ends, mem_ends, ends_all}
use Rattle.groups.proofs.GroupLaws.{groups_joins, all_live}
use Rattle.groups.proofs.VisitLaws.{ends_visit}
use Rattle.frame.specs.Shape.{width, leading}
use Rattle.frame.specs.Runs.{runs, Run, runs_before, frame_run}
use Rattle.frame.specs.Touches.{frame_touches}
use Rattle.frame.specs.Memory.{stride, per_line, words_needed}
use Rattle.frame.specs.Words.{size_place, line_start, parent_of, stored_run}
use Rattle.frame.proofs.ShapeLaws.{Fits}
use Rattle.frame.proofs.FrameRunLaws.{start_le, starts_few, runs_all}
use Rattle.frame.proofs.TouchLaws.{touches_below, touches_same}
use Rattle.frame.proofs.GrowLaws.{starts_stay, run_stays, starts_new, run_new}
use Rattle.forest.specs.Forest.{non_roots}
use Rattle.forest.proofs.ForestLaws.{roots_others, roots_groups, grouping_ends}
use Rattle.label.specs.declared.Session.{Session}
use Rattle.label.specs.Record.{shape_of, structure_of, lines_of}
use Rattle.label.specs.Held.{grouping_of}
use Rattle.label.specs.Feeding.{runs_after, start_after, run_after, feed_touches, feed_edges, feed_record, FeedWords}
use Rattle.label.proofs.StoreLaws.{Stores}
use Rattle.label.proofs.FeedWordLaws.{Wrote, wrote}

pub feed_shape : (s : Session) (ws : List ℕ) (k : ℕ) (more : List Bool) → shape_of (feed_record s ws k more) ≡ shape_of s
unfolding feed_record shape_of
feed_shape s ws k more = refl

module _ (s : Session) (ws : List ℕ) (cells : List Bool) (H : Stores s ws cells) (k : ℕ) (more : List Bool) (few : k ≤ lines_of s - s.fed)
    (whole : length more ≡ k * width (shape_of s)) where
  abbrev shape : List ℕ
  shape = shape_of s

  abbrev structure : List ℕ
  structure = structure_of s

  abbrev L : ℕ
  L = lines_of s

  -- of all lines: how many runs stand before each, and the runs by number
  abbrev S' : ℕ → ℕ
  S' = runs_before (shape_of s) (structure_of s) (cells ++ more)

  abbrev run' : ℕ → Run
  run' = frame_run (shape_of s) (structure_of s) (cells ++ more)

  below : s.fed + k ≤ L
  below = let b = H.fits.below in omega arith

  fits_new : Fits shape k more
  fits_new = record { ranked = H.fits.ranked; below = omega (arith, below); whole = whole }

  pub fits_all : Fits shape (s.fed + k) (cells ++ more)
  fits_all = record {
    ranked = H.fits.ranked;
    below = below;
    whole = length-append cells more ∙ ap₂ ◌+◌
        H.fits.whole whole ∙ sym (add-mul s.fed k (width shape));
  }

  -- ---- runs

  new_runs : runs shape structure more ≡ runs_before shape structure more k
  new_runs = runs_all shape structure more k fits_new

  pub runs_after_lem : runs_after s more ≡ S' (s.fed + k)
  unfolding runs_after
  runs_after_lem = ap₂ ◌+◌ H.runs_are new_runs ∙ sym (starts_new shape structure cells more s.fed H.fits k)

  pub start_after_lem : (ℓ : ℕ) → ℓ ≤ s.fed + k → start_after s ws more ℓ ≡ S' ℓ
  unfolding start_after
  start_after_lem ℓ h = go (leb ℓ s.fed) refl
    where
      go : (b : Bool) → leb ℓ s.fed ≡ b
          → cond b (line_start ws ℓ) (s.figures.runs + runs_before shape structure more (ℓ - s.fed)) ≡ S' ℓ
      go true e = let l = leb-true ℓ s.fed e in H.starts ℓ l ∙ sym (starts_stay shape structure cells more s.fed H.fits ℓ l)
      go false e =
          let l = leb-false ℓ s.fed e in
          let q : s.fed + (ℓ - s.fed) ≡ ℓ = omega arith in
          ap (λ (r : ℕ). r + runs_before shape structure more (ℓ - s.fed)) H.runs_are
          ∙ sym (starts_new shape structure cells more s.fed H.fits (ℓ - s.fed)) ∙ ap S' q

  pub run_after_lem : (r : ℕ) → r < runs_after s more → run_after s ws more r ≡ run' r
  unfolding run_after
  run_after_lem r h = go (ltb r s.figures.runs) refl
    where
      go : (b : Bool) → ltb r s.figures.runs ≡ b
          → cond b (stored_run L ws r) (frame_run shape structure more (r - s.figures.runs)) ≡ run' r
      go true e =
          let l = ltb-true r s.figures.runs e in
          H.listed r l ∙ sym (run_stays shape structure cells more s.fed H.fits r (rw (← H.runs_are) l))
      go false e =
          let l = ltb-false r s.figures.runs e in
          let q : runs_before shape structure cells s.fed + (r - s.figures.runs) ≡ r = omega (arith, H.runs_are) in
          let less : r - s.figures.runs < runs_before shape structure more k = omega (
            arith,
            runs_after_lem,
            H.runs_are,
            starts_new shape structure cells more s.fed H.fits k,
          ) in
          sym (run_new shape structure cells more s.fed H.fits k (r - s.figures.runs) below less) ∙ ap run' q

  -- ---- touches

  pub touches_after : feed_touches s ws k more ≡ frame_touches shape structure (cells ++ more) s.fed k
  unfolding feed_touches
  touches_after = sym (touches_same (leading shape) structure S' (start_after s ws more) run' (run_after s ws more) (s.fed + k)
      (λ ℓ h. sym (start_after_lem ℓ h)) (start_le shape structure (cells ++ more)) (λ r h. sym (run_after_lem r (rw runs_after_lem h))) below
      s.fed k (le_refl (s.fed + k)))

  touches_ends : Ends (λ r. r < runs_after s more) (feed_touches s ws k more)
  touches_ends = rw (runs_after_lem, touches_after)
      (touches_below (leading shape) structure S' run' (start_le shape structure (cells ++ more)) s.fed k below)

  -- ---- words

  pub few_after : runs_after s more ≤ L * per_line shape structure
  few_after = rw runs_after_lem (omega (
    arith,
    starts_few shape structure (cells ++ more) (s.fed + k),
    mul-le-mul_right (per_line shape structure) below,
  ))

  -- words that have them hold the runs of the lines fed before and of the new ones
  pub wrote_stores : (ws' : List ℕ) → Wrote s ws k more ws' → Stores (feed_record s ws k more) ws' (cells ++ more)
  unfolding feed_record shape_of structure_of
  wrote_stores ws' T = record {
    fits = fits_all;
    starts = λ ℓ h. T.lined ℓ h ∙ start_after_lem ℓ h;
    runs_are = runs_after_lem;
    listed = λ r h. T.ran r h ∙ run_after_lem r h;
  }

  module _ (memory : words_needed shape structure ≤ length ws) where
    -- the memory has room for the runs
    pub room : (r : ℕ) → r < runs_after s more → size_place L r < length ws
    unfolding words_needed
    room r h = omega (arith, memory, few_after, mul_assoc stride L (per_line shape structure))

    pub room_lines : L < length ws
    unfolding words_needed
    room_lines = omega (arith, memory)

    module _ (ws' : List ℕ) (W : FeedWords s ws k more ws') where
      pub written : Wrote s ws k more ws'
      written = wrote s ws k more below (λ r h. omega (arith, room r h)) room_lines ws' W

      pub stores_after : Stores (feed_record s ws k more) ws' (cells ++ more)
      stores_after = wrote_stores ws' written

      -- ---- the grouping

      module _ (low : (r : ℕ) → r < s.figures.runs → parent_of L ws r ≤ r) where
        pub edges_ends : Ends (λ r. r < runs_after s more) (feed_edges s ws k more)
        unfolding feed_edges
        edges_ends =
            ends_visit (λ r. r < runs_after s more) (feed_touches s ws k more) (grouping_of s ws) touches_ends
            (ends_all (λ r. r < runs_after s more) (grouping_of s ws) (λ e m.
            let o = mem_ends (λ r. r < s.figures.runs) (grouping_of s ws) (grouping_ends (parent_of L ws) s.figures.runs low) e m in
            (unfold runs_after in omega (arith, o.0), unfold runs_after in omega (arith, o.1))))

        groups_after : groups (λ r. true) (feed_edges s ws k more) (runs_after s more) + joins (feed_edges s ws k more) ≡ runs_after s more
        groups_after =
            groups_joins (λ r. true) (runs_after s more) (feed_edges s ws k more) edges_ends (all_live (feed_edges s ws k more))
            ∙ count_all (runs_after s more)

        -- joins, counted by union, are the runs that are no roots
        pub joins_after : joins (feed_edges s ws k more) ≡ non_roots (parent_of L ws') (runs_after s more)
        joins_after =
            let a = roots_groups (parent_of L ws') (runs_after s more) W.parents (feed_edges s ws k more) W.grouped (runs_after s more)
            (le_refl (runs_after s more)) in
            let b = roots_others (parent_of L ws') (runs_after s more) in
            omega (arith, groups_after)
