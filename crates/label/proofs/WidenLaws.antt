-- A structure change on a sound record of any origin is a feed of the lines that it holds, after an opening with the new structure.
-- Assumes nothing.
use mathlib.Core.Path.{◌≡◌, refl, sym, ap, ap₂, ◌∙◌, subst}
use mathlib.Core.Bool.{Bool}
use mathlib.Core.List.{List, []}
use Prim.Native.Nat.{ℕ, ◌-◌, ◌*◌, ◌^◌, ◌≤◌, ◌<◌}
use native.Mathlib.Nat.{le_refl, zero-add, zero-mul, not-suc-le-zero}
use native.Mathlib.Omega.{arith}
use lib.ListN.{length}
use lib.Seq.{ext_get_or}
use Rattle.groups.specs.Groups.{Edge, rep, count, sum_over, group_sum, joins, visit}
use Rattle.groups.proofs.SumLaws.{sum_values}
use Rattle.frame.specs.Shape.{width, leading}
use Rattle.frame.specs.Structure.{left_on}
use Rattle.frame.specs.Runs.{runs, nonzero_cells, run_length, runs_before, frame_run}
use Rattle.frame.specs.Touches.{frame_touches}
use Rattle.frame.specs.Plain.{zero_figures, opened}
use Rattle.frame.specs.Words.{start_place, end_place, line_start, parent_of, size_word, stored_run}
use Rattle.frame.specs.Lists.{entries, padded}
use Rattle.frame.proofs.EntryLaws.{length_entries, entries_padded}
use Rattle.frame.proofs.FrameRunLaws.{start_zero, start_le}
use Rattle.frame.proofs.CellLaws.{cells_none}
use Rattle.frame.proofs.TouchLaws.{touches_same}
use Rattle.frame.proofs.WiderLaws.{wider_left, runs_left, starts_left, run_left, words_left}
use Rattle.frame.proofs.PlainLaws.{figures_same}
use Rattle.forest.specs.Forest.{non_roots, grouping, root_sizes}
use Rattle.forest.proofs.SizeLaws.{brought_new}
use Rattle.geo.specs.Geometry.{ShapeSound}
use Rattle.label.specs.declared.Session.{Session}
use Rattle.label.specs.Record.{shape_of, structure_of, lines_of, with_figures}
use Rattle.label.specs.Sound.{Sound}
use Rattle.label.specs.Held.{cells_of}
use Rattle.label.specs.Feeding.{runs_after, start_after, run_after, feed_brings, feed_touches, feed_edges, size_after, feed_record, FeedWords}
use Rattle.label.specs.Widening.{widen_touches, widen_edges, widen_size, widen_record, WidenWords}
use Rattle.label.specs.Steps.{FeedAccepted, WidenAccepted}
use Rattle.label.proofs.StoreLaws.{Stores, stores_cells}
use Rattle.label.proofs.StoredSound.{stores_sound}
use Rattle.label.proofs.SoundCells.{sound_stores, runs_held, cells_held}
use Rattle.label.proofs.FeedWordLaws.{Wrote, wrote_others}
use Rattle.label.proofs.FeedLaws.{start_after_lem, run_after_lem, touches_after, room, room_lines}
use Rattle.label.proofs.FeedSizeLaws.{sound_after}
use Rattle.label.proofs.Invariant.{state_of, Inv}

-- the record with the new structure, as an opening leaves it
abbrev pub reopened : Session → List ℕ → Session
reopened s structure =
    record { rank = s.rank; shape = s.shape; structure = padded 81 structure; fed = 0; figures = zero_figures }

module _ (s : Session) (ws structure : List ℕ) (G : WidenAccepted s ws structure) where
  -- its shape and L, the cells held, and the record as reopened
  abbrev shape : List ℕ
  shape = shape_of s

  abbrev L : ℕ
  L = lines_of s

  abbrev cells : List Bool
  cells = cells_of s ws

  abbrev s₀ : Session
  s₀ = reopened s structure

  S : Sound s ws
  S = G.is_sound

  H : Stores s ws cells
  H = sound_stores s ws S

  pub reopened_structure : structure_of s₀ ≡ structure
  unfolding structure_of
  reopened_structure =
      let bytes : 3 ^ s.rank ≡ length structure = sym (G.bytes ∙ ap (λ (n : ℕ). 3 ^ n)
      (unfold shape_of in length_entries s.rank s.shape)) in
      ap (λ (n : ℕ). entries n (padded 81 structure)) bytes ∙ entries_padded 81 structure

  same_left : left_on shape (structure_of s) ≡ left_on shape structure
  same_left = wider_left shape (structure_of s) structure G.wider

  -- ---- the lines that the words hold are lines under the new structure

  -- it has the same runs
  pub starts_held : (ℓ : ℕ) → ℓ ≤ s.fed → runs_before shape structure cells ℓ ≡ line_start ws ℓ
  starts_held ℓ h = sym (starts_left shape (structure_of s) structure same_left cells ℓ) ∙ sym (H.starts ℓ h)

  pub run_held : (r : ℕ) → r < s.figures.runs → frame_run shape structure cells r ≡ stored_run L ws r
  run_held r h = sym (run_left shape (structure_of s) structure same_left cells r) ∙ sym (H.listed r h)

  last_held : runs_before shape structure cells s.fed ≡ s.figures.runs
  last_held = starts_held s.fed (le_refl s.fed) ∙ S.words.last

  -- the touches are those of the cells
  pub touches_held : widen_touches s ws structure ≡ frame_touches shape structure cells 0 s.fed
  unfolding widen_touches
  touches_held = sym (touches_same (leading shape) structure (runs_before shape structure cells) (line_start ws)
      (frame_run shape structure cells) (stored_run L ws) s.fed starts_held (start_le shape structure cells)
      (λ r h. run_held r (rw last_held at h)) S.shape.within 0 s.fed (omega arith))

  -- ---- the record as reopened is sound, and holds no line

  reopened_stores : Stores s₀ ws []
  unfolding shape_of
  reopened_stores = record {
    fits = record { ranked = H.fits.ranked; below = omega arith; whole = sym (zero-mul (width shape)) };
    starts = λ ℓ h.
        let z : ℓ ≡ 0 = omega arith in
        rw (z, start_zero shape (structure_of s₀) []) S.words.first;
    runs_are = sym (start_zero shape (structure_of s₀) []);
    listed = λ r h. absurd (not-suc-le-zero h);
  }

  reopened_shaped : ShapeSound shape structure (length ws) 0
  reopened_shaped = record {
    ranked = S.shape.ranked;
    dimensions = S.shape.dimensions;
    limits = S.shape.limits;
    not_lopsided = G.not_lopsided;
    memory = rw (← words_left shape (structure_of s) structure same_left) S.shape.memory;
    within = omega arith;
  }

  reopened_sound : Sound s₀ ws
  unfolding shape_of
  reopened_sound =
      stores_sound s₀ ws [] reopened_stores (rw reopened_structure reopened_shaped)
      (λ r h. absurd (not-suc-le-zero h)) (unfold non_roots count in refl) (sym cells_none) (unfold root_sizes sum_over in refl)

  pub reopened_inv : Inv s₀ ws
  reopened_inv = record {
    is_sound = reopened_sound;
    grouped = λ r h. absurd (not-suc-le-zero h);
    sized = λ r h. absurd (not-suc-le-zero h);
  }

  pub reopened_state : state_of s₀ ws ≡ opened structure
  reopened_state =
      ap₂ (λ (bytes : List ℕ) (fed : List Bool). record { structure = bytes; fed = 0; cells = fed }) reopened_structure
      (stores_cells s₀ ws [] reopened_stores)

  -- ---- a feed of all lines that the words hold

  few : s.fed ≤ lines_of s₀ - 0
  unfolding shape_of
  few = omega (arith, S.shape.within)

  whole : length cells ≡ s.fed * width (shape_of s₀)
  unfolding shape_of
  whole = H.fits.whole

  pub reopened_accepted : FeedAccepted s₀ ws s.fed cells
  reopened_accepted = record { is_sound = reopened_sound; few = few; whole = whole }

  runs_are : runs_after s₀ cells ≡ s.figures.runs
  unfolding runs_after shape_of
  runs_are = zero-add _ ∙ ap (λ (bytes : List ℕ). runs shape bytes cells) reopened_structure
      ∙ sym (runs_left shape (structure_of s) structure same_left cells) ∙ sym (runs_held s ws S)

  starts_are : (ℓ : ℕ) → ℓ ≤ s.fed → start_after s₀ ws cells ℓ ≡ line_start ws ℓ
  unfolding shape_of
  starts_are ℓ h =
      start_after_lem s₀ ws [] reopened_stores s.fed cells few whole ℓ (omega arith)
      ∙ ap (λ (bytes : List ℕ). runs_before shape bytes cells ℓ) reopened_structure ∙ starts_held ℓ h

  run_is : (r : ℕ) → r < s.figures.runs → run_after s₀ ws cells r ≡ stored_run L ws r
  unfolding shape_of
  run_is r h =
      run_after_lem s₀ ws [] reopened_stores s.fed cells few whole r (rw runs_are h)
      ∙ ap (λ (bytes : List ℕ). frame_run shape bytes cells r) reopened_structure ∙ run_held r h

  touches_are : feed_touches s₀ ws s.fed cells ≡ widen_touches s ws structure
  unfolding shape_of
  touches_are =
      touches_after s₀ ws [] reopened_stores s.fed cells few whole
      ∙ ap (λ (bytes : List ℕ). frame_touches shape bytes cells 0 s.fed) reopened_structure ∙ sym touches_held

  edges_are : feed_edges s₀ ws s.fed cells ≡ widen_edges s ws structure
  unfolding feed_edges widen_edges grouping
  edges_are = ap (λ (es : List Edge). visit es []) touches_are

  sizes_are : (r : ℕ) → size_after s₀ ws s.fed cells r ≡ widen_size s ws structure r
  unfolding size_after widen_size group_sum feed_brings shape_of
  sizes_are r = rw (edges_are, runs_are) (sum_values _ _ _ s.figures.runs (λ q h e.
      brought_new 0 (parent_of L ws) (size_word L ws) (λ p. run_length (run_after s₀ ws cells p)) q (omega arith)
      ∙ ap run_length (run_is q h)))

  -- the record is that of the feed
  pub widened_record : feed_record s₀ ws s.fed cells ≡ widen_record s ws structure
  unfolding feed_record widen_record
  widened_record = ap₂ (with_figures s₀) (zero-add s.fed)
      (figures_same runs_are (ap joins edges_are) (zero-add (nonzero_cells cells) ∙ sym (cells_held s ws S)))

  -- and so are the words
  module _ (ws' : List ℕ) (W : WidenWords s ws structure ws') where
    line_stands : (ℓ : ℕ) → ℓ ≤ s.fed → line_start ws' ℓ ≡ line_start ws ℓ
    line_stands ℓ h = let b = S.shape.within in W.others ℓ (λ r l. (omega arith, omega arith))

    run_stands : (r : ℕ) → stored_run L ws' r ≡ stored_run L ws r
    run_stands r =
        ap₂ (λ (x : ℕ) (y : ℕ). record { start = x; end = y })
        (W.others (start_place L r) (λ i l. (omega arith, omega arith)))
        (W.others (end_place L r) (λ i l. (omega arith, omega arith)))

    wrote : Wrote s₀ ws s.fed cells ws'
    unfolding shape_of
    wrote = record {
      lined = λ ℓ h. let k : ℓ ≤ s.fed = omega arith in line_stands ℓ k ∙ sym (starts_are ℓ k);
      ran = λ r h. run_stands r ∙ sym (run_is r (rw runs_are at h));
      stands = λ j A free. W.others j (rw runs_are at free);
    }

    pub widened_words : FeedWords s₀ ws s.fed cells ws'
    unfolding shape_of
    widened_words = record {
      long = W.long;
      others = wrote_others s₀ ws s.fed cells (omega (arith, S.shape.within))
          (λ r h. omega (arith, room s₀ ws [] reopened_stores s.fed cells few whole reopened_sound.shape.memory r h))
          (room_lines s₀ ws [] reopened_stores s.fed cells few whole reopened_sound.shape.memory) ws' wrote;
      parents = λ r h. W.parents r (rw runs_are at h);
      grouped = λ r h. W.grouped r (rw runs_are at h) ∙ ap (λ (es : List Edge). rep es r) (sym edges_are);
      sized = λ r h e. W.sized r (rw runs_are at h) (ap (λ (es : List Edge). rep es r) (sym edges_are) ∙ e) ∙ sym (sizes_are r);
      no_lines = λ z. ext_get_or 0 ws' ws W.long (λ j h. W.others j (λ r l. absurd (omega (arith, none z))));
    }
      where
        -- where no line is fed there are no runs
        none : s.fed ≡ 0 → s.figures.runs ≡ 0
        none z = sym S.words.last ∙ ap (line_start ws) z ∙ S.words.first

    -- with no line fed no word changes
    pub widened_none : s.fed ≡ 0 → ws' ≡ ws
    widened_none = widened_words.no_lines

    -- the record is sound again
    pub widened_sound : Sound (widen_record s ws structure) ws'
    widened_sound = subst (λ (x : Session). Sound x ws') widened_record
        (sound_after s₀ ws [] reopened_stores s.fed cells few whole reopened_sound ws' widened_words)
