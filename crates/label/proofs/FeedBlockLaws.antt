-- A feed's lines, extracted and united with their neighbours, leave the words and the joins that a feed promises.
-- Assumes nothing.
use mathlib.Core.Path.{◌≡◌, refl, sym, ap, ap₂, ◌∙◌, subst, fun_ext}
use mathlib.Core.Bool.{Bool, true, false, not, cond}
use mathlib.Core.List.{List, ◌++◌}
use Prim.Native.Nat.{ℕ, suc, ◌+◌, ◌-◌, ◌*◌, ◌^◌, ◌≤◌, ◌<◌}
use native.Mathlib.Nat.{le_refl, add-mul, mul_assoc, mul-le-mul_right}
use native.Mathlib.Omega.{arith}
use borrow.Author.Tests.{leb-true, leb-false, ltb-true, ltb-false}
use lib.Dec.{ltb, leb}
use lib.ListN.{length, get_or}
use Rattle.std.proofs.Common.{Result, Ok}
use lib.Seq.{take_all, ext_get_or}
use Rattle.groups.specs.Groups.{Edge, rep, sum_over, joins, visit, gather}
use Rattle.groups.proofs.CountLaws.{count_most}
use Rattle.groups.proofs.SumLaws.{sum_values}
use Rattle.frame.specs.Shape.{size, width, leading}
use Rattle.frame.specs.Structure.{left_on}
use Rattle.frame.specs.Runs.{runs, nonzero_cells, begins_run, Run, none, run_length, frame_runs, all_runs, runs_before, frame_run}
use Rattle.frame.specs.Touches.{touches}
use Rattle.frame.specs.Memory.{stride, per_line, words_needed}
use Rattle.frame.specs.declared.Figures.{Figures}
use Rattle.frame.specs.Sums.{plus_figures, FiguresFit}
use Rattle.frame.specs.Plain.{fed}
use Rattle.frame.specs.Words.{start_place, end_place, parent_place, size_place, line_start, parent_of, size_word, stored_run, NoGroupWord}
use Rattle.frame.proofs.ShapeLaws.{Fits, length_leading, size_lines_lem}
use Rattle.frame.proofs.EntryLaws.{length_entries, get_d_entries}
use Rattle.frame.proofs.FrameRunLaws.{start_le, run_first, runs_all}
use Rattle.frame.proofs.CellLaws.{cells_most}
use Rattle.frame.proofs.PlainLaws.{figures_same}
use Rattle.frame.proofs.TouchLaws.{touches_same, touches_bytes}
use Rattle.forest.specs.Forest.{root_of, own, non_roots, grouping, Sums, brought}
use Rattle.forest.proofs.ForestLaws.{grouping_joins}
use Rattle.forest.proofs.SizeLaws.{sums_same, sums_values}
use Rattle.forest.proofs.ResetLaws.{grouping_same}
use Rattle.sweep.specs.Sweeps.{InOrder}
use Rattle.geo.specs.Geometry.{leading_of, ThreeDims}
use Rattle.geo.specs.declared.Geo.{Geo}
use Rattle.geo.specs.Geometry.{GeoOf}
use Rattle.runs.specs.declared.Counts.{Counts}
use Rattle.block.specs.Blocks.{lines_runs, lines_cells, BlockRoom, Block, brought_in, BlockReady, touches_from, BlockUnited}
use Rattle.block.specs.Blocks.{RoomFor, Extracts}
use Rattle.causes.specs.declared.Cause.{Cause}
use Rattle.label.specs.declared.FedLines.{FedLines}
use Rattle.label.specs.declared.Session.{Session}
use Rattle.label.specs.Record.{shape_of, structure_of, lines_of, with_figures}
use Rattle.label.specs.Sound.{Sound}
use Rattle.label.specs.Held.{cells_of}
use Rattle.label.specs.Feeding.{runs_after, start_after, run_after, feed_brings, feed_touches, feed_edges, size_after, feed_record}
use Rattle.label.specs.Feeding.{feed_cause_of, FeedWords, FeedPromise}
use Rattle.label.specs.Steps.{RecordFound, FeedAccepted, FeedExtracted, SomeExtracted, FeedDone}
use Rattle.label.proofs.AcceptedLaws.{accepted_fits, cause_accepted, done_promise}
use Rattle.label.proofs.RecordGeometry.{geo_lines, geo_width, geo_left}
use Rattle.label.proofs.CheckLaws.{passed_cause, passed_geometry}
use Rattle.label.proofs.StoreLaws.{Stores}
use Rattle.label.proofs.StoredSound.{stores_ordered}
use Rattle.label.proofs.SoundCells.{sound_stores}
use Rattle.label.proofs.FeedWordLaws.{Aside, Wrote, wrote_others}
use Rattle.label.proofs.FeedLaws.{fits_all, runs_after_lem, few_after, room, room_lines, wrote_stores, touches_after, joins_after}
use Rattle.label.proofs.FeedSizeLaws.{brings_total}
use Rattle.label.proofs.FitLaws.{limits, total_few}

module _ (s : Session) (ws : List ℕ) (k : ℕ) (more : List Bool) (G : FeedAccepted s ws k more) where
  -- the record's shape, structure, L, w, and whether its left byte is nonzero; the cells that the words hold
  abbrev shape : List ℕ
  shape = shape_of s

  abbrev structure : List ℕ
  structure = structure_of s

  abbrev L : ℕ
  L = lines_of s

  abbrev w : ℕ
  w = width (shape_of s)

  abbrev left : Bool
  left = left_on (shape_of s) (structure_of s)

  abbrev cells : List Bool
  cells = cells_of s ws

  S : Sound s ws
  S = G.is_sound

  H : Stores s ws cells
  H = sound_stores s ws S

  F : Fits shape k more
  F = accepted_fits s ws k more G

  below : s.fed + k ≤ L
  below = let b = S.shape.within in let f = G.few in omega arith

  -- ---- extraction

  lines_runs_lem : (i : ℕ) → lines_runs left w more i ≡ all_runs shape structure more i
  unfolding lines_runs all_runs frame_runs
  lines_runs_lem i = refl

  lines_length : (i : ℕ) → length (lines_runs left w more i) ≡ runs_before shape structure more i
  unfolding runs_before
  lines_length i = ap length (lines_runs_lem i)

  new_runs : length (lines_runs left w more k) ≡ runs shape structure more
  new_runs = lines_length k ∙ sym (runs_all shape structure more k F)

  after_is : s.figures.runs + length (lines_runs left w more k) ≡ runs_after s more
  unfolding runs_after
  after_is = omega (arith, new_runs)

  room_all : L + 1 + stride * runs_after s more ≤ length ws
  unfolding words_needed
  room_all =
      omega (arith, S.shape.memory, few_after s ws cells H k more G.few G.whole, mul_assoc stride L (per_line shape structure))

  few : runs_after s more < 4294967293
  unfolding runs
  few =
      let all = runs_all shape structure (cells ++ more) (s.fed + k) (fits_all s ws cells H k more G.few G.whole) in
      let most = count_most (begins_run shape structure (cells ++ more)) (size shape) in
      omega (arith, runs_after_lem s ws cells H k more G.few G.whole, all, most, (limits s ws S).2)

  pub feed_lines_fit : s.fed + k < 4294967293
  feed_lines_fit = omega (arith, below, (limits s ws S).1)

  pub block_room : BlockRoom left w L s.fed s.figures.runs k more ws
  block_room = record {
    whole = G.whole;
    within = below;
    short = (limits s ws S).0;
    room = rw after_is room_all;
    small = rw after_is (omega (arith, few));
  }

  module _ (ws₁ : List ℕ) (c : Counts) (B : Block left w L s.fed s.figures.runs k more ws ws₁ c) where
    pub extracted_count : s.figures.runs + c.runs ≡ runs_after s more
    extracted_count = ap (λ (n : ℕ). s.figures.runs + n) B.counted ∙ after_is

    -- the lines are all there is
    pub extracted_cells : c.cells ≡ nonzero_cells more
    unfolding lines_cells
    extracted_cells = B.total ∙ ap nonzero_cells (take_all (k * w) more (rw G.whole (le_refl (k * w))))

    -- a word that is no new line start, and of no new run the start or the end
    stands : (j : ℕ) → Aside s k more j → get_or ws₁ j 0 ≡ get_or ws j 0
    stands j A = B.others j (record {
      no_line = A.no_line;
      no_start = λ r h. A.no_start (s.figures.runs + r) (omega arith) (omega (arith, h, after_is));
      no_end = λ r h. A.no_end (s.figures.runs + r) (omega arith) (omega (arith, h, after_is));
    })

    old_line : (ℓ : ℕ) → ℓ ≤ s.fed → line_start ws₁ ℓ ≡ line_start ws ℓ
    old_line ℓ h =
        let f = S.shape.within in
        stands ℓ (record { no_line = λ i l e. omega arith; no_start = λ r a b e. omega arith; no_end = λ r a b e. omega arith })

    old_run : (r : ℕ) → r < s.figures.runs → stored_run L ws₁ r ≡ stored_run L ws r
    old_run r h =
        ap₂ (λ (x : ℕ) (y : ℕ). record { start = x; end = y })
        (stands (start_place L r) (record {
          no_line = λ i l e. omega (arith, below);
          no_start = λ x a b e. omega arith;
          no_end = λ x a b e. omega arith;
        }))
        (stands (end_place L r) (record {
          no_line = λ i l e. omega (arith, below);
          no_start = λ x a b e. omega arith;
          no_end = λ x a b e. omega arith;
        }))

    parents_stand : (r : ℕ) → parent_of L ws₁ r ≡ parent_of L ws r
    parents_stand r = stands (parent_place L r) (record {
      no_line = λ i l e. omega (arith, below);
      no_start = λ x a b e. omega arith;
      no_end = λ x a b e. omega arith;
    })

    sizes_stand : (r : ℕ) → size_word L ws₁ r ≡ size_word L ws r
    sizes_stand r = stands (size_place L r) (record {
      no_line = λ i l e. omega (arith, below);
      no_start = λ x a b e. omega arith;
      no_end = λ x a b e. omega arith;
    })

    line_after : (ℓ : ℕ) → ℓ ≤ s.fed + k → line_start ws₁ ℓ ≡ start_after s ws more ℓ
    unfolding start_after
    line_after ℓ h = go (leb ℓ s.fed) refl
      where
        go : (b : Bool) → leb ℓ s.fed ≡ b
            → line_start ws₁ ℓ ≡ cond b (line_start ws ℓ) (s.figures.runs + runs_before shape structure more (ℓ - s.fed))
        go true e = old_line ℓ (leb-true ℓ s.fed e)
        go false e =
            let l = leb-false ℓ s.fed e in
            let i : ℓ - s.fed - 1 < k = omega arith in
            let q : s.fed + suc (ℓ - s.fed - 1) ≡ ℓ = omega arith in
            let d : suc (ℓ - s.fed - 1) ≡ ℓ - s.fed = omega arith in
            subst (λ (x : ℕ). line_start ws₁ x ≡ s.figures.runs + runs_before shape structure more (ℓ - s.fed)) q
            (B.lined (ℓ - s.fed - 1) i
            ∙ ap (λ (x : ℕ). s.figures.runs + x) (lines_length (suc (ℓ - s.fed - 1)) ∙ ap (runs_before shape structure more) d))

    run_after_lem : (r : ℕ) → r < runs_after s more → stored_run L ws₁ r ≡ run_after s ws more r
    unfolding run_after
    run_after_lem r h = go (ltb r s.figures.runs) refl
      where
        go : (b : Bool) → ltb r s.figures.runs ≡ b
            → stored_run L ws₁ r ≡ cond b (stored_run L ws r) (frame_run shape structure more (r - s.figures.runs))
        go true e = old_run r (ltb-true r s.figures.runs e)
        go false e =
            let l = ltb-false r s.figures.runs e in
            let i : r - s.figures.runs < length (lines_runs left w more k) = omega (arith, after_is, h) in
            let q : s.figures.runs + (r - s.figures.runs) ≡ r = omega arith in
            subst (λ (x : ℕ). stored_run L ws₁ x ≡ frame_run shape structure more (r - s.figures.runs)) q
            (B.ran (r - s.figures.runs) i
            ∙ ap (λ (us : List Run). get_or us (r - s.figures.runs) none) (lines_runs_lem k)
            ∙ sym (run_first shape structure more k (r - s.figures.runs) F.below (rw (← lines_length k) i)))

    wrote₁ : Wrote s ws k more ws₁
    wrote₁ = record { lined = line_after; ran = run_after_lem; stands = λ j A free. stands j A }

    stores₁ : Stores (feed_record s ws k more) ws₁ (cells ++ more)
    stores₁ = wrote_stores s ws cells H k more G.few G.whole ws₁ wrote₁

    -- the runs before the new lines, and all of them
    fed_start : line_start ws₁ s.fed ≡ s.figures.runs
    fed_start = old_line s.fed (le_refl s.fed) ∙ S.words.last

    last_start : line_start ws₁ (s.fed + k) ≡ runs_after s more
    unfolding feed_record
    last_start = stores₁.starts (s.fed + k) (le_refl (s.fed + k)) ∙ sym stores₁.runs_are

    -- what each run brings to its group is what the promise says
    brings_are : (r : ℕ) → r < runs_after s more → brought_in L ws₁ s.fed r ≡ feed_brings s ws more r
    unfolding feed_brings brought
    brings_are r h =
        ap (λ (n : ℕ). brought n (parent_of L ws₁) (size_word L ws₁) (λ q. run_length (stored_run L ws₁ q)) r) fed_start
        ∙ ap₂ (λ (f : ℕ → ℕ) (g : ℕ → ℕ). brought s.figures.runs f g (λ q. run_length (stored_run L ws₁ q)) r) (fun_ext parents_stand)
        (fun_ext sizes_stand)
        ∙ ap (λ (u : Run). cond (ltb r s.figures.runs) (cond (own (parent_of L ws) r) (size_word L ws r) 0) (run_length u)) (run_after_lem r h)

    -- no more than the frame's cells
    brings_few : sum_over (λ r. true) (brought_in L ws₁ s.fed) (line_start ws₁ (s.fed + k)) < 4294967296
    brings_few =
        rw last_start (omega (
          arith,
          sum_values (λ r. true) (brought_in L ws₁ s.fed) (feed_brings s ws more) (runs_after s more) (λ r h e. brings_are r h),
          brings_total s ws k more cells H G.few G.whole,
          S.words.sizes,
          cells_most more,
          G.whole,
          total_few s ws S,
          add-mul s.fed k w,
          mul-le-mul_right w below,
          size_lines_lem (shape_of s),
          (limits s ws S).2,
        ))

    -- no lines: nothing is written
    none_written : k ≡ 0 → ws₁ ≡ ws
    none_written z =
        let no_runs : length (lines_runs left w more k) ≡ 0 = rw z (unfold lines_runs gather in refl) in
        ext_get_or 0 ws₁ ws B.long
        (λ j h.
        B.others j (record {
          no_line = λ i l e. omega arith;
          no_start = λ r l e. omega (arith, no_runs);
          no_end = λ r l e. omega (arith, no_runs);
        }))

    -- ---- union

    module _ (g : Geo) (K : GeoOf s.rank s.shape s.structure g) (long : 3 ^ s.rank ≤ length s.structure) where
      sorted : (m : ℕ) → m < s.fed + k → InOrder (stored_run L ws₁) (line_start ws₁ m) (line_start ws₁ (suc m))
      unfolding feed_record shape_of
      sorted m h = stores_ordered (feed_record s ws k more) ws₁ (cells ++ more) stores₁ m h

      lines_is : g.lines ≡ L
      unfolding shape_of
      lines_is = K.lines_is

      pub block_ready : BlockReady g.leads g.dims L s.structure ws₁ s.fed k
      block_ready = record {
        leading = subst (ThreeDims g.leads g.dims) lines_is K.three;
        bytes = rw (← K.rank_is) long;
        within = below;
        room = rw (last_start, B.long) room_all;
        sorted = sorted;
        parents = λ r h. rw (parents_stand r) (S.words.parents r (rw (← fed_start) h));
        small = brings_few;
      }

      -- the touches of the new lines are those of the promise
      touches_are : touches_from g.leads g.dims L s.structure ws₁ s.fed k ≡ feed_touches s ws k more
      touches_are =
          ap (λ (ds : List ℕ). touches ds s.structure (line_start ws₁) (stored_run L ws₁) s.fed k) leading_is
          ∙ touches_bytes (leading shape) s.structure structure (line_start ws₁) (stored_run L ws₁) first_bytes s.fed k
          ∙ sym (touches_same (leading shape) structure
          (runs_before shape structure (cells ++ more)) (line_start ws₁)
          (frame_run shape structure (cells ++ more)) (stored_run L ws₁)
          (s.fed + k) starts (start_le shape structure (cells ++ more)) listed below s.fed k (le_refl (s.fed + k)))
          ∙ sym (touches_after s ws cells H k more G.few G.whole)
        where
          leading_is : leading_of g.leads g.dims ≡ leading shape
          leading_is = unfold shape_of in K.leading_is

          rank_leading : s.rank ≡ suc (length (leading shape))
          rank_leading =
              let e : length shape ≡ s.rank = unfold shape_of in length_entries s.rank s.shape in
              sym e ∙ length_leading shape F.ranked

          first_bytes : (c : ℕ) → c < 3 ^ suc (length (leading shape)) → get_or s.structure c 0 ≡ get_or structure c 0
          first_bytes c h = unfold structure_of in sym (get_d_entries (3 ^ s.rank) s.structure c (rw rank_leading h))

          starts : (ℓ : ℕ) → ℓ ≤ s.fed + k → runs_before shape structure (cells ++ more) ℓ ≡ line_start ws₁ ℓ
          starts ℓ h = sym (unfold feed_record shape_of structure_of in stores₁.starts ℓ h)

          listed : (r : ℕ) → r < runs_before shape structure (cells ++ more) (s.fed + k)
              → frame_run shape structure (cells ++ more) r ≡ stored_run L ws₁ r
          listed r h =
              sym (unfold feed_record shape_of structure_of in
              stores₁.listed r (rw (runs_after_lem s ws cells H k more G.few G.whole) h))

      -- the grouping held before
      held_before : grouping (parent_of L ws₁) (line_start ws₁ s.fed) ≡ grouping (parent_of L ws) s.figures.runs
      held_before =
          ap (grouping (parent_of L ws₁)) fed_start
          ∙ grouping_same (parent_of L ws₁) (parent_of L ws) s.figures.runs (λ r h. parents_stand r)

      module _ (ws₂ : List ℕ) (t : ℕ) (U : BlockUnited g.leads g.dims L s.structure ws₁ ws₂ s.fed k t) where
        edges_are : visit (touches_from g.leads g.dims L s.structure ws₁ s.fed k)
            (grouping (parent_of L ws₁) (line_start ws₁ s.fed))
            ≡ feed_edges s ws k more
        unfolding feed_edges
        edges_are = ap₂ visit touches_are held_before

        others : (j : ℕ) → NoGroupWord L (runs_after s more) j → get_or ws₂ j 0 ≡ get_or ws₁ j 0
        others j free = U.others j (rw last_start free)

        wrote₂ : Wrote s ws k more ws₂
        wrote₂ = record {
          lined = λ ℓ h. others ℓ (λ r l. (omega (arith, below), omega (arith, below))) ∙ line_after ℓ h;
          ran = λ r h.
              ap₂ (λ (x : ℕ) (y : ℕ). record { start = x; end = y })
              (others (start_place L r) (λ i l. (omega arith, omega arith)))
              (others (end_place L r) (λ i l. (omega arith, omega arith)))
              ∙ run_after_lem r h;
          stands = λ j A free. others j free ∙ stands j A;
        }

        sized_by : (r : ℕ) → r < runs_after s more → rep (feed_edges s ws k more) r ≡ r → size_word L ws₂ r ≡ size_after s ws k more r
        unfolding size_after
        sized_by = sums_values (rep (feed_edges s ws k more)) (size_word L ws₂) (brought_in L ws₁ s.fed) (feed_brings s ws more)
            (runs_after s more) brings_are
            (sums_same (root_of (parent_of L ws₂)) (rep (feed_edges s ws k more)) (size_word L ws₂) (size_word L ws₂) (brought_in L ws₁ s.fed)
            (runs_after s more)
            (λ r h. sym (U.grouped r (rw last_start h) ∙ ap (λ (es : List Edge). rep es r) edges_are)) (λ r h e. refl)
            (subst (λ (n : ℕ). Sums (root_of (parent_of L ws₂)) (size_word L ws₂) (brought_in L ws₁ s.fed) n) last_start U.sized))

        pub block_words : FeedWords s ws k more ws₂
        block_words = record {
          long = U.long ∙ B.long;
          others =
              wrote_others s ws k more below
              (λ r h. omega (arith, room s ws cells H k more G.few G.whole S.shape.memory r h))
              (room_lines s ws cells H k more G.few G.whole S.shape.memory) ws₂ wrote₂;
          parents = λ r h. U.parents r (rw last_start h);
          grouped = λ r h. U.grouped r (rw last_start h) ∙ ap (λ (es : List Edge). rep es r) edges_are;
          sized = sized_by;
          no_lines = λ z. U.no_lines z ∙ none_written z;
        }

        pub block_joins : s.figures.joins + t ≡ joins (feed_edges s ws k more)
        block_joins =
            let before = ap joins held_before ∙ grouping_joins (parent_of L ws) s.figures.runs S.words.parents
            ∙ sym S.words.join_count in
            omega (arith, U.counted, before, ap joins edges_are)

-- ---- the same, in the names of the record's geometry

module _ (s : Session) (ws : List ℕ) (k : ℕ) (more : List Bool) (G : FeedAccepted s ws k more) (g : Geo)
    (K : GeoOf s.rank s.shape s.structure g) where
  pub feed_room : RoomFor g s.fed s.figures.runs k more ws
  feed_room = rw (geo_left s ws g K, geo_width s ws g K, geo_lines s ws g K) (block_room s ws k more G)

  pub feed_extracted : (ws₁ : List ℕ) (c : Counts) → Extracts g s.fed s.figures.runs k more ws ws₁ c
      → FeedExtracted s ws k more g ws₁ c
  feed_extracted ws₁ c B = record {
    given = G;
    geometry = K;
    block = rw (← geo_left s ws g K, ← geo_width s ws g K, ← geo_lines s ws g K) B;
  }

-- so where the check of a feed passed
module _ (s : Session) (ws : List ℕ) (k : ℕ) (more : List Bool) {r : Result Geo Cause} (F : RecordFound s (feed_cause_of s ws k more) r)
    {g : Geo} (is : r ≡ Ok g) where
  given : FeedAccepted s ws k more
  given = cause_accepted s ws k more (passed_cause s F is)

  pub passed_room : RoomFor g s.fed s.figures.runs k more ws
  passed_room = feed_room s ws k more given g (passed_geometry s F is)

  extracted : {ws₁ : List ℕ} {c : Counts} → Extracts g s.fed s.figures.runs k more ws ws₁ c → FeedExtracted s ws k more g ws₁ c
  extracted {ws₁} {c} B = feed_extracted s ws k more given g (passed_geometry s F is) ws₁ c B

module _ {s : Session} {ws : List ℕ} {k : ℕ} {more : List Bool} {r : Result Geo Cause} (F : RecordFound s (feed_cause_of s ws k more) r)
    {g : Geo} (is : r ≡ Ok g) {ws₁ : List ℕ} {c : Counts} (B : Extracts g s.fed s.figures.runs k more ws ws₁ c) where
  pub passed_extracted : SomeExtracted s g k ws₁ c
  passed_extracted = record { words = ws; cells = more; extracted = extracted s ws k more F is B }

  -- the union's promise is for whatever feed was extracted
  pub passed_feed : {s₁ : Session} {ws₂ : List ℕ}
      → ((us : List ℕ) (flags : List Bool) → FeedExtracted s us k flags g ws₁ c → FeedDone s us k flags s₁ ws₂)
      → {l : FedLines} → l ≡ record { lines = s₁.fed; figures = s₁.figures } → FeedPromise s ws k more (fed l.lines l.figures) s₁ ws₂
  passed_feed {s₁} {ws₂} U said =
      let done = U ws more (extracted s ws k more F is B) in
      done_promise s ws k more (given s ws k more F is) s₁ ws₂ done _ (ap (λ (l : FedLines). fed l.lines l.figures) said) s₁ refl

module _ (s : Session) (ws : List ℕ) (k : ℕ) (more : List Bool) (g : Geo) (ws₁ : List ℕ) (c : Counts)
    (X : FeedExtracted s ws k more g ws₁ c) (long : 3 ^ s.rank ≤ length s.structure) where
  abbrev K : GeoOf s.rank s.shape s.structure g
  K = X.geometry

  pub feed_ready : BlockReady g.leads g.dims g.lines s.structure ws₁ s.fed k
  feed_ready = rw (geo_lines s ws g K) (block_ready s ws k more X.given ws₁ c X.block g K long)

  runs_fit : s.figures.runs + c.runs < 4294967293
  runs_fit = omega (arith, extracted_count s ws k more X.given ws₁ c X.block, few s ws k more X.given)

  cells_fit : s.figures.cells + c.cells < 4294967293
  cells_fit =
      let G = X.given in
      let S = G.is_sound in
      omega (
        arith,
        extracted_cells s ws k more G ws₁ c X.block,
        cells_most more,
        G.whole,
        total_few s ws S,
        add-mul s.fed k (width (shape_of s)),
        mul-le-mul_right (width (shape_of s)) (below s ws k more G),
        size_lines_lem (shape_of s),
        (limits s ws S).2,
      )

  module _ (ws₂ : List ℕ) (t : ℕ) (U : BlockUnited g.leads g.dims g.lines s.structure ws₁ ws₂ s.fed k t) where
    united : BlockUnited g.leads g.dims (lines_of s) s.structure ws₁ ws₂ s.fed k t
    united = rw (← geo_lines s ws g K) U

    W : FeedWords s ws k more ws₂
    W = block_words s ws k more X.given ws₁ c X.block g K long ws₂ t united

    joins_are : s.figures.joins + t ≡ joins (feed_edges s ws k more)
    joins_are = block_joins s ws k more X.given ws₁ c X.block g K long ws₂ t united

    joins_fit : s.figures.joins + t < 4294967293
    unfolding non_roots
    joins_fit =
        let G = X.given in
        let S = G.is_sound in
        let p = parent_of (lines_of s) ws₂ in
        let after = joins_after s ws (cells_of s ws) (sound_stores s ws S) k more G.few G.whole S.shape.memory ws₂ W
        S.words.parents in
        omega (arith, joins_are, after, count_most (λ r. not (own p r)) (runs_after s more), few s ws k more G)

    -- the figures are numbers of 64 bits, as the lines are
    pub feed_figures_fit : FiguresFit s.figures (record { runs = c.runs; joins = t; cells = c.cells })
    feed_figures_fit = record {
      runs_fit = omega (arith, runs_fit);
      joins_fit = omega (arith, joins_fit);
      cells_fit = omega (arith, cells_fit);
    }

    pub feed_done : {figures : Figures} → figures ≡ plus_figures s.figures (record { runs = c.runs; joins = t; cells = c.cells })
        → FeedDone s ws k more (with_figures s (s.fed + k) figures) ws₂
    unfolding feed_record
    feed_done {figures} is = record {
      session = ap (with_figures s (s.fed + k))
          (is ∙ figures_same (extracted_count s ws k more X.given ws₁ c X.block) joins_are
          (ap (λ (n : ℕ). s.figures.cells + n) (extracted_cells s ws k more X.given ws₁ c X.block)));
      words = W;
    }
