-- All lines of a frame that is opened, fed block by block, are one feed: of cells of any kind, where f says which are nonzero.
-- Assumes nothing.
use mathlib.Core.Path.{◌≡◌, refl, sym, ap, ap₂, ◌∙◌, subst}
use mathlib.Core.Bool.{Bool, true, false, ◌||◌, true≢false}
use mathlib.Core.List.{List, [], ◌∷◌, ◌++◌, map, map-append}
use Prim.Native.Nat.{ℕ, suc, ◌+◌, ◌-◌, ◌*◌, ◌/◌, ◌^◌, min, max, ◌≤◌, ◌<◌}
use native.Mathlib.Nat.{zero-mul, mul-le-mul_right, add-mul, div-lt_iff_lt-mul}
use native.Mathlib.Omega.{arith}
use borrow.Rule.Slice.PartMut.{mid_of}
use borrow.Author.Tests.{eqb-false, leb-true, leb-false}
use lib.Dec.{eqb, leb}
use lib.ListN.{length, get_or, take, drop, replicate, length-append, length-map, length-take, length-drop, get_or-append}
use lib.Seq.{take-add, take_all}
use Rattle.frame.specs.declared.Figures.{Figures}
use Rattle.frame.specs.Shape.{size, width, lines, leading}
use Rattle.frame.specs.Structure.{left_on}
use Rattle.frame.specs.Lists.{entries, padded}
use Rattle.frame.specs.Causes.{has_zero}
use Rattle.frame.specs.Plain.{zero_figures}
use Rattle.frame.specs.Sums.{plus_figures, FiguresFit}
use Rattle.frame.specs.Words.{line_start, stored_run}
use Rattle.frame.proofs.EntryLaws.{entries_padded, entries_all}
use Rattle.frame.proofs.ShapeLaws.{size_lines_lem, length_leading}
use Rattle.frame.proofs.TouchLaws.{touches_bytes}
use Rattle.frame.proofs.CauseLaws.{rank_right, Allowed}
use Rattle.geo.specs.declared.Geo.{Geo}
use Rattle.geo.specs.Geometry.{GeoOf}
use Rattle.geo.proofs.GeoLaws.{within_limits}
use Rattle.runs.specs.declared.Counts.{Counts}
use Rattle.block.specs.Blocks.{RoomFor, Extracts, BlockReady, touches_from, BlockUnited}
use Rattle.label.specs.declared.Session.{Session}
use Rattle.label.specs.Record.{shape_of, lines_of, with_figures}
use Rattle.label.specs.Sound.{Sound}
use Rattle.label.specs.Opening.{open_record}
use Rattle.label.specs.Feeding.{feed_record, FeedWords}
use Rattle.label.specs.Steps.{FeedAccepted, FeedExtracted, FeedDone}
use Rattle.label.specs.WholeFrame.{block_lines}
use Rattle.label.proofs.OpenLaws.{opened_shape}
use Rattle.label.proofs.FeedNoneLaws.{words_none, record_none}
use Rattle.label.proofs.BlockLaws.{OneFeed, between_sound, one_more}
use Rattle.label.proofs.FeedBlockLaws.{feed_room, feed_extracted, feed_ready, feed_figures_fit, feed_done}

-- ---- blocks

-- where no dimension is 0, there are lines
some_lines : (ds : List ℕ) → has_zero ds ≡ false → 0 < size ds
unfolding has_zero size
some_lines [] h = omega arith
some_lines (d ∷ ds) h = go (eqb d 0) refl h (some_lines ds)
  where
    go : (b : Bool) → eqb d 0 ≡ b → (b || has_zero ds) ≡ false → (has_zero ds ≡ false → 0 < size ds) → 0 < d * size ds
    go true e z i = absurd (true≢false z)
    go false e z i =
        let ne = eqb-false d 0 e in
        let p = i z in
        omega (arith, mul-le-mul_right {m = 1} {n = d} (size ds) (omega arith))

-- and a block has some
pub block_some : (L B : ℕ) → 0 < L → 0 < block_lines L B
unfolding block_lines
block_some L B pos = go (leb 1 (block_lines L B)) refl
  where
    c : ℕ
    c = min (max B 1) L

    some : 0 < c
    some = omega arith

    go : (t : Bool) → leb 1 (block_lines L B) ≡ t → 0 < (L + c - 1) / c
    go true e = unfold block_lines in leb-true 1 ((L + c - 1) / c) e
    go false e =
        unfold block_lines in
        let l : L + c - 1 < 1 * c = (div-lt_iff_lt-mul some).0 (leb-false 1 ((L + c - 1) / c) e) in
        absurd (omega arith)

-- ---- the structure as a record holds it

-- an array filled up with 0 reads as the list
padded_at : (n : ℕ) (l : List ℕ) (i : ℕ) → i < length l → get_or (padded n l) i 0 ≡ get_or l i 0
unfolding padded
padded_at n l i h = get_or-append l (replicate (n - length l) 0) 0 i h

-- so the geometry of a lent structure is that of the opening's record
pub record_geo : (shape structure : List ℕ) (g : Geo) (memory : ℕ) → Allowed shape structure memory
    → GeoOf (length shape) (padded 4 shape) structure g → GeoOf (length shape) (padded 4 shape) (padded 81 structure) g
record_geo shape structure g memory A K = record {
  rank_is = K.rank_is;
  leading_is = K.leading_is;
  three = K.three;
  lines_is = K.lines_is;
  width_is = K.width_is;
  left_is = K.left_is ∙ ap (left_on (entries (length shape) (padded 4 shape))) (lent ∙ sym held);
}
  where
    lent : entries (3 ^ length shape) structure ≡ structure
    lent = entries_all (3 ^ length shape) structure A.bytes

    held : entries (3 ^ length shape) (padded 81 structure) ≡ structure
    held = ap (λ (n : ℕ). entries n (padded 81 structure)) (sym A.bytes) ∙ entries_padded 81 structure

-- ---- a frame that is opened

-- its arguments, its geometry, and the words of its opening
pub record Opened {A : Type 0} (shape structure : List ℕ) (cells : List A) (g : Geo) (vs : List ℕ) : Type 0 where
  pub allowed : Allowed shape structure (length vs)
  pub is_sound : Sound (open_record shape structure) vs
  pub geometry : GeoOf (length shape) (padded 4 shape) structure g
  pub whole : length cells ≡ size shape

module _ {A : Type 0} {shape structure : List ℕ} {cells : List A} {g : Geo} {vs : List ℕ} (O : Opened shape structure cells g vs) where
  abbrev K : GeoOf (length shape) (padded 4 shape) structure g
  K = O.geometry

  shape₀ : shape_of (open_record shape structure) ≡ shape
  shape₀ = opened_shape shape structure vs O.allowed

  lines_are : g.lines ≡ lines shape
  lines_are = K.lines_is ∙ ap lines (entries_padded 4 shape)

  width_is : g.width ≡ width shape
  width_is = K.width_is ∙ ap width (entries_padded 4 shape)

  cells_are : length cells ≡ g.lines * g.width
  cells_are = O.whole ∙ size_lines_lem shape ∙ sym (ap₂ ◌*◌ lines_are width_is)

  lines₀ : g.lines ≡ lines_of (open_record shape structure)
  lines₀ = lines_are ∙ ap lines (sym shape₀)

  width₀ : g.width ≡ width (shape_of (open_record shape structure))
  width₀ = width_is ∙ ap width (sym shape₀)

  pub all_lines : (0 < g.lines) × (g.lines < 4294967293)
  all_lines = (
    omega (arith, lines_are, some_lines (leading shape) O.allowed.dimensions),
    omega (arith, lines_are, (within_limits shape O.allowed.limits).1),
  )

  -- the geometry is the record's
  geo₀ : GeoOf (length shape) (padded 4 shape) (padded 81 structure) g
  geo₀ = record_geo shape structure g (length vs) O.allowed K

  long₀ : 3 ^ length shape ≤ length (padded 81 structure)
  unfolding padded
  long₀ = omega (arith, O.allowed.bytes, length-append structure (replicate (81 - length structure) 0))

  -- and so are the touches
  united₀ : {ws₁ ws₂ : List ℕ} {fed k t : ℕ} → BlockUnited g.leads g.dims g.lines structure ws₁ ws₂ fed k t
      → BlockUnited g.leads g.dims g.lines (padded 81 structure) ws₁ ws₂ fed k t
  united₀ {ws₁ = ws₁} {fed = fed} {k = k} U = record {
    long = U.long;
    others = U.others;
    parents = U.parents;
    grouped = λ r h. rw (← same) (U.grouped r h);
    counted = rw (← same) U.counted;
    sized = U.sized;
    no_lines = U.no_lines;
  }
    where
      rank_leading : length shape ≡ suc (length (drop (3 - g.leads) g.dims))
      rank_leading =
          length_leading shape (rank_right shape O.allowed.ranked).0
          ∙ ap (λ (ds : List ℕ). suc (length ds)) (sym (K.leading_is ∙ ap leading (entries_padded 4 shape)))

      same : touches_from g.leads g.dims g.lines structure ws₁ fed k
          ≡ touches_from g.leads g.dims g.lines (padded 81 structure) ws₁ fed k
      same =
          touches_bytes (drop (3 - g.leads) g.dims) structure (padded 81 structure) (line_start ws₁) (stored_run g.lines ws₁)
          (λ c h. sym (padded_at 81 structure c (rw (O.allowed.bytes, rank_leading) h))) fed k

-- ---- some lines are fed

-- as one feed of them
pub record FedSoFar {A : Type 0} (f : A → Bool) (shape structure : List ℕ) (cells : List A) (g : Geo) (vs now : List ℕ) (fed : ℕ)
    (figures : Figures) : Type 0 where
  pub opened : Opened shape structure cells g vs
  pub within : fed ≤ g.lines
  pub one : OneFeed (open_record shape structure) vs fed (map f (take (fed * g.width) cells))
      (with_figures (open_record shape structure) fed figures) now

-- no line yet
pub all_begin : {A : Type 0} (f : A → Bool) {shape structure : List ℕ} {cells : List A} {g : Geo} {vs : List ℕ}
    → Opened shape structure cells g vs → {figures : Figures} → figures ≡ zero_figures → FedSoFar f shape structure cells g vs vs 0 figures
all_begin f {shape = shape} {structure = structure} {g = g} {vs = vs} O is =
    rw is (record { opened = O; within = omega arith; one = rw (zero-mul g.width) no_lines })
  where
    s : Session
    s = open_record shape structure

    G : FeedAccepted s vs 0 []
    G = record { is_sound = O.is_sound; few = omega arith; whole = sym (zero-mul (width (shape_of s))) }

    no_lines : OneFeed s vs 0 [] s vs
    no_lines = record { whole = G.whole; session = sym (record_none s vs [] G); words = words_none s vs [] G }

module _ {A : Type 0} {f : A → Bool} {shape structure : List ℕ} {cells : List A} {g : Geo} {vs now : List ℕ} {fed : ℕ} {figures : Figures}
    (I : FedSoFar f shape structure cells g vs now fed figures) where
  abbrev w : ℕ
  w = g.width

  abbrev L : ℕ
  L = g.lines

  -- the record of the opening, and with the figures so far
  abbrev s₀ : Session
  s₀ = open_record shape structure

  abbrev s : Session
  s = with_figures s₀ fed figures

  few₀ : fed ≤ lines_of s₀ - s₀.fed
  few₀ = omega (arith, I.within, lines₀ I.opened)

  S : Sound s now
  S = between_sound s₀ vs I.opened.is_sound fed (map f (take (fed * w) cells)) s now few₀ I.one

  -- all lines are fed
  pub all_end : L ≤ fed → FeedDone s₀ vs (lines shape) (map f cells) (with_figures s₀ L figures) now
  all_end h = record {
    session = subst (λ (n : ℕ). with_figures s₀ L figures ≡ feed_record s₀ vs n (map f cells)) (lines_are I.opened) all.session;
    words = subst (λ (n : ℕ). FeedWords s₀ vs n (map f cells) now) (lines_are I.opened) all.words;
  }
    where
      last : fed ≡ L
      last = omega (arith, h, I.within)

      all : OneFeed s₀ vs L (map f cells) (with_figures s₀ L figures) now
      all =
          let enough : length cells ≤ L * w = omega (arith, cells_are I.opened) in
          subst (λ (cs : List A). OneFeed s₀ vs L (map f cs) (with_figures s₀ L figures) now) (take_all (L * w) cells enough)
          (subst (λ (n : ℕ). OneFeed s₀ vs n (map f (take (n * w) cells)) (with_figures s₀ n figures) now) last I.one)

  -- and then k more
  module _ (k most : ℕ) (least : k ≡ min most (L - fed)) where
    below : fed + k ≤ L
    below = omega (arith, least, I.within)

    -- a block has lines, so that fewer are left
    pub all_less : (B : ℕ) → most ≡ block_lines L B → fed < L → L - (fed + k) < L - fed
    all_less B e h = omega (arith, least, e, h, block_some L B (all_lines I.opened).0)

    -- their cells, as they are lent
    abbrev more : List Bool
    more = map f (mid_of (fed * w) (fed * w + k * w - fed * w) cells)

    pub all_cells : fed * w + k * w ≤ length cells
    all_cells = omega (arith, cells_are I.opened, add-mul fed k w, mul-le-mul_right {m = fed + k} {n = L} w below)

    pub all_fits : fed + k < 4294967293
    all_fits = omega (arith, below, (all_lines I.opened).1)

    length_more : length more ≡ k * w
    length_more =
        length-map (mid_of (fed * w) (fed * w + k * w - fed * w) cells) f
        ∙ simp (length-take, length-drop) (omega (arith, all_cells))

    G₁ : FeedAccepted s now k more
    unfolding shape_of
    G₁ = record {
      is_sound = S;
      few = omega (arith, below, lines₀ I.opened);
      whole = length_more ∙ ap (λ (n : ℕ). k * n) (width₀ I.opened);
    }

    pub all_room : RoomFor g fed figures.runs k more now
    all_room = feed_room s now k more G₁ g (geo₀ I.opened)

    module _ {ws₁ : List ℕ} {c : Counts} (B : Extracts g fed figures.runs k more now ws₁ c) where
      X : FeedExtracted s now k more g ws₁ c
      X = feed_extracted s now k more G₁ g (geo₀ I.opened) ws₁ c B

      pub all_ready : BlockReady g.leads g.dims L structure ws₁ fed k
      all_ready =
          let R = feed_ready s now k more g ws₁ c X (long₀ I.opened) in
          record {
            leading = R.leading;
            bytes = rw (← I.opened.geometry.rank_is) (omega (arith, I.opened.allowed.bytes));
            within = R.within;
            room = R.room;
            sorted = R.sorted;
            parents = R.parents;
            small = R.small;
          }

      module _ {ws₂ : List ℕ} {t : ℕ} (U : BlockUnited g.leads g.dims L structure ws₁ ws₂ fed k t) where
        pub all_figures : FiguresFit figures (record { runs = c.runs; joins = t; cells = c.cells })
        all_figures = feed_figures_fit s now k more g ws₁ c X (long₀ I.opened) ws₂ t (united₀ I.opened U)

        parts : map f (take (fed * w) cells) ++ more ≡ map f (take ((fed + k) * w) cells)
        parts =
            let e : fed * w + k * w - fed * w ≡ k * w = omega arith in
            sym (map-append f (take (fed * w) cells) (mid_of (fed * w) (fed * w + k * w - fed * w) cells))
            ∙ ap (λ (m : ℕ). map f (take (fed * w) cells ++ take m (drop (fed * w) cells))) e
            ∙ ap (map f) (sym (take-add (fed * w) (k * w) cells) ∙ ap (λ (m : ℕ). take m cells) (sym (add-mul fed k w)))

        pub all_then : {figures₂ : Figures} → figures₂ ≡ plus_figures figures (record { runs = c.runs; joins = t; cells = c.cells })
            → FedSoFar f shape structure cells g vs ws₂ (fed + k) figures₂
        all_then {figures₂} is = record {
          opened = I.opened;
          within = below;
          one = subst (λ (cs : List Bool). OneFeed s₀ vs (fed + k) cs s₂ ws₂) parts
              (one_more s₀ vs I.opened.is_sound fed (map f (take (fed * w) cells)) s now few₀ I.one k more s₂ ws₂
              (omega (arith, below, lines₀ I.opened)) (record { whole = G₁.whole; session = D.session; words = D.words }));
        }
          where
            s₂ : Session
            s₂ = with_figures s₀ (fed + k) figures₂

            D : FeedDone s now k more s₂ ws₂
            D = feed_done s now k more g ws₁ c X (long₀ I.opened) ws₂ t (united₀ I.opened U) is

-- ---- the same in steps of a block, of which the last may be too large

-- all lines, where as many would be too many
abbrev pub FedUpTo : {A : Type 0} → (A → Bool) → List ℕ → List ℕ → List A → Geo → List ℕ → List ℕ → ℕ → Figures → Type 0
FedUpTo f shape structure cells g vs now fed figures = FedSoFar f shape structure cells g vs now (min fed g.lines) figures

module _ {A : Type 0} {f : A → Bool} {shape structure : List ℕ} {cells : List A} {g : Geo} {vs : List ℕ} where
  pub step_begin : Opened shape structure cells g vs → {figures : Figures} → figures ≡ zero_figures
      → FedUpTo f shape structure cells g vs vs 0 figures
  step_begin O {figures} is = subst (λ (n : ℕ). FedSoFar f shape structure cells g vs vs n figures) (omega arith) (all_begin f O is)

  -- a line is left
  module _ {now : List ℕ} {fed : ℕ} {figures : Figures} (J : FedUpTo f shape structure cells g vs now fed figures) (left : fed < g.lines) where
    pub so_far : FedSoFar f shape structure cells g vs now fed figures
    so_far = subst (λ (n : ℕ). FedSoFar f shape structure cells g vs now n figures) (omega (arith, left)) J

    pub step_less : (most B : ℕ) → most ≡ block_lines g.lines B → g.lines - (fed + most) < g.lines - fed
    step_less most B e = omega (arith, left, e, block_some g.lines B (all_lines so_far.opened).0)

    -- so k lines more, those that are left of a block, are a block more
    pub step_then : (k most : ℕ) → k ≡ min most (g.lines - fed) → {now₂ : List ℕ} {figures₂ : Figures}
        → FedSoFar f shape structure cells g vs now₂ (fed + k) figures₂ → FedUpTo f shape structure cells g vs now₂ (fed + most) figures₂
    step_then k most least {now₂} {figures₂} J₂ =
        subst (λ (n : ℕ). FedSoFar f shape structure cells g vs now₂ n figures₂) (omega (arith, least, left)) J₂
