-- Feeds one after the other are one feed of all their lines.
-- Assumes nothing.
use mathlib.Core.Path.{◌≡◌, refl, sym, ap, ap₂, ◌∙◌, subst, fun_ext}
use mathlib.Core.Logic.{◌⊎◌, inl, inr}
use mathlib.Core.Bool.{Bool, true, false, cond}
use mathlib.Core.List.Memᴰ
use mathlib.Core.List.{List, [], ◌++◌, append_assoc, Memᴰ, ◌∷◌}
use Prim.Native.Nat.{ℕ, ◌+◌, ◌-◌, ◌*◌, ◌≤◌, ◌<◌, min, suc, max, ◌/◌, zero}
use native.Mathlib.Nat.{le_refl, add_assoc, add-mul, zero-mul, suc-mul, mul_comm, mul-le-mul_right, div-lt_iff_lt-mul}
use native.Mathlib.Omega.{arith}
use borrow.Author.Tests.{leb-true, leb-false}
use lib.Dec.{leb, ltb}
use lib.ListN.{length, length-append}
use Rattle.groups.specs.Groups.{Edge, rep, group_sum, joins, visit}
use Rattle.groups.proofs.VisitLaws.{visit_append, rep_over, joins_over, rep_still}
use Rattle.frame.specs.Shape.{width, leading}
use Rattle.frame.specs.Runs.{nonzero_cells, Run, run_length, runs_before, frame_run}
use Rattle.frame.specs.Touches.{frame_touches}
use Rattle.frame.specs.Memory.{words_needed}
use Rattle.frame.specs.Plain.{Answer}
use Rattle.frame.specs.Words.{end_place, parent_of, size_word}
use Rattle.frame.specs.Lists.{sum}
use Rattle.frame.proofs.TouchLaws.{touches_split}
use Rattle.frame.proofs.CellLaws.{cells_append}
use Rattle.frame.proofs.GrowLaws.{run_stays, touches_stay}
use Rattle.frame.proofs.PlainLaws.{figures_same}
use Rattle.forest.specs.Forest.{root_of, own, brought}
use Rattle.forest.proofs.ForestLaws.{grouping_rep, grouping_rep_all, grouping_joins}
use Rattle.forest.proofs.SizeLaws.{brought_new, brought_over}
use Rattle.label.specs.declared.Session.{Session}
use Rattle.label.specs.Record.{shape_of, structure_of, lines_of, with_figures}
use Rattle.label.specs.Sound.{Sound}
use Rattle.label.specs.Held.{cells_of, grouping_of}
use Rattle.label.specs.Feeding.{runs_after, run_after, feed_brings, feed_touches, feed_edges, size_after, figures_after, feed_record}
use Rattle.label.specs.Feeding.{FeedWords, FeedPromise}
use Rattle.label.specs.WholeFrame.{chop, block_lines, blocks, Fills, no_more, block}
use Rattle.label.specs.Steps.{FeedAccepted}
use Rattle.label.proofs.AcceptedLaws.{accepted_cause, accepted_session}
use Rattle.label.proofs.StoreLaws.{Stores}
use Rattle.label.proofs.SoundCells.{sound_stores}
use Rattle.label.proofs.FeedWordLaws.{Aside, Wrote, wrote_others}
use Rattle.label.proofs.FeedLaws.{feed_shape, fits_all, runs_after_lem, start_after_lem, run_after_lem, touches_after, room, room_lines, written}
use Rattle.label.proofs.FeedLaws.{stores_after, edges_ends, joins_after}
use Rattle.label.proofs.FeedSizeLaws.{fed_sums, sound_after}
use Rattle.label.proofs.FeedNoneLaws.{words_none, record_none}

-- two feeds that are accepted: k lines of a sound record, and then j lines
module _ (s : Session) (ws : List ℕ) (S : Sound s ws) (k : ℕ) (more : List Bool) (few : k ≤ lines_of s - s.fed)
    (whole : length more ≡ k * width (shape_of s)) (ws₁ : List ℕ) (W : FeedWords s ws k more ws₁)
    (j : ℕ) (rest : List Bool) (fits : s.fed + k + j ≤ lines_of s) (whole₁ : length rest ≡ j * width (shape_of s)) (ws₂ : List ℕ)
    (W₁ : FeedWords (feed_record s ws k more) ws₁ j rest ws₂) where
  abbrev shape : List ℕ
  shape = shape_of s

  abbrev structure : List ℕ
  structure = structure_of s

  abbrev cells : List Bool
  cells = cells_of s ws

  abbrev L : ℕ
  L = lines_of s

  -- the record between the two
  abbrev s₁ : Session
  s₁ = feed_record s ws k more

  H : Stores s ws cells
  H = sound_stores s ws S

  H₁ : Stores s₁ ws₁ (cells ++ more)
  H₁ = stores_after s ws cells H k more few whole S.shape.memory ws₁ W

  -- what the second feed is given, said of the first one's record
  few₁ : j ≤ lines_of s₁ - s₁.fed
  unfolding feed_record shape_of
  few₁ = omega arith

  whole_s₁ : length rest ≡ j * width (shape_of s₁)
  unfolding feed_record shape_of
  whole_s₁ = whole₁

  memory₁ : words_needed (shape_of s₁) (structure_of s₁) ≤ length ws₁
  unfolding feed_record shape_of structure_of
  memory₁ = rw W.long S.shape.memory

  few_both : k + j ≤ L - s.fed
  few_both = omega arith

  whole_both : length (more ++ rest) ≡ (k + j) * width shape
  whole_both = length-append more rest ∙ ap₂ ◌+◌ whole whole₁ ∙ sym (add-mul k j (width shape))

  -- ---- runs

  lines_are : s.fed + k + j ≡ s.fed + (k + j)
  lines_are = add_assoc s.fed k j

  cells_are : (cells ++ more) ++ rest ≡ cells ++ (more ++ rest)
  cells_are = append_assoc cells more rest

  pub runs_both : runs_after s₁ rest ≡ runs_after s (more ++ rest)
  unfolding feed_record shape_of structure_of
  runs_both =
      runs_after_lem s₁ ws₁ (cells ++ more) H₁ j rest few₁ whole_s₁
      ∙ ap₂ (λ (c : List Bool) (m : ℕ). runs_before shape structure c m) cells_are lines_are
      ∙ sym (runs_after_lem s ws cells H (k + j) (more ++ rest) few_both whole_both)

  H₂ : Stores (feed_record s₁ ws₁ j rest) ws₂ ((cells ++ more) ++ rest)
  H₂ = stores_after s₁ ws₁ (cells ++ more) H₁ j rest few₁ whole_s₁ memory₁ ws₂ W₁

  -- ---- the grouping

  touches_both : feed_touches s ws (k + j) (more ++ rest) ≡ feed_touches s ws k more ++ feed_touches s₁ ws₁ j rest
  unfolding feed_record shape_of structure_of
  touches_both =
      touches_after s ws cells H (k + j) (more ++ rest) few_both whole_both
      ∙ ap (λ (c : List Bool). frame_touches shape structure c s.fed (k + j)) (sym cells_are)
      ∙ touches_split (leading shape) structure (runs_before shape structure ((cells ++ more) ++ rest))
      (frame_run shape structure ((cells ++ more) ++ rest)) s.fed k j
      ∙ ap₂ (λ (x : List Edge) (y : List Edge). x ++ y)
      (touches_stay shape structure (cells ++ more) rest (s.fed + k) (fits_all s ws cells H k more few whole) s.fed k
      (le_refl (s.fed + k)) ∙ sym (touches_after s ws cells H k more few whole))
      (sym (touches_after s₁ ws₁ (cells ++ more) H₁ j rest few₁ whole_s₁))

  edges_both : feed_edges s ws (k + j) (more ++ rest) ≡ visit (feed_touches s₁ ws₁ j rest) (feed_edges s ws k more)
  unfolding feed_edges
  edges_both =
      ap (λ (es : List Edge). visit es (grouping_of s ws)) touches_both
      ∙ visit_append (feed_touches s ws k more) (feed_touches s₁ ws₁ j rest) (grouping_of s ws)

  -- the grouping that the first feed left is that of its edges
  between : (a : ℕ) → rep (grouping_of s₁ ws₁) a ≡ rep (feed_edges s ws k more) a
  unfolding feed_record shape_of
  between = grouping_rep_all (parent_of L ws₁) (runs_after s more) W.parents (feed_edges s ws k more)
      (edges_ends s ws cells H k more few whole S.shape.memory ws₁ W S.words.parents) W.grouped

  -- so the second feed's edges group as those of one feed
  second : feed_edges s₁ ws₁ j rest ≡ visit (feed_touches s₁ ws₁ j rest) (grouping_of s₁ ws₁)
  unfolding feed_edges
  second = refl

  rep_both : (a : ℕ) → rep (feed_edges s₁ ws₁ j rest) a ≡ rep (feed_edges s ws (k + j) (more ++ rest)) a
  rep_both a =
      ap (λ (es : List Edge). rep es a) second
      ∙ rep_over (feed_touches s₁ ws₁ j rest) (grouping_of s₁ ws₁) (feed_edges s ws k more) between a
      ∙ ap (λ (es : List Edge). rep es a) (sym edges_both)

  -- the joins counted by the first feed are those of the grouping that it left
  joins_between : joins (grouping_of s₁ ws₁) ≡ joins (feed_edges s ws k more)
  unfolding feed_record shape_of
  joins_between =
      grouping_joins (parent_of L ws₁) (runs_after s more) W.parents
      ∙ sym (joins_after s ws cells H k more few whole S.shape.memory ws₁ W S.words.parents)

  joins_both : joins (feed_edges s₁ ws₁ j rest) ≡ joins (feed_edges s ws (k + j) (more ++ rest))
  joins_both =
      let o = joins_over (feed_touches s₁ ws₁ j rest) (grouping_of s₁ ws₁) (feed_edges s ws k more) between in
      omega (arith, ap joins second, ap joins edges_both, joins_between)

  cells_both : (feed_record s ws k more).figures.cells + nonzero_cells rest ≡ s.figures.cells + nonzero_cells (more ++ rest)
  unfolding feed_record
  cells_both = omega (arith, cells_append more rest)

  -- ---- the record

  pub record_both : feed_record (feed_record s ws k more) ws₁ j rest ≡ feed_record s ws (k + j) (more ++ rest)
  record_both = first ∙ ap₂ (with_figures s) lines_are figures_both ∙ last
    where
      figures_both : figures_after s₁ ws₁ j rest ≡ figures_after s ws (k + j) (more ++ rest)
      figures_both = figures_same runs_both joins_both cells_both

      first : feed_record s₁ ws₁ j rest ≡ with_figures s (s.fed + k + j) (figures_after s₁ ws₁ j rest)
      first = unfold feed_record in refl

      last : with_figures s (s.fed + (k + j)) (figures_after s ws (k + j) (more ++ rest)) ≡ feed_record s ws (k + j) (more ++ rest)
      last = unfold feed_record in refl

  -- ---- the words

  below_both : s.fed + (k + j) ≤ L
  below_both = omega arith

  room_both : (r : ℕ) → r < runs_after s (more ++ rest) → end_place L r < length ws
  room_both r h = omega (arith, room s ws cells H (k + j) (more ++ rest) few_both whole_both S.shape.memory r h)

  lines_room : L < length ws
  lines_room = room_lines s ws cells H (k + j) (more ++ rest) few_both whole_both S.shape.memory

  -- the new runs come after those before
  runs_rise : s.figures.runs ≤ runs_after s more
  unfolding runs_after
  runs_rise = omega arith

  runs_rise₁ : runs_after s more ≤ runs_after s₁ rest
  unfolding runs_after feed_record
  runs_rise₁ = omega arith

  of_both : (r : ℕ) → r < runs_after s more → r < runs_after s (more ++ rest)
  of_both r h = omega (arith, runs_both, runs_rise₁)

  -- a place aside of both feeds is aside of each
  aside_first : (x : ℕ) → Aside s (k + j) (more ++ rest) x → Aside s k more x
  aside_first x A = record {
    no_line = λ i h. A.no_line i (omega arith);
    no_start = λ r l h. A.no_start r l (of_both r h);
    no_end = λ r l h. A.no_end r l (of_both r h);
  }

  aside_second : (x : ℕ) → Aside s (k + j) (more ++ rest) x → Aside s₁ j rest x
  unfolding feed_record shape_of
  aside_second x A = record {
    no_line = λ i h q. A.no_line (k + i) (omega arith) (omega (arith, q));
    no_start = λ r l h. A.no_start r (omega (arith, l, runs_rise)) (omega (arith, h, runs_both));
    no_end = λ r l h. A.no_end r (omega (arith, l, runs_rise)) (omega (arith, h, runs_both));
  }

  written_both : Wrote s ws (k + j) (more ++ rest) ws₂
  unfolding feed_record shape_of structure_of
  written_both = record {
    lined =
        λ ℓ h. H₂.starts ℓ (omega arith) ∙ ap (λ (c : List Bool). runs_before shape structure c ℓ) cells_are
        ∙ sym (start_after_lem s ws cells H (k + j) (more ++ rest) few_both whole_both ℓ h);
    ran =
        λ r h. H₂.listed r (rw runs_both h) ∙ ap (λ (c : List Bool). frame_run shape structure c r) cells_are
        ∙ sym (run_after_lem s ws cells H (k + j) (more ++ rest) few_both whole_both r h);
    stands = λ x A free.
        (written s₁ ws₁ (cells ++ more) H₁ j rest few₁ whole_s₁ memory₁ ws₂ W₁).stands x (aside_second x A)
        (λ r h. free r (omega (arith, h, runs_both)))
        ∙ (written s ws cells H k more few whole S.shape.memory ws₁ W).stands x (aside_first x A) (λ r h. free r (of_both r h));
  }

  -- ---- sizes

  -- the runs that both feeds bring are those that one does
  run_both : (r : ℕ) → r < runs_after s₁ rest → run_after s₁ ws₁ rest r ≡ run_after s ws (more ++ rest) r
  unfolding feed_record shape_of structure_of
  run_both r h =
      run_after_lem s₁ ws₁ (cells ++ more) H₁ j rest few₁ whole_s₁ r h ∙ ap (λ (c : List Bool). frame_run shape structure c r) cells_are
      ∙ sym (run_after_lem s ws cells H (k + j) (more ++ rest) few_both whole_both r (omega (arith, h, runs_both)))

  run_first : (r : ℕ) → r < runs_after s more → run_after s ws (more ++ rest) r ≡ run_after s ws more r
  run_first r h =
      run_after_lem s ws cells H (k + j) (more ++ rest) few_both whole_both r (of_both r h)
      ∙ ap (λ (c : List Bool). frame_run shape structure c r) (sym cells_are)
      ∙ run_stays shape structure (cells ++ more) rest (s.fed + k) (fits_all s ws cells H k more few whole) r
      (rw (runs_after_lem s ws cells H k more few whole) at h)
      ∙ sym (run_after_lem s ws cells H k more few whole r h)

  brings_first : (r : ℕ) → r < runs_after s more → feed_brings s ws (more ++ rest) r ≡ feed_brings s ws more r
  unfolding feed_brings brought
  brings_first r h = ap (λ (u : Run). cond (ltb r s.figures.runs) (cond (own (parent_of L ws) r) (size_word L ws r) 0) (run_length u))
      (run_first r h)

  brings_second : (r : ℕ) → runs_after s more ≤ r → r < runs_after s₁ rest
      → feed_brings s ws (more ++ rest) r ≡ run_length (run_after s₁ ws₁ rest r)
  unfolding feed_brings
  brings_second r l h =
      brought_new s.figures.runs (parent_of L ws) (size_word L ws) (λ q. run_length (run_after s ws (more ++ rest) q)) r
      (omega (arith, l, runs_rise)) ∙ ap run_length (sym (run_both r h))

  -- a run and its root after the first feed have one root after the second
  coarser : (r : ℕ) → r < runs_after s more → rep (feed_edges s₁ ws₁ j rest) (root_of (parent_of L ws₁) r) ≡ rep (feed_edges s₁ ws₁ j rest) r
  unfolding feed_edges feed_record shape_of
  coarser r h =
      ap (rep (feed_edges s₁ ws₁ j rest)) (sym (grouping_rep (parent_of L ws₁) (runs_after s more) W.parents r h))
      ∙ rep_still (feed_touches s₁ ws₁ j rest) (grouping_of s₁ ws₁) r

  size_both : (r : ℕ) → size_after s₁ ws₁ j rest r ≡ size_after s ws (k + j) (more ++ rest) r
  unfolding size_after
  size_both r =
      over ∙ ap (λ (n : ℕ). group_sum (rep (feed_edges s₁ ws₁ j rest)) (feed_brings s ws (more ++ rest)) n r) runs_both
      ∙ ap (λ (f : ℕ → ℕ). group_sum f (feed_brings s ws (more ++ rest)) (runs_after s (more ++ rest)) r) (fun_ext rep_both)
    where
      over : group_sum (rep (feed_edges s₁ ws₁ j rest)) (feed_brings s₁ ws₁ rest) (runs_after s₁ rest) r
          ≡ group_sum (rep (feed_edges s₁ ws₁ j rest)) (feed_brings s ws (more ++ rest)) (runs_after s₁ rest) r
      over = unfold feed_brings feed_record shape_of in
          brought_over (runs_after s more) (parent_of L ws₁) (size_word L ws₁) (λ q. run_length (run_after s₁ ws₁ rest q)) (runs_after s₁ rest)
          runs_rise₁ W.parents (rep (feed_edges s₁ ws₁ j rest)) (feed_brings s ws more) (feed_brings s ws (more ++ rest)) coarser
          (fed_sums s ws k more ws₁ W) brings_first brings_second r

  pub words_both : FeedWords s ws (k + j) (more ++ rest) ws₂
  unfolding feed_record shape_of
  words_both = record {
    long = W₁.long ∙ W.long;
    others = wrote_others s ws (k + j) (more ++ rest) below_both room_both lines_room ws₂ written_both;
    parents = λ r h. W₁.parents r (omega (arith, h, runs_both));
    grouped = λ r h. W₁.grouped r (omega (arith, h, runs_both)) ∙ rep_both r;
    sized = λ r h e. W₁.sized r (omega (arith, h, runs_both)) (rep_both r ∙ e) ∙ size_both r;
    no_lines = λ e. W₁.no_lines (omega arith) ∙ W.no_lines (omega arith);
  }

-- ---- blocks that add up

-- what a list of blocks leaves is what one feed of all their lines does
pub record OneFeed (s : Session) (ws : List ℕ) (k : ℕ) (cells : List Bool) (s' : Session) (ws' : List ℕ) : Type 0 where
  pub whole : length cells ≡ k * width (shape_of s)
  pub session : s' ≡ feed_record s ws k cells
  pub words : FeedWords s ws k cells ws'

pub one_feed : (s : Session) (ws : List ℕ) (k : ℕ) (cells : List Bool) (a : Answer) (s' : Session) (ws' : List ℕ)
    → FeedAccepted s ws k cells
    → FeedPromise s ws k cells a s' ws' → OneFeed s ws k cells s' ws'
one_feed s ws k cells a s' ws' G P =
    record { whole = G.whole; session = accepted_session s ws k cells G a s' ws' P; words = P.accepted (accepted_cause s ws k cells G) }

-- a block, and those after it
module _ (s : Session) (ws : List ℕ) (S : Sound s ws) (k : ℕ) (more : List Bool) (s₁ : Session) (ws₁ : List ℕ)
    (few : k ≤ lines_of s - s.fed) (O : OneFeed s ws k more s₁ ws₁) where
  pub between_sound : Sound s₁ ws₁
  between_sound = subst (λ (x : Session). Sound x ws₁) (sym O.session)
      (sound_after s ws (cells_of s ws) (sound_stores s ws S) k more few O.whole S ws₁ O.words)

  pub between_shape : shape_of s₁ ≡ shape_of s
  between_shape = ap shape_of O.session ∙ feed_shape s ws k more

  pub between_fed : s₁.fed ≡ s.fed + k
  between_fed = ap (λ (x : Session). x.fed) O.session ∙ (unfold feed_record in refl)

  pub one_more : (j : ℕ) (rest : List Bool) (s₂ : Session) (ws₂ : List ℕ) → s.fed + k + j ≤ lines_of s → OneFeed s₁ ws₁ j rest s₂ ws₂
      → OneFeed s ws (k + j) (more ++ rest) s₂ ws₂
  one_more j rest s₂ ws₂ fits Q =
      let N : OneFeed (feed_record s ws k more) ws₁ j rest s₂ ws₂ = subst (λ (x : Session). OneFeed x ws₁ j rest s₂ ws₂) O.session Q in
      let whole : length rest ≡ j * width (shape_of s) = N.whole ∙ ap (λ (d : List ℕ). j * width d) (feed_shape s ws k more) in
      record {
        whole = length-append more rest ∙ ap₂ ◌+◌ O.whole whole ∙ sym (add-mul k j (width (shape_of s)));
        session = N.session ∙ record_both s ws S k more few O.whole ws₁ O.words j rest fits whole ws₂ N.words;
        words = words_both s ws S k more few O.whole ws₁ O.words j rest fits whole ws₂ N.words;
      }

pub fills_feed : {w : ℕ} {s s' : Session} {ws ws' ks : List ℕ} {cells : List Bool} → Fills w s ws ks cells s' ws' → Sound s ws
    → w ≡ width (shape_of s)
    → s.fed + sum ks ≤ lines_of s → OneFeed s ws (sum ks) cells s' ws'
unfolding sum
fills_feed (no_more {s = s} {ws = ws}) S e h =
    let none : FeedAccepted s ws 0 [] = record { is_sound = S; few = omega arith; whole = sym (zero-mul (width (shape_of s))) } in
    record { whole = none.whole; session = sym (record_none s ws [] none); words = words_none s ws [] none }
fills_feed (block {s = s} {s' = s₁} {s'' = s₂} {ws = ws} {ws' = ws₁} {ws'' = ws₂} {k = k} {ks = ks} {cells = more} {rest = rest} {a = a} whole
    P F) S e h =
    let few : k ≤ lines_of s - s.fed = omega arith in
    let O = one_feed s ws k more a s₁ ws₁ (record { is_sound = S; few = few; whole = whole ∙ ap (λ (w : ℕ). k * w) e }) P in
    let d = between_shape s ws S k more s₁ ws₁ few O in
    one_more s ws S k more s₁ ws₁ few O (sum ks) rest s₂ ws₂ (omega arith)
    (fills_feed F (between_sound s ws S k more s₁ ws₁ few O) (e ∙ ap width (sym d)) (rw d (omega (
      arith,
      between_fed s ws S k more s₁ ws₁ few O,
    ))))

-- ---- the blocks of a whole frame

pub sum_chop : (m b L : ℕ) → sum (chop m b L) ≡ L
unfolding sum chop
sum_chop zero b L = omega arith
sum_chop (suc m) b L = go (leb L b) refl (sum_chop m b (L - b))
  where
    go : (t : Bool) → leb L b ≡ t → sum (chop m b (L - b)) ≡ L - b → sum (cond t (L ∷ []) (b ∷ chop m b (L - b))) ≡ L
    go true e i = unfold sum in omega arith
    go false e i = let l = leb-false L b e in unfold sum in omega (arith, i)

pub sum_blocks : (L B : ℕ) → sum (blocks L B) ≡ L
unfolding blocks
sum_blocks L B = sum_chop L (block_lines L B) L

-- no block is above ⌈L/B⌉ lines
chop_most : (m b L : ℕ) → L ≤ m * b → (k : ℕ) → Memᴰ k (chop m b L) → k ≤ b
unfolding chop
chop_most zero b L h k i = let e = Memᴰ.eq_of_singleton i in omega (arith, zero-mul b, e)
chop_most (suc m) b L h k i = go (leb L b) refl i (chop_most m b (L - b) (omega (arith, suc-mul m b)) k)
  where
    first : (k ≡ b) ⊎ Memᴰ k (chop m b (L - b)) → (Memᴰ k (chop m b (L - b)) → k ≤ b) → k ≤ b
    first (inl e) below = omega (arith, e)
    first (inr j) below = below j

    go : (t : Bool) → leb L b ≡ t → Memᴰ k (cond t (L ∷ []) (b ∷ chop m b (L - b))) → (Memᴰ k (chop m b (L - b)) → k ≤ b) → k ≤ b
    go true e j below = let q = Memᴰ.eq_of_singleton j in omega (arith, q, leb-true L b e)
    go false e j below = first (Memᴰ.cases_cons j) below

pub blocks_most : (L B : ℕ) → 0 < L → (k : ℕ) → Memᴰ k (blocks L B) → k ≤ block_lines L B
unfolding blocks block_lines
blocks_most L B pos k = chop_most L b L enough k
  where
    c : ℕ
    c = min (max B 1) L

    b : ℕ
    b = (L + c - 1) / c

    some : 0 < c
    some = omega arith

    full : 1 ≤ b
    full = go (leb 1 b) refl
      where
        go : (t : Bool) → leb 1 b ≡ t → 1 ≤ b
        go true e = leb-true 1 b e
        go false e = let l : L + c - 1 < 1 * c = (div-lt_iff_lt-mul some).0 (leb-false 1 b e) in absurd (omega arith)

    enough : L ≤ L * b
    enough = omega (arith, mul-le-mul_right L full, mul_comm b L)
