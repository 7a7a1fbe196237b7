-- Each call keeps the invariant, and answers and writes what the plain session does: one lemma for each call.
-- Assumes nothing.
use mathlib.Core.Path.{◌≡◌, refl, sym, ap, ap₂, ◌∙◌, subst}
use mathlib.Core.Bool.{Bool, true}
use mathlib.Core.List.{List, [], ◌++◌}
use Prim.Native.Nat.{ℕ, zero, suc, ◌+◌, ◌<◌}
use native.Mathlib.Nat.{lt_of_le_of_lt}
use native.Mathlib.Omega.{arith}
use lib.ListN.{length}
use Rattle.groups.specs.Groups.{Edge, rep, visit}
use Rattle.groups.proofs.RepLaws.{Ends}
use Rattle.groups.proofs.VisitLaws.{ends_visit, rep_still}
use Rattle.frame.specs.Touches.{frame_touches}
use Rattle.frame.specs.Kinds.{Cells, flags, Number, Value}
use Rattle.frame.specs.Plain.{Call, feed, read, sizes, widen, Answer, fed, counted, nothing, numbers, counts, Answered, written, unless}
use Rattle.frame.specs.Plain.{kept, State, feeds, widens, groups_of, figures, cause, answer, answered, changed, next}
use Rattle.frame.specs.Runs.{Run, run_length}
use Rattle.frame.specs.Words.{parent_of, size_word, stored_run}
use Rattle.frame.proofs.RunGroupLaws.{touches_runs}
use Rattle.frame.proofs.GrowLaws.{rep_grow}
use Rattle.frame.proofs.PlainLaws.{unless_same, kept_new, kept_old, kept_same, next_accepted, next_refused, next_stays, widens_opened}
use Rattle.forest.specs.Forest.{root_of, Sums}
use Rattle.forest.proofs.ForestLaws.{root_le, grouping_rep, grouping_rep_all}
use Rattle.forest.proofs.SizeLaws.{sums_same, brought_over}
use Rattle.label.specs.declared.Session.{Session}
use Rattle.label.specs.Record.{shape_of, structure_of, lines_of}
use Rattle.label.specs.Sound.{Sound, sound}
use Rattle.label.specs.Held.{cells_of, grouping_of}
use Rattle.label.specs.Feeding.{runs_after, run_after, feed_brings, feed_touches, feed_edges, feed_record, feed_cause_of}
use Rattle.label.specs.Feeding.{FeedWords, FeedPromise}
use Rattle.label.specs.Widening.{widen_cause_of, widen_record, WidenWords, WidenPromise}
use Rattle.label.specs.Reading.{with_names, counted_of, read_cause_of, ReadPromise, sizes_cause_of, SizesPromise}
use Rattle.label.specs.Steps.{FeedAccepted, WidenAccepted}
use Rattle.label.proofs.SoundLaws.{right_sound}
use Rattle.label.proofs.AcceptedLaws.{cause_accepted, accepted_cause, cause_widens}
use Rattle.label.proofs.StoreLaws.{Stores, stores_cells}
use Rattle.label.proofs.SoundCells.{sound_stores}
use Rattle.label.proofs.FeedLaws.{feed_shape, touches_after, stores_after}
use Rattle.label.proofs.FeedSizeLaws.{run_old, fed_sums, ran_after, sound_after}
use Rattle.label.proofs.NameLaws.{parents_stand, sizes_stand, runs_stand, cells_named, sound_named}
use Rattle.label.proofs.WidenLaws.{reopened, reopened_accepted, reopened_inv, reopened_state, widened_record, widened_words}
use Rattle.label.proofs.Invariant.{state_of, visited, length_of, Inv, inv_runs, inv_n, inv_figures, inv_numbers, inv_sizes}

-- ---- a feed that is accepted

module _ (s : Session) (ws : List ℕ) (I : Inv s ws) (k : ℕ) (more : List Bool) (no_cause : feed_cause_of s ws k more ≡ 0) (ws' : List ℕ)
    (W : FeedWords s ws k more ws') where
  H : Stores s ws (cells_of s ws)
  H = sound_stores s ws I.is_sound

  G : FeedAccepted s ws k more
  G = cause_accepted s ws k more no_cause

  -- the words hold the lines fed before and the new ones
  pub fed_cells : cells_of (feed_record s ws k more) ws' ≡ cells_of s ws ++ more
  fed_cells = stores_cells (feed_record s ws k more) ws' (cells_of s ws ++ more)
      (stores_after s ws (cells_of s ws) H k more G.few G.whole I.is_sound.shape.memory ws' W)

  pub fed_sound : Sound (feed_record s ws k more) ws'
  fed_sound = sound_after s ws (cells_of s ws) H k more G.few G.whole I.is_sound ws' W

  -- the grouping held before is that of the old lines' touches
  before : (a : ℕ) → rep (grouping_of s ws) a ≡ rep (visited s ws) a
  before = grouping_rep_all (parent_of (lines_of s) ws) s.figures.runs I.is_sound.words.parents (visited s ws) ends I.grouped
    where
      touched : Ends (λ r. r < s.figures.runs) (frame_touches (shape_of s) (structure_of s) (cells_of s ws) 0 s.fed)
      touched = subst (λ (n : ℕ). Ends (λ r. r < n) (frame_touches (shape_of s) (structure_of s) (cells_of s ws) 0 s.fed))
          (sym (inv_runs s ws I)) (touches_runs (shape_of s) (structure_of s) (cells_of s ws) s.fed H.fits)

      ends : Ends (λ r. r < s.figures.runs) (visited s ws)
      ends = ends_visit (λ r. r < s.figures.runs) (frame_touches (shape_of s) (structure_of s) (cells_of s ws) 0 s.fed) [] touched tt

  -- so the one held afterwards is that of all lines' touches
  edges_after : (r : ℕ)
      → rep (feed_edges s ws k more) r ≡ rep (visit (frame_touches (shape_of s) (structure_of s) (cells_of s ws ++ more) 0 (s.fed + k)) []) r
  unfolding feed_edges
  edges_after r =
      ap (λ (es : List Edge). rep (visit es (grouping_of s ws)) r) (touches_after s ws (cells_of s ws) H k more G.few G.whole)
      ∙ rep_grow (shape_of s) (structure_of s) (cells_of s ws) more s.fed H.fits k (grouping_of s ws) before r

  -- what the runs bring is, over the new groups, what they have themselves
  sizes_after : Sums (root_of (parent_of (lines_of s) ws')) (size_word (lines_of s) ws') (λ r. run_length (stored_run (lines_of s) ws' r))
      (runs_after s more)
  unfolding feed_brings
  sizes_after r h e = fed_sums s ws k more ws' W r h e ∙ brought_over s.figures.runs (parent_of (lines_of s) ws) (size_word (lines_of s) ws)
      (λ q. run_length (run_after s ws more q)) (runs_after s more) (unfold runs_after in omega arith) I.is_sound.words.parents
      (root_of (parent_of (lines_of s) ws')) (length_of s ws) (λ q. run_length (stored_run (lines_of s) ws' q)) coarser I.sized
      (λ q l. ap run_length (ran q (rise q l) ∙ run_old s ws k more q l)) (λ q l m. ap run_length (ran q m)) r
    where
      ran : (q : ℕ) → q < runs_after s more → stored_run (lines_of s) ws' q ≡ run_after s ws more q
      ran = ran_after s ws (cells_of s ws) H k more G.few G.whole I.is_sound ws' W

      rise : (q : ℕ) → q < s.figures.runs → q < runs_after s more
      rise q l = unfold runs_after in omega arith

      -- a run and its root before have one root now
      coarser : (q : ℕ) → q < s.figures.runs
          → root_of (parent_of (lines_of s) ws') (root_of (parent_of (lines_of s) ws) q) ≡ root_of (parent_of (lines_of s) ws') q
      coarser q l =
          let low = I.is_sound.words.parents in
          let m : root_of (parent_of (lines_of s) ws) q < runs_after s more =
          rise _ (lt_of_le_of_lt (root_le _ s.figures.runs low q l) l) in
          let still : rep (feed_edges s ws k more) (rep (grouping_of s ws) q) ≡ rep (feed_edges s ws k more) q =
          unfold feed_edges in rep_still (feed_touches s ws k more) (grouping_of s ws) q in
          W.grouped _ m ∙ ap (rep (feed_edges s ws k more)) (sym (grouping_rep _ s.figures.runs low q l)) ∙ still
          ∙ sym (W.grouped q (rise q l))

  pub fed_inv : Inv (feed_record s ws k more) ws'
  unfolding feed_record shape_of structure_of
  fed_inv = record {
    is_sound = fed_sound;
    sized = sizes_after;
    grouped =
        λ r h. W.grouped r h ∙ edges_after r
        ∙ ap (λ (cells : List Bool). rep (visit (frame_touches (shape_of s) (structure_of s) cells 0 (s.fed + k)) []) r) (sym fed_cells);
  }

  pub fed_state : state_of (feed_record s ws k more) ws' ≡ feeds (state_of s ws) k more
  unfolding feeds feed_record structure_of
  fed_state = ap (λ (cells : List Bool). record { structure = structure_of s; fed = s.fed + k; cells = cells }) fed_cells

  pub fed_figures : (feed_record s ws k more).figures ≡ figures (shape_of s) (feeds (state_of s ws) k more)
  unfolding feed_record shape_of
  fed_figures = inv_figures (feed_record s ws k more) ws' fed_inv ∙ ap (figures (shape_of s)) fed_state

-- ---- a structure change that is accepted: of a sound record, whatever its origin

pub widened_shape : (s : Session) (ws structure : List ℕ) → shape_of (widen_record s ws structure) ≡ shape_of s
unfolding widen_record shape_of
widened_shape s ws structure = refl

module _ (s : Session) (ws structure : List ℕ) (G : WidenAccepted s ws structure) (ws' : List ℕ) (W : WidenWords s ws structure ws') where
  -- the session opened anew, and then fed the lines held
  abbrev s₀ : Session
  s₀ = reopened s structure

  no_cause : feed_cause_of s₀ ws s.fed (cells_of s ws) ≡ 0
  no_cause = accepted_cause s₀ ws s.fed (cells_of s ws) (reopened_accepted s ws structure G)

  I₀ : Inv s₀ ws
  I₀ = reopened_inv s ws structure G

  W₀ : FeedWords s₀ ws s.fed (cells_of s ws) ws'
  W₀ = widened_words s ws structure G ws' W

  -- the invariant holds, whatever held before
  pub widened_inv : Inv (widen_record s ws structure) ws'
  widened_inv = subst (λ (x : Session). Inv x ws') (widened_record s ws structure G)
      (fed_inv s₀ ws I₀ s.fed (cells_of s ws) no_cause ws' W₀)

  -- the lines stand, and the structure is the new one
  pub widened_state : state_of (widen_record s ws structure) ws' ≡ widens (state_of s ws) structure
  widened_state =
      ap (λ (x : Session). state_of x ws') (sym (widened_record s ws structure G))
      ∙ fed_state s₀ ws I₀ s.fed (cells_of s ws) no_cause ws' W₀
      ∙ ap (λ (p : State). feeds p s.fed (cells_of s ws)) (reopened_state s ws structure G)
      ∙ sym (widens_opened (state_of s ws) structure)

  pub widened_figures : (widen_record s ws structure).figures ≡ figures (shape_of s) (widens (state_of s ws) structure)
  widened_figures =
      inv_figures (widen_record s ws structure) ws' widened_inv
      ∙ ap₂ figures (widened_shape s ws structure) widened_state

-- ---- the calls

-- a call is answered as by the plain session, and leaves a record that holds the next state of it
pub record Follows (s : Session) (ws : List ℕ) (c : Call) (a : Answered) (s' : Session) (ws' : List ℕ) : Type 0 where
  pub same : a ≡ answered (shape_of s) (state_of s ws) c
  pub keeps : Inv s' ws'
  pub shaped : shape_of s' ≡ shape_of s
  pub state : state_of s' ws' ≡ next (shape_of s) (state_of s ws) c

-- what an accepted call leaves that changes the record
record Leaves (s : Session) (ws : List ℕ) (c : Call) (s' : Session) (ws' : List ℕ) : Type 0 where
  keeps : Inv s' ws'
  shaped : shape_of s' ≡ shape_of s
  state : state_of s' ws' ≡ changed (shape_of s) (state_of s ws) c

module _ (s : Session) (ws : List ℕ) (I : Inv s ws) where
  is_sound : sound s ws ≡ true
  is_sound = right_sound s ws I.is_sound

  -- a call that writes no output: d is its cause, and `new` the record where there is none
  changes_follow : (c : Call) (d : ℕ) (a : Answer) (new s' : Session) (ws' : List ℕ) → d ≡ cause (shape_of s) (state_of s ws) c
      → record { said = a; written = nothing } ≡ answered (shape_of s) (state_of s ws) c → s' ≡ kept d s new → (0 < d → ws' ≡ ws)
      → (d ≡ 0 → Leaves s ws c new ws') → Follows s ws c (record { said = a; written = nothing }) s' ws'
  changes_follow c zero a new s' ws' is says session stands goes =
      let G = goes refl in
      subst (λ (x : Session). Follows s ws c (record { said = a; written = nothing }) x ws') (sym (session ∙ kept_new s new 0 refl))
      (record {
        same = says;
        keeps = G.keeps;
        shaped = G.shaped;
        state = G.state ∙ sym (next_accepted (shape_of s) (state_of s ws) c (sym is));
      })
  changes_follow c (suc d) a new s' ws' is says session stands goes =
      subst (λ (x : Session). Follows s ws c (record { said = a; written = nothing }) x ws')
      (sym (session ∙ kept_old s new (suc d) d refl))
      (subst (λ (vs : List ℕ). Follows s ws c (record { said = a; written = nothing }) s vs) (sym (stands (omega arith)))
      (record {
        same = says;
        keeps = I;
        shaped = refl;
        state = sym (next_refused (shape_of s) (state_of s ws) c d (sym is));
      }))

  -- ---- feed

  pub feed_cause_lem : (k : ℕ) (cells : Cells) → feed_cause_of s ws k (flags cells) ≡ cause (shape_of s) (state_of s ws) (feed k cells)
  unfolding feed_cause_of cause
  feed_cause_lem k cells = rw is_sound refl

  feed_said : (k : ℕ) (cells : Cells) (a : Answer) (s' : Session) (ws' : List ℕ) → FeedPromise s ws k (flags cells) a s' ws'
      → a ≡ unless (cause (shape_of s) (state_of s ws) (feed k cells)) (answer (shape_of s) (state_of s ws) (feed k cells))
  unfolding answer
  feed_said k cells a s' ws' P =
      P.said
      ∙ unless_same (feed_cause_of s ws k (flags cells)) _ _ _ (feed_cause_lem k cells)
      (λ e. ap (fed (s.fed + k)) (fed_figures s ws I k (flags cells) e ws' (P.accepted e)))

  pub feed_follows : (k : ℕ) (cells : Cells) (a : Answer) (s' : Session) (ws' : List ℕ) → FeedPromise s ws k (flags cells) a s' ws'
      → Follows s ws (feed k cells) (record { said = a; written = nothing }) s' ws'
  unfolding written changed
  feed_follows k cells a s' ws' P =
      changes_follow (feed k cells) (feed_cause_of s ws k (flags cells)) a (feed_record s ws k (flags cells)) s' ws' (feed_cause_lem k cells)
      (ap (λ (x : Answer). record { said = x; written = nothing }) (feed_said k cells a s' ws' P)) P.session P.refusal
      (λ e. record {
        keeps = fed_inv s ws I k (flags cells) e ws' (P.accepted e);
        shaped = feed_shape s ws k (flags cells);
        state = fed_state s ws I k (flags cells) e ws' (P.accepted e);
      })

  -- ---- structure change

  pub widen_cause_lem : (structure : List ℕ) → widen_cause_of s ws structure ≡ cause (shape_of s) (state_of s ws) (widen structure)
  unfolding widen_cause_of cause
  widen_cause_lem structure = rw is_sound refl

  widen_said : (structure : List ℕ) (a : Answer) (s' : Session) (ws' : List ℕ) → WidenPromise s ws structure a s' ws'
      → a ≡ unless (cause (shape_of s) (state_of s ws) (widen structure)) (answer (shape_of s) (state_of s ws) (widen structure))
  unfolding answer
  widen_said structure a s' ws' P =
      P.said
      ∙ unless_same (widen_cause_of s ws structure) _ _ _ (widen_cause_lem structure)
      (λ e. ap (fed s.fed) (widened_figures s ws structure (cause_widens s ws structure e) ws' (P.accepted e)))

  pub widen_follows : (structure : List ℕ) (a : Answer) (s' : Session) (ws' : List ℕ) → WidenPromise s ws structure a s' ws'
      → Follows s ws (widen structure) (record { said = a; written = nothing }) s' ws'
  unfolding written changed
  widen_follows structure a s' ws' P =
      changes_follow (widen structure) (widen_cause_of s ws structure) a (widen_record s ws structure) s' ws' (widen_cause_lem structure)
      (ap (λ (x : Answer). record { said = x; written = nothing }) (widen_said structure a s' ws' P)) P.session P.refusal
      (λ e. record {
        keeps = widened_inv s ws structure (cause_widens s ws structure e) ws' (P.accepted e);
        shaped = widened_shape s ws structure;
        state = widened_state s ws structure (cause_widens s ws structure e) ws' (P.accepted e);
      })

  -- ---- reading and sizes: the record stays, and name words are no part of the state

  named_inv : Inv s (with_names s ws)
  named_inv = record {
    is_sound = sound_named s ws (cells_of s ws) H I.is_sound;
    sized = subst (λ (f : ℕ → Run). Sums (root_of (parent_of (lines_of s) (with_names s ws))) (size_word (lines_of s) (with_names s ws))
        (λ r. run_length (f r)) s.figures.runs) (sym (runs_stand s ws))
        (sums_same _ _ _ _ (length_of s ws) s.figures.runs (λ r h. ap (λ (p : ℕ → ℕ). root_of p r) (parents_stand s ws))
        (λ r h e. ap (λ (f : ℕ → ℕ). f r) (sizes_stand s ws)) I.sized);
    grouped =
        λ r h. ap (λ (p : ℕ → ℕ). root_of p r) (parents_stand s ws) ∙ I.grouped r h
        ∙ ap (λ (cells : List Bool). rep (visit (frame_touches (shape_of s) (structure_of s) cells 0 s.fed) []) r)
        (sym (cells_named s ws (cells_of s ws) H));
  }
    where
      H : Stores s ws (cells_of s ws)
      H = sound_stores s ws I.is_sound

  named_state : state_of s (with_names s ws) ≡ state_of s ws
  named_state = ap (λ (cells : List Bool). record { structure = structure_of s; fed = s.fed; cells = cells })
      (cells_named s ws (cells_of s ws) (sound_stores s ws I.is_sound))

  -- whether the names were written or not
  names_keep : (c : ℕ) → Inv s (kept c ws (with_names s ws)) × (state_of s (kept c ws (with_names s ws)) ≡ state_of s ws)
  unfolding kept
  names_keep zero = (named_inv, named_state)
  names_keep (suc c) = (I, refl)

  counted_same : counted_of s ws ≡ counted (groups_of (shape_of s) (state_of s ws)) (figures (shape_of s) (state_of s ws))
  counted_same = ap₂ counted (inv_n s ws I) (inv_figures s ws I)

  named_follows : (c : Call) (d : ℕ) (a : Answered) (s' : Session) (ws' : List ℕ) → a ≡ answered (shape_of s) (state_of s ws) c → s' ≡ s
      → ws' ≡ kept d ws (with_names s ws) → next (shape_of s) (state_of s ws) c ≡ state_of s ws → Follows s ws c a s' ws'
  named_follows c d a s' ws' says session words stays =
      subst (λ (x : Session). Follows s ws c a x ws') (sym session)
      (subst (λ (vs : List ℕ). Follows s ws c a s vs) (sym words)
      (record { same = says; keeps = (names_keep d).0; shaped = refl; state = (names_keep d).1 ∙ sym stays }))

  module _ (kind : Number) (out : List (Value kind)) where
    pub read_cause_lem : read_cause_of kind s ws (length out) ≡ cause (shape_of s) (state_of s ws) (read kind out)
    unfolding read_cause_of cause
    read_cause_lem = rw (is_sound, inv_n s ws I) refl

    pub read_follows : (a : Answer) (s' : Session) (ws' : List ℕ) (out' : List (Value kind)) → ReadPromise kind s ws out a s' ws' out'
        → Follows s ws (read kind out) (record { said = a; written = numbers kind out' }) s' ws'
    unfolding answer written changed
    read_follows a s' ws' out' P =
        named_follows (read kind out) (read_cause_of kind s ws (length out)) (record { said = a; written = numbers kind out' }) s' ws'
        (ap₂ (λ (x : Answer) (o : List (Value kind)). record { said = x; written = numbers kind o })
        (P.said ∙ unless_same (read_cause_of kind s ws (length out)) _ _ _ read_cause_lem (λ e. counted_same))
        (P.output ∙ kept_same (read_cause_of kind s ws (length out)) _ out _ _ read_cause_lem (λ e. inv_numbers s ws I kind)))
        P.session P.words (next_stays (shape_of s) (state_of s ws) _ refl)

  module _ (out : List ℕ) where
    pub sizes_cause_lem : sizes_cause_of s ws (length out) ≡ cause (shape_of s) (state_of s ws) (sizes out)
    unfolding sizes_cause_of cause
    sizes_cause_lem = rw (is_sound, inv_n s ws I) refl

    pub sizes_follows : (a : Answer) (s' : Session) (ws' out' : List ℕ) → SizesPromise s ws out a s' ws' out'
        → Follows s ws (sizes out) (record { said = a; written = counts out' }) s' ws'
    unfolding answer written changed
    sizes_follows a s' ws' out' P =
        named_follows (sizes out) (sizes_cause_of s ws (length out)) (record { said = a; written = counts out' }) s' ws'
        (ap₂ (λ (x : Answer) (o : List ℕ). record { said = x; written = counts o })
        (P.said ∙ unless_same (sizes_cause_of s ws (length out)) _ _ _ sizes_cause_lem (λ e. counted_same))
        (P.output ∙ kept_same (sizes_cause_of s ws (length out)) _ out _ _ sizes_cause_lem (λ e. inv_sizes s ws I)))
        P.session P.words (next_stays (shape_of s) (state_of s ws) _ refl)
