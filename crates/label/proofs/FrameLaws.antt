-- Whole frames: an opening, feeds of any blocks that add up to L, and a reading are what a whole frame promises.
-- Assumes nothing.
use mathlib.Core.Path.{◌≡◌, refl, sym, ap, ap₂, ◌∙◌, subst}
use mathlib.Core.Bool.{Bool}
use mathlib.Core.List.{List, map}
use Prim.Native.Nat.{ℕ, suc, ◌-◌, ◌*◌, ◌≤◌, ◌<◌}
use native.Mathlib.Nat.{zero-add}
use native.Mathlib.Omega.{arith}
use lib.ListN.{length}
use Rattle.frame.specs.Shape.{size, width, lines}
use Rattle.frame.specs.ChainRule.{labels}
use Rattle.frame.specs.Runs.{runs}
use Rattle.frame.specs.Kinds.{Number, holds, Value, write}
use Rattle.frame.specs.Causes.{open_cause}
use Rattle.frame.specs.Plain.{read, Answer, fed, counted, refused, kept, State, feeds, groups_of, figures, cause}
use Rattle.frame.specs.Words.{name_place}
use Rattle.frame.specs.Lists.{sum}
use Rattle.frame.proofs.ShapeLaws.{size_lines_lem}
use Rattle.frame.proofs.CauseLaws.{Allowed, open_accepted, frame_accepted, frame_reads, frame_known}
use Rattle.frame.proofs.PlainLaws.{unless_same, unless_some, kept_old, kept_same}
use Rattle.label.specs.declared.Session.{Session}
use Rattle.label.specs.Record.{shape_of, structure_of, lines_of}
use Rattle.label.specs.Held.{cells_of}
use Rattle.label.specs.Opening.{open_record, open_words}
use Rattle.label.specs.Feeding.{runs_after, feed_record, feed_cause_of, FeedWords, FeedPromise}
use Rattle.label.specs.Reading.{with_names, counted_of, read_cause_of, ReadPromise}
use Rattle.label.specs.WholeFrame.{Fills, all_fed, early_cause_of, frame_cause_of, FrameWords, FramePromise}
use Rattle.label.specs.Steps.{FeedAccepted}
use Rattle.label.proofs.AcceptedLaws.{accepted_cause, accepted_promise}
use Rattle.label.proofs.SoundCells.{sound_stores}
use Rattle.label.proofs.FeedLaws.{feed_shape, room}
use Rattle.label.proofs.Invariant.{state_of, Inv, inv_n, inv_figures, inv_numbers}
use Rattle.label.proofs.KeepLaws.{fed_inv, fed_state, read_cause_lem}
use Rattle.label.proofs.OpenLaws.{opened_shape, opened_structure, opened_inv, opened_state}
use Rattle.label.proofs.BlockLaws.{fills_feed}

-- ---- whole frames

module _ (kind : Number) (shape structure ws : List ℕ) (cells : List Bool) (out : List (Value kind)) where
  abbrev early : ℕ
  early = early_cause_of shape structure ws cells (length out)

  abbrev late : ℕ
  late = frame_cause_of kind shape structure ws cells out

  -- a cause that is found early stays
  pub early_late : (c : ℕ) → early ≡ suc c → late ≡ suc c
  unfolding early_cause_of frame_cause_of
  early_late c e = frame_known shape structure (length ws) (length cells) (length out) c
      (holds kind (groups_of shape (all_fed shape structure cells))) e

  -- refused before anything is written
  pub frame_refused : 0 < early → FramePromise kind shape structure ws cells out (refused early) ws out
  frame_refused h = record {
    said = sym (unless_some late (early - 1) (counted (groups_of shape (all_fed shape structure cells))
        (figures shape (all_fed shape structure cells))) known ∙ ap refused (sym some));
    output = sym (kept_old out (map (write kind) (labels shape structure cells)) late (early - 1) known);
    refusal = λ l. refl;
    accepted = λ e. absurd (omega arith);
  }
    where
      some : early ≡ suc (early - 1)
      some = omega arith

      known : late ≡ suc (early - 1)
      known = early_late (early - 1) some

  -- refused with 10, its memory is as after feeding
  pub frame_ten : (ws' : List ℕ) (F : FrameWords kind shape structure ws cells out ws') → late ≡ 10 → ws' ≡ F.fed_words
  frame_ten ws' F ten = F.names ∙ kept_old F.fed_words (with_names F.session F.fed_words) late 9 ten

  -- ---- fed

  module _ (no_cause : early ≡ 0) where
    pub frame_facts : (open_cause shape structure (length ws) ≡ 0) × (length cells ≡ size shape) × (length out ≡ size shape)
    frame_facts = frame_accepted shape structure (length ws) (length cells) (length out) (unfold early_cause_of in no_cause)

    -- what is left is a reading's cause
    pub cause_read : late ≡ cause shape (all_fed shape structure cells) (read kind out)
    unfolding cause frame_cause_of
    cause_read = frame_reads shape structure (length ws) (length cells) (length out) (unfold early_cause_of in no_cause)
        (holds kind (groups_of shape (all_fed shape structure cells)))

    A : Allowed shape structure (length ws)
    A = open_accepted shape structure (length ws) frame_facts.0

    -- the record and the words of the opening
    abbrev s : Session
    s = open_record shape structure

    abbrev vs : List ℕ
    vs = open_words ws

    I : Inv s vs
    I = opened_inv shape structure ws A

    few : lines shape ≤ lines_of s - 0
    few = rw (opened_shape shape structure ws A) (omega arith)

    whole : length cells ≡ lines shape * width (shape_of s)
    whole = frame_facts.1 ∙ size_lines_lem shape ∙ ap (λ (d : List ℕ). lines shape * width d) (sym (opened_shape shape structure ws A))

    G : FeedAccepted s vs (lines shape) cells
    G = record { is_sound = I.is_sound; few = few; whole = whole }

    pub frame_feeds : feed_cause_of s vs (lines shape) cells ≡ 0
    frame_feeds = accepted_cause s vs (lines shape) cells G

    -- its runs are those of the cells, and the memory has room for them
    pub frame_runs_lem : runs_after s cells ≡ runs shape structure cells
    unfolding runs_after
    frame_runs_lem =
        zero-add (runs (shape_of s) (structure_of s) cells)
        ∙ ap₂ (λ (d : List ℕ) (b : List ℕ). runs d b cells) (opened_shape shape structure ws A) (opened_structure shape structure ws A)

    pub frame_lines : lines_of s ≡ lines shape
    frame_lines = ap lines (opened_shape shape structure ws A)

    pub frame_room : (r : ℕ) → r < runs_after s cells → name_place (lines_of s) r < length vs
    frame_room r h = omega (
      arith,
      room s vs (cells_of s vs) (sound_stores s vs I.is_sound) (lines shape) cells few whole I.is_sound.shape.memory r h,
    )

    module _ (ws₁ : List ℕ) (W : FeedWords s vs (lines shape) cells ws₁) where
      -- the record afterwards
      abbrev s₁ : Session
      s₁ = feed_record (open_record shape structure) (open_words ws) (lines shape) cells

      inv_fed : Inv s₁ ws₁
      inv_fed = fed_inv s vs I (lines shape) cells frame_feeds ws₁ W

      shape_fed : shape_of s₁ ≡ shape
      shape_fed = feed_shape s vs (lines shape) cells ∙ opened_shape shape structure ws A

      state_fed : state_of s₁ ws₁ ≡ all_fed shape structure cells
      state_fed =
          fed_state s vs I (lines shape) cells frame_feeds ws₁ W
          ∙ ap (λ (p : State). feeds p (lines shape) cells) (opened_state shape structure ws A)

      -- a reading of it has the whole frame's cause
      cause_late : read_cause_of kind s₁ ws₁ (length out) ≡ late
      cause_late =
          read_cause_lem s₁ ws₁ inv_fed kind out
          ∙ ap₂ (λ (d : List ℕ) (p : State). cause d p (read kind out)) shape_fed state_fed
          ∙ sym cause_read

      labels_late : map (write kind) (labels (shape_of s₁) (structure_of s₁) (cells_of s₁ ws₁))
          ≡ map (write kind) (labels shape structure cells)
      unfolding feeds
      labels_late = ap₂ (λ (d : List ℕ) (p : State). map (write kind) (labels d p.structure p.cells)) shape_fed state_fed

      -- so it is what the frame promises
      pub frame_read : (a : Answer) (s' : Session) (ws' : List ℕ) (out' : List (Value kind)) → ReadPromise kind s₁ ws₁ out a s' ws' out'
          → FramePromise kind shape structure ws cells out a ws' out'
      frame_read a s' ws' out' R = record {
        said = R.said ∙ unless_same (read_cause_of kind s₁ ws₁ (length out)) late _ _ cause_late (λ e. figures_late);
        output =
            R.output
            ∙ kept_same (read_cause_of kind s₁ ws₁ (length out)) late out _ _ cause_late (λ e. inv_numbers s₁ ws₁ inv_fed kind ∙ labels_late);
        refusal = λ l. absurd (omega arith);
        accepted = λ e. record {
          answer = fed (lines shape) s₁.figures;
          session = s₁;
          fed_words = ws₁;
          lines_fed = subst (λ (n : ℕ). FeedPromise s vs (lines shape) cells (fed n s₁.figures) s₁ ws₁) (zero-add (lines shape))
              (accepted_promise s vs (lines shape) cells G ws₁ W);
          names = R.words ∙ ap (λ (c : ℕ). kept c ws₁ (with_names s₁ ws₁)) cause_late;
        };
      }
        where
          figures_late : counted_of s₁ ws₁
              ≡ counted (groups_of shape (all_fed shape structure cells)) (figures shape (all_fed shape structure cells))
          figures_late =
              ap₂ counted (inv_n s₁ ws₁ inv_fed) (inv_figures s₁ ws₁ inv_fed)
              ∙ ap₂ (λ (d : List ℕ) (p : State). counted (groups_of d p) (figures d p)) shape_fed state_fed

    -- any blocks that add up to L
    pub frame_blocks : (ks : List ℕ) (s₁ : Session) (ws₁ : List ℕ) → sum ks ≡ lines shape → Fills (width shape) s vs ks cells s₁ ws₁
        → (a : Answer) (s' : Session) (ws' : List ℕ) (out' : List (Value kind)) → ReadPromise kind s₁ ws₁ out a s' ws' out' → FramePromise
        kind shape structure ws cells out a ws' out'
    frame_blocks ks s₁ ws₁ e F a s' ws' out' R =
        let O = fills_feed F I.is_sound (ap width (sym (opened_shape shape structure ws A)))
        (rw (opened_shape shape structure ws A) (omega (arith, e))) in
        frame_read ws₁ (subst (λ (n : ℕ). FeedWords s vs n cells ws₁) e O.words) a s' ws' out'
        (subst (λ (x : Session). ReadPromise kind x ws₁ out a s' ws' out') (O.session ∙ ap (λ (n : ℕ). feed_record s vs n cells) e) R)
