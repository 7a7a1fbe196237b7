-- Whole frames: any blocks that add up to L lead to the same answer, output and words, parents aside, and to the plain session's; and an
-- accepted one has SciPy's numbers.
-- Assumes nothing.
use mathlib.Core.Path.{◌≡◌, refl, sym, ap, ap₂, ◌∙◌}
use mathlib.Core.Bool.{Bool}
use mathlib.Core.List.{List, [], ◌∷◌, map}
use Prim.Native.Nat.{ℕ, zero, suc, ◌-◌, ◌*◌}
use native.Mathlib.Nat.{zero-add}
use native.Mathlib.Omega.{arith}
use lib.ListN.{length}
use Rattle.frame.specs.Shape.{width, lines}
use Rattle.frame.specs.ChainRule.{group_count, labels}
use Rattle.frame.specs.Scipy.{scipy_count, scipy_labels}
use Rattle.frame.specs.Causes.{open_cause}
use Rattle.frame.specs.Runs.{runs}
use Rattle.frame.specs.Kinds.{Cells, flags, Number, Value, write}
use Rattle.frame.specs.Plain.{feed, read, Answer, fed, counted, nothing, numbers, Answered, written, unless, kept, State, opened, feeds}
use Rattle.frame.specs.Plain.{groups_of, figures, cause, answer, answered, changed, next, plain}
use Rattle.frame.specs.Lists.{sum}
use Rattle.frame.proofs.ShapeLaws.{size_lines_lem}
use Rattle.frame.proofs.CauseLaws.{accepted_feed}
use Rattle.frame.proofs.PlainLaws.{unless_none, kept_new, next_accepted}
use Rattle.frame.proofs.ScipyLaws.{accepted_scipy}
use Rattle.label.specs.declared.Session.{Session}
use Rattle.label.specs.Opening.{open_record, open_words}
use Rattle.label.specs.Reading.{ReadPromise}
use Rattle.label.specs.WholeFrame.{blocks, Fills, all_fed, early_cause_of, frame_cause_of, FramePromise}
use Rattle.label.proofs.BlockLaws.{sum_blocks}
use Rattle.label.proofs.CallFunctions.{do_read}
use Rattle.label.proofs.MeetLaws.{read_met, fills_met}
use Rattle.label.proofs.FrameLaws.{early_late, frame_facts, cause_read, frame_blocks}
use Rattle.label.proofs.OnlyLaws.{Alike, frame_only}

-- an opening's record and words, fed in the blocks ks, and read
pub record InBlocks (kind : Number) (shape structure ws : List ℕ) (cells : List Bool) (out : List (Value kind)) (ks : List ℕ) (a : Answer)
    (ws' : List ℕ) (out' : List (Value kind)) : Type 0 where
  pub fed_session : Session
  pub fed_words : List ℕ
  pub fills : Fills (width shape) (open_record shape structure) (open_words ws) ks cells fed_session fed_words
  pub read_session : Session
  pub reads : ReadPromise kind fed_session fed_words out a read_session ws' out'

module _ (kind : Number) (shape structure ws : List ℕ) (out : List (Value kind)) where
  -- any blocks that add up to L
  pub blocks_whole : (cells : List Bool) → early_cause_of shape structure ws cells (length out) ≡ 0 → (ks : List ℕ) → sum ks ≡ lines shape
      → (a : Answer) (ws' : List ℕ) (out' : List (Value kind)) → InBlocks kind shape structure ws cells out ks a ws' out' → FramePromise
      kind shape structure ws cells out a ws' out'
  blocks_whole cells no_cause ks e a ws' out' B = frame_blocks kind shape structure ws cells out no_cause ks B.fed_session
      B.fed_words e B.fills a B.read_session ws' out' B.reads

  -- those of every block count B among them
  pub every_count : (cells : List Bool) → early_cause_of shape structure ws cells (length out) ≡ 0
      → (B : ℕ) (a : Answer) (ws' : List ℕ) (out' : List (Value kind))
      → InBlocks kind shape structure ws cells out (blocks (lines shape) B) a ws' out' → FramePromise kind shape structure ws cells out a
      ws' out'
  every_count cells no_cause B = blocks_whole cells no_cause (blocks (lines shape) B) (sum_blocks (lines shape) B)

  -- any such blocks can be fed and read
  pub blocks_met : (cells : List Bool) → early_cause_of shape structure ws cells (length out) ≡ 0 → (ks : List ℕ) → sum ks ≡ lines shape
      → (a : Answer) × (ws' : List ℕ) × (out' : List (Value kind)) × InBlocks kind shape structure ws cells out ks a ws' out'
  blocks_met cells no_cause ks e =
      let long : length cells ≡ sum ks * width shape = (frame_facts kind shape structure ws cells out no_cause).1 ∙ size_lines_lem shape
      ∙ ap (λ (n : ℕ). n * width shape) (sym e) in
      let F = fills_met (width shape) (open_record shape structure) (open_words ws) ks cells long in
      let d = do_read kind F.0 F.1 out in (
        d.said,
        d.words,
        d.out,
        record {
          fed_session = F.0;
          fed_words = F.1;
          fills = F.2;
          read_session = F.0;
          reads = read_met kind
              F.0 F.1 out;
        },
      )

  -- two lists of blocks lead to the same
  pub blocks_same : (cells : List Bool) → early_cause_of shape structure ws cells (length out) ≡ 0 → (ks js : List ℕ) → sum ks ≡ lines shape
      → sum js ≡ lines shape
      → (a b : Answer) (ws' vs' : List ℕ) (out' out'' : List (Value kind)) → InBlocks kind shape structure ws cells out ks a ws' out'
      → InBlocks kind shape structure ws cells out js b vs' out''
      → (a ≡ b) × (out' ≡ out'') × Alike (lines shape) (runs shape structure cells) ws' vs'
  blocks_same cells no_cause ks js e f a b ws' vs' out' out'' B C =
      frame_only kind shape structure ws cells out a b ws' vs' out' out'' (blocks_whole cells no_cause ks e a ws' out' B)
      (blocks_whole cells no_cause js f b vs' out'' C)

  -- and what a whole frame answers and writes is the plain session's reading after a feed of whole lines
  module _ (cells : Cells) (no_cause : early_cause_of shape structure ws (flags cells) (length out) ≡ 0) where
    abbrev whole : State
    whole = all_fed shape structure (flags cells)

    feed_is_accepted : cause shape (opened structure) (feed (lines shape) cells) ≡ 0
    unfolding cause
    feed_is_accepted = accepted_feed (lines shape - 0) (lines shape) (width shape) (length (flags cells)) (omega arith)
        ((frame_facts kind shape structure ws (flags cells) out no_cause).1 ∙ size_lines_lem shape)

    feed_next : next shape (opened structure) (feed (lines shape) cells) ≡ whole
    unfolding changed
    feed_next = next_accepted shape (opened structure) (feed (lines shape) cells) feed_is_accepted

    feed_said : unless (cause shape (opened structure) (feed (lines shape) cells))
        (answer shape (opened structure) (feed (lines shape) cells)) ≡ fed (lines shape) (figures shape whole)
    feed_said =
        unless_none (cause shape (opened structure) (feed (lines shape) cells)) (answer shape (opened structure) (feed (lines shape) cells))
        feed_is_accepted
        ∙ (unfold answer in ap (λ (n : ℕ). fed n (figures shape whole)) (zero-add (lines shape)))

    first : answered shape (opened structure) (feed (lines shape) cells)
        ≡ record { said = fed (lines shape) (figures shape whole); written = nothing }
    unfolding written
    first = ap (λ (x : Answer). record { said = x; written = nothing }) feed_said

    second : (a : Answer) (ws' : List ℕ) (out' : List (Value kind)) → FramePromise kind shape structure ws (flags cells) out a ws' out'
        → answered shape whole (read kind out) ≡ record { said = a; written = numbers kind out' }
    unfolding answer written feeds
    second a ws' out' F =
        let c = sym (cause_read kind shape structure ws (flags cells) out no_cause) in
        ap₂ (λ (x : Answer) (o : List (Value kind)). record { said = x; written = numbers kind o })
        (ap (λ (d : ℕ). unless d (counted (groups_of shape whole) (figures shape whole))) c ∙ sym F.said)
        (ap (λ (d : ℕ). kept d out (map (write kind) (labels shape structure (flags cells)))) c ∙ sym F.output)

    pub frame_plain : (a : Answer) (ws' : List ℕ) (out' : List (Value kind))
        → FramePromise kind shape structure ws (flags cells) out a ws' out'
        → plain shape (opened structure) (feed (lines shape) cells ∷ read kind out ∷ [])
        ≡ record { said = fed (lines shape) (figures shape whole); written = nothing } ∷ record { said = a; written = numbers kind out' }
        ∷ []
    unfolding plain
    frame_plain a ws' out' F =
        ap₂ (λ (x : Answered) (y : Answered). x ∷ y ∷ []) first
        (ap (λ (p : State). answered shape p (read kind out)) feed_next ∙ second a ws' out' F)

-- ---- SciPy's description

-- an accepted whole frame answers SciPy's count, and writes SciPy's labels
module _ (kind : Number) (shape structure ws : List ℕ) (cells : List Bool) (out : List (Value kind))
    (none : frame_cause_of kind shape structure ws cells out ≡ 0) where
  early_none : early_cause_of shape structure ws cells (length out) ≡ 0
  early_none = go (early_cause_of shape structure ws cells (length out)) refl
    where
      go : (c : ℕ) → early_cause_of shape structure ws cells (length out) ≡ c → early_cause_of shape structure ws cells (length out) ≡ 0
      go zero e = e
      go (suc c) e = absurd (omega (arith, early_late kind shape structure ws cells out c e, none))

  opens : open_cause shape structure (length ws) ≡ 0
  opens = (frame_facts kind shape structure ws cells out early_none).0

  count_scipy : group_count shape structure cells ≡ scipy_count shape structure cells
  count_scipy = sym (accepted_scipy shape structure (length ws) opens cells).1

  labels_scipy : labels shape structure cells ≡ scipy_labels shape structure cells
  labels_scipy = sym (accepted_scipy shape structure (length ws) opens cells).2

  pub frame_scipy : (a : Answer) (ws' : List ℕ) (out' : List (Value kind)) → FramePromise kind shape structure ws cells out a ws' out'
      → (a ≡ counted (scipy_count shape structure cells) (figures shape (all_fed shape structure cells)))
      × (out' ≡ map (write kind) (scipy_labels shape structure cells))
  unfolding groups_of feeds
  frame_scipy a ws' out' P = (
    P.said ∙ unless_none (frame_cause_of kind shape structure ws cells out) _ none
        ∙ ap (λ (n : ℕ). counted n (figures shape (all_fed shape structure cells))) count_scipy,
    P.output ∙ kept_new out (map (write kind) (labels shape structure cells)) (frame_cause_of kind shape structure ws cells out) none
        ∙ ap (map (write kind)) labels_scipy,
  )
