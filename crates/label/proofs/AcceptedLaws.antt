-- Accepted calls: what they were given, and what is left for them to promise.
-- Assumes nothing.
use mathlib.Core.Path.{◌≡◌, sym, ap, ◌∙◌, subst}
use mathlib.Core.Bool.{Bool}
use mathlib.Core.List.{List}
use Prim.Native.Nat.{ℕ, ◌+◌, ◌-◌, ◌≤◌, ◌<◌}
use native.Mathlib.Omega.{arith}
use borrow.Author.Tests.{leb-true}
use lib.ListN.{length}
use Rattle.std.proofs.Common.{Result, Ok}
use Rattle.frame.specs.Shape.{size, width}
use Rattle.frame.specs.Kinds.{Number, largest, holds, Value}
use Rattle.frame.specs.Memory.{words_needed}
use Rattle.frame.specs.Causes.{open_cause}
use Rattle.frame.specs.Plain.{Answer, fed, counted}
use Rattle.frame.proofs.ShapeLaws.{Fits}
use Rattle.frame.proofs.CauseLaws.{rank_right, Allowed, open_accepted, feed_accepted, accepted_feed, read_accepted, sizes_accepted}
use Rattle.frame.proofs.CauseLaws.{widen_accepted}
use Rattle.frame.proofs.PlainLaws.{unless_none, kept_new}
use Rattle.geo.specs.declared.Geo.{Geo}
use Rattle.geo.proofs.ShapeSoundLaws.{bytes_few}
use Rattle.causes.specs.declared.Cause.{Cause}
use Rattle.causes.specs.Checks.{LentFound}
use Rattle.causes.proofs.CaseLaws.{passed_none}
use Rattle.label.specs.declared.Session.{Session}
use Rattle.label.specs.Record.{shape_of, structure_of, lines_of}
use Rattle.label.specs.Sound.{Sound, sound}
use Rattle.label.specs.Held.{root_count, numbers_held, sizes_held}
use Rattle.label.specs.Opening.{open_record, open_words, blank, OpenPromise}
use Rattle.label.specs.Feeding.{feed_record, feed_cause_of, FeedWords, FeedPromise}
use Rattle.label.specs.Widening.{widen_cause_of, widen_record, WidenWords, WidenPromise}
use Rattle.label.specs.Reading.{with_names, counted_of, read_cause_of, ReadPromise, sizes_cause_of, SizesPromise}
use Rattle.label.specs.Steps.{FeedAccepted, FeedDone, WidenAccepted, ReadAccepted}
use Rattle.label.proofs.SoundLaws.{sound_right, right_sound, n_roots}

-- ---- opening

module _ (shape structure : List ℕ) (memory : ℕ) (none : 0 ≡ open_cause shape structure memory) where
  allowed : Allowed shape structure memory
  allowed = open_accepted shape structure memory (sym none)

  -- there is a word 0, and a record holds the shape and the structure
  word : 0 < memory
  unfolding words_needed
  word = omega (arith, allowed.enough)

  short : (length shape ≤ 4) × (length structure ≤ 81)
  short = let r = (rank_right shape allowed.ranked).1 in (r, rw allowed.bytes (bytes_few (length shape) r))

pub open_short : (shape structure ws : List ℕ) → 0 ≡ open_cause shape structure (length ws) → (length shape ≤ 4) × (length structure ≤ 81)
open_short shape structure ws none = short shape structure (length ws) none

-- so where its check passed
module _ (shape structure : List ℕ) (memory : ℕ) {r : Result Geo Cause}
    (F : LentFound shape structure (open_cause shape structure memory) r) {g : Geo} (is : r ≡ Ok g) where
  no_cause : 0 ≡ open_cause shape structure memory
  no_cause = sym (passed_none r g is) ∙ F.number

  pub passed_word : 0 < memory
  passed_word = word shape structure memory no_cause

  pub passed_short : (length shape ≤ 4) × (length structure ≤ 81)
  passed_short = short shape structure memory no_cause

pub passed_open : {shape structure ws : List ℕ} {r : Result Geo Cause}
    → LentFound shape structure (open_cause shape structure (length ws)) r → {g : Geo} → r ≡ Ok g → {s : Session} → s ≡ open_record shape structure → OpenPromise shape structure ws 0 s (open_words ws)
passed_open {shape} {structure} {ws} F is same =
    let none = no_cause shape structure (length ws) F is in
    record {
      said = none;
      session = same ∙ sym (kept_new blank (open_record shape structure) _ (sym none));
      words = sym (kept_new ws (open_words ws) _ (sym none));
    }

-- ---- feed

module _ (s : Session) (ws : List ℕ) (k : ℕ) (cells : List Bool) where
  -- a feed has no cause exactly then
  pub cause_accepted : feed_cause_of s ws k cells ≡ 0 → FeedAccepted s ws k cells
  cause_accepted e =
      let h = feed_accepted (sound s ws) (lines_of s - s.fed) k (width (shape_of s)) (length cells) (unfold feed_cause_of in e) in
      record { is_sound = sound_right s ws h.0; few = h.1; whole = h.2 }

  pub accepted_cause : FeedAccepted s ws k cells → feed_cause_of s ws k cells ≡ 0
  unfolding feed_cause_of
  accepted_cause G =
      rw (right_sound s ws G.is_sound)
      (accepted_feed (lines_of s - s.fed) k (width (shape_of s)) (length cells) G.few G.whole)

  -- the new cells are those of k lines
  pub accepted_fits : FeedAccepted s ws k cells → Fits (shape_of s) k cells
  accepted_fits G = record {
    ranked = (rank_right (shape_of s) G.is_sound.shape.ranked).0;
    below = omega (arith, G.few);
    whole = G.whole;
  }

  -- its record is known, and the words are what is left to promise
  pub accepted_session : FeedAccepted s ws k cells → (a : Answer) (s' : Session) (ws' : List ℕ) → FeedPromise s ws k cells a s' ws'
      → s' ≡ feed_record s ws k cells
  accepted_session G a s' ws' P = P.session ∙ kept_new s (feed_record s ws k cells) (feed_cause_of s ws k cells) (accepted_cause G)

  pub accepted_promise : FeedAccepted s ws k cells → (ws' : List ℕ) → FeedWords s ws k cells ws'
      → FeedPromise s ws k cells (fed (s.fed + k) (feed_record s ws k cells).figures) (feed_record s ws k cells) ws'
  accepted_promise G ws' W = record {
    said = sym (unless_none (feed_cause_of s ws k cells) (fed (s.fed + k) (feed_record s ws k cells).figures) (accepted_cause G));
    session = sym (kept_new s (feed_record s ws k cells) (feed_cause_of s ws k cells) (accepted_cause G));
    refusal = λ h. absurd (omega (arith, accepted_cause G));
    accepted = λ e. W;
  }

  -- it answers the figures of the record that it hands back
  pub done_promise : FeedAccepted s ws k cells → (s' : Session) (ws' : List ℕ) → FeedDone s ws k cells s' ws'
      → (a : Answer) → a ≡ fed s'.fed s'.figures → (s'' : Session) → s'' ≡ s' → FeedPromise s ws k cells a s'' ws'
  unfolding feed_record
  done_promise G s' ws' D a said s'' same =
      subst (λ (x : Answer). FeedPromise s ws k cells x s'' ws')
      (sym (said ∙ ap (λ (x : Session). fed x.fed x.figures) D.session))
      (subst (λ (x : Session). FeedPromise s ws k cells (fed (s.fed + k) (feed_record s ws k cells).figures) x ws')
      (sym (same ∙ D.session))
      (accepted_promise G ws' D.words))

-- ---- structure change

module _ (s : Session) (ws structure : List ℕ) where
  pub cause_widens : widen_cause_of s ws structure ≡ 0 → WidenAccepted s ws structure
  cause_widens e =
      let h = widen_accepted (sound s ws) (length (shape_of s)) (structure_of s) structure (unfold widen_cause_of in e) in
      record { is_sound = sound_right s ws h.0; bytes = h.1; not_lopsided = h.2; wider = h.3 }

  -- a record holds the structure
  pub widen_short : widen_cause_of s ws structure ≡ 0 → length structure ≤ 81
  widen_short e =
      let G = cause_widens e in
      rw G.bytes (bytes_few (length (shape_of s)) (rank_right (shape_of s) G.is_sound.shape.ranked).1)

  -- it answers the figures of the record that it hands back
  pub widen_promise : widen_cause_of s ws structure ≡ 0 → (ws' : List ℕ) → WidenWords s ws structure ws'
      → (s' : Session) → s' ≡ widen_record s ws structure → (a : Answer) → a ≡ fed s'.fed s'.figures
      → WidenPromise s ws structure a s' ws'
  unfolding widen_record
  widen_promise e ws' W s' is a said = record {
    said = said ∙ ap (λ (x : Session). fed x.fed x.figures) is
        ∙ sym (unless_none (widen_cause_of s ws structure) (fed s.fed (widen_record s ws structure).figures) e);
    session = is ∙ sym (kept_new s (widen_record s ws structure) (widen_cause_of s ws structure) e);
    refusal = λ h. absurd (omega (arith, e));
    accepted = λ z. W;
  }

-- ---- reading, sizes

module _ (kind : Number) (s : Session) (ws : List ℕ) where
  pub cause_read : (out : ℕ) → read_cause_of kind s ws out ≡ 0 → ReadAccepted kind s ws out
  unfolding read_cause_of holds
  cause_read out e =
      let h = read_accepted (sound s ws) out (size (shape_of s)) (holds kind (root_count s ws)) e in
      record { is_sound = sound_right s ws h.0; places = h.1; fits = leb-true (root_count s ws) (largest kind) h.2 }

  -- it answers n as runs - joins
  pub read_promise : (out : List (Value kind)) → read_cause_of kind s ws (length out) ≡ 0 → (ws' : List ℕ) (out' : List (Value kind))
      → (ws' ≡ with_names s ws) × (out' ≡ numbers_held s ws kind)
      → (a : Answer) → a ≡ counted (s.figures.runs - s.figures.joins) s.figures → (s' : Session) → s' ≡ s
      → ReadPromise kind s ws out a s' ws' out'
  read_promise out e ws' out' W a said s' same = record {
    said = said ∙ ap (λ (n : ℕ). counted n s.figures) (sym (n_roots s ws (cause_read (length out) e).is_sound))
        ∙ sym (unless_none (read_cause_of kind s ws (length out)) (counted_of s ws) e);
    session = same;
    words = W.0 ∙ sym (kept_new ws (with_names s ws) (read_cause_of kind s ws (length out)) e);
    output = W.1 ∙ sym (kept_new out (numbers_held s ws kind) (read_cause_of kind s ws (length out)) e);
  }

module _ (s : Session) (ws : List ℕ) where
  pub cause_sizes : (out : ℕ) → sizes_cause_of s ws out ≡ 0 → Sound s ws × (out ≡ root_count s ws)
  unfolding sizes_cause_of
  cause_sizes out e = let h = sizes_accepted (sound s ws) out (root_count s ws) e in (sound_right s ws h.0, h.1)

  pub sizes_promise : (out : List ℕ) → sizes_cause_of s ws (length out) ≡ 0 → (ws' out' : List ℕ)
      → (ws' ≡ with_names s ws) × (out' ≡ sizes_held s ws)
      → (a : Answer) → a ≡ counted (s.figures.runs - s.figures.joins) s.figures → (s' : Session) → s' ≡ s
      → SizesPromise s ws out a s' ws' out'
  sizes_promise out e ws' out' W a said s' same = record {
    said = said ∙ ap (λ (n : ℕ). counted n s.figures) (sym (n_roots s ws (cause_sizes (length out) e).0))
        ∙ sym (unless_none (sizes_cause_of s ws (length out)) (counted_of s ws) e);
    session = same;
    words = W.0 ∙ sym (kept_new ws (with_names s ws) (sizes_cause_of s ws (length out)) e);
    output = W.1 ∙ sym (kept_new out (sizes_held s ws) (sizes_cause_of s ws (length out)) e);
  }
