-- A frame that is refused before anything is written, or fed whole and then numbered, is what a whole frame promises.
-- Assumes nothing.
use mathlib.Core.Path.{◌≡◌, sym, ap, ◌∙◌, subst}
use mathlib.Core.Bool.{Bool}
use mathlib.Core.List.{List}
use Prim.Native.Nat.{ℕ, ◌*◌, ◌<◌}
use native.Mathlib.Omega.{arith}
use lib.ListN.{length}
use Rattle.std.proofs.Common.{Result, Ok, Err}
use Rattle.frame.specs.Shape.{size, width, lines}
use Rattle.frame.specs.Kinds.{Number, Value}
use Rattle.frame.specs.Causes.{open_cause}
use Rattle.frame.specs.Plain.{Answer, refused}
use Rattle.frame.proofs.ShapeLaws.{size_lines_lem}
use Rattle.frame.proofs.CauseLaws.{Allowed, open_accepted, frame_accepted}
use Rattle.causes.specs.declared.Cause.{Cause}
use Rattle.causes.specs.Cases.{cause_number, check_number}
use Rattle.causes.proofs.CaseLaws.{positive, passed_none}
use Rattle.label.specs.declared.Counted.{Counted}
use Rattle.label.specs.declared.Session.{Session}
use Rattle.label.specs.Cases.{read_answer}
use Rattle.label.specs.Record.{shape_of}
use Rattle.label.specs.Opening.{open_record, open_words}
use Rattle.label.specs.Reading.{ReadPromise}
use Rattle.label.specs.WholeFrame.{early_cause_of, FramePromise}
use Rattle.label.proofs.OpenLaws.{opened_shape, opened_inv}
use Rattle.label.proofs.BlockLaws.{OneFeed, between_sound}
use Rattle.label.proofs.FrameLaws.{frame_refused, frame_read}
use Rattle.whole.specs.declared.FedFrame.{FedFrame}
use Rattle.whole.specs.FedFrames.{fed_record, FeedsFrame, FrameFed, SomeFed, Numbers}
use Rattle.whole.proofs.FeedAllLaws.{record_geo}

module _ {shape structure ws : List ℕ} {cells : List Bool} {places : ℕ} {r : Result FedFrame Cause} {ws₁ : List ℕ}
    (F : FeedsFrame shape structure ws cells places r ws₁) where
  -- the record of the opening
  abbrev s : Session
  s = open_record shape structure

  abbrev cause : ℕ
  cause = early_cause_of shape structure ws cells places

  -- its cells may be numbered
  module _ {f : FedFrame} (is : r ≡ Ok f) where
    none : cause ≡ 0
    none = sym F.number ∙ passed_none r f is

    fed : FrameFed s f ws₁ places
    fed = record {
      geometry = record_geo shape structure f.geo (length ws) opening (F.geometry f is);
      is_sound =
          between_sound s (open_words ws) (opened_inv shape structure ws opening).is_sound (lines shape) cells (fed_record s f) ws₁
          (rw shape_is (omega arith)) all;
      places = facts.2 ∙ ap size (sym shape_is);
    }
      where
        facts : (open_cause shape structure (length ws) ≡ 0) × (length cells ≡ size shape) × (places ≡ size shape)
        facts = frame_accepted shape structure (length ws) (length cells) places (unfold early_cause_of in none)

        opening : Allowed shape structure (length ws)
        opening = open_accepted shape structure (length ws) facts.0

        shape_is : shape_of s ≡ shape
        shape_is = opened_shape shape structure ws opening

        all : OneFeed s (open_words ws) (lines shape) cells (fed_record s f) ws₁
        all = record {
          whole = facts.1 ∙ size_lines_lem shape ∙ ap (λ (d : List ℕ). lines shape * width d) (sym shape_is);
          session = (F.accepted f is).session;
          words = (F.accepted f is).words;
        }

    pub whole_fed : SomeFed f ws₁ places
    whole_fed = record { session = s; fed = fed }

module _ (kind : Number) {shape structure ws : List ℕ} {cells : List Bool} {out : List (Value kind)} {r : Result FedFrame Cause}
    {ws₁ : List ℕ} (F : FeedsFrame shape structure ws cells (length out) r ws₁) where
  -- refused, it is what a whole frame promises
  pub whole_refused : {c : Cause} → r ≡ Err c → {a : Result Counted Cause} → a ≡ Err c
      → FramePromise kind shape structure ws cells out (read_answer a) ws₁ out
  whole_refused {c} e {a} said =
      let early = early_cause_of shape structure ws cells (length out) in
      let number : cause_number c ≡ early = ap check_number (sym e) ∙ F.number in
      let some : 0 < early = omega (arith, number, positive c) in
      let is : read_answer a ≡ refused early = ap read_answer said ∙ ap (λ (n : ℕ). refused n) number in
      rw (is, F.refusal some) (frame_refused kind shape structure ws cells out some)

  -- and so it is once its cells are numbered
  pub whole_frame : {f : FedFrame} → r ≡ Ok f → {a : Answer} {ws' : List ℕ} {out' : List (Value kind)}
      → Numbers kind f ws₁ out a ws' out' → FramePromise kind shape structure ws cells out a ws' out'
  whole_frame {f} is {a} {ws'} {out'} N =
      let D = F.accepted f is in
      frame_read kind shape structure ws cells out (none F is) ws₁ D.words a (fed_record (s F) f) ws' out'
      (subst (λ (x : Session). ReadPromise kind x ws₁ out a (fed_record (s F) f) ws' out') D.session (N (s F) (fed F is)))
