-- From calls that were made to the promise: their answers are the plain session's, by demand 3.
-- Assumes nothing.
use mathlib.Core.Path.{◌≡◌, refl, sym, ap, ◌∙◌, subst}
use mathlib.Core.List.{List, []}
use Prim.Native.Nat.{ℕ, suc, ◌-◌, ◌<◌}
use native.Mathlib.Omega.{arith}
use Rattle.std.specs.Prelude.{Result, Ok, Err}
use Rattle.std.specs.Result.{IsErrAnd}
use Rattle.causes.specs.declared.Cause.{Cause}
use lib.ListN.{length}
use Rattle.frame.specs.Causes.{open_cause}
use Rattle.frame.specs.Plain.{opened, plain}
use Rattle.frame.proofs.PlainLaws.{kept_new, kept_old}
use Rattle.label.specs.declared.Session.{Session}
use Rattle.label.specs.Opening.{open_record, open_words, blank, OpenPromise}
use Rattle.calls.specs.Trace.{Trace}
use Rattle.calls.proofs.Demand3.{demand3}
use Rattle.caller.specs.CallList.{Entry, calls_of, woven}
use Rattle.frame.specs.Overlay.{Holds}
use Rattle.caller.specs.Rooms.{Rooms}
use Rattle.caller.specs.Making.{Standing, Performs}
use Rattle.caller.specs.Made.{due, MadePromise}
use Rattle.frame.proofs.OverlayLaws.{overlay_none}

-- an opening's cause, handed on
pub made_failed : (r : Result ℕ Cause) {e : Cause} → IsErrAnd r (λ x. x ≡ e) → r ≡ Err e
made_failed (Ok places) h = absurd h
made_failed (Err x) h = ap Err h

module _ {shape structure ws : List ℕ} {number : ℕ} {s : Session} {ws₁ : List ℕ} (O : OpenPromise shape structure ws number s ws₁)
    (entries : List Entry) (rooms : Rooms) (answers : List ℕ) where
  abbrev cause : ℕ
  cause = open_cause shape structure (length ws)

  due_all : cause ≡ 0 → due shape structure ws entries rooms answers ≡ woven entries (plain shape (opened structure) (calls_of entries))
  unfolding due
  due_all none = kept_new [] (woven entries (plain shape (opened structure) (calls_of entries))) cause none

  due_none : (d : ℕ) → cause ≡ suc d → due shape structure ws entries rooms answers ≡ []
  unfolding due
  due_none d some = kept_old [] (woven entries (plain shape (opened structure) (calls_of entries))) cause d some

  pub made_accepted : {last : Standing} → number ≡ 0
      → Performs entries (record { session = s; words = ws₁; rooms = rooms; answers = answers; place = 0 }) last
      → MadePromise shape structure ws entries rooms answers number last.place last.words last.rooms last.answers
  made_accepted {last} z R =
      let none : cause ≡ 0 = sym O.said ∙ z in
      let D = demand3 shape structure ws number s ws₁ O z (calls_of entries) R.answered last.session last.words R.trace in
      let w : due shape structure ws entries rooms answers ≡ woven entries R.answered = due_all none
      ∙ ap (woven entries) (sym D.same) in
      let H : Holds (woven entries R.answered) answers last.answers last.place = R.adds.behind [] answers
      (record { now_is = sym (overlay_none answers); place_is = omega arith }) in
      record {
        opening = O.said;
        said = rw w H.now_is;
        places_written = rw w H.place_is;
        refused_words = λ h. absurd (omega arith);
        refused_rooms = λ h. absurd (omega arith);
        accepted = λ e. record {
          answered = R.answered;
          session = last.session;
          trace = subst (λ (x : Session). Trace x (open_words ws) (calls_of entries) R.answered last.session last.words)
              (O.session ∙ kept_new blank (open_record shape structure) cause none)
              (subst (λ (vs : List ℕ). Trace s vs (calls_of entries) R.answered last.session last.words)
              (O.words ∙ kept_new ws (open_words ws) cause none) R.trace);
          outputs = R.rooms;
        };
      }

  pub made_refused : 0 < number → MadePromise shape structure ws entries rooms answers number 0 ws₁ rooms answers
  made_refused h =
      let some : cause ≡ suc (cause - 1) = omega (arith, O.said) in
      let w : due shape structure ws entries rooms answers ≡ [] = due_none (cause - 1) some in
      record {
        opening = O.said;
        said = rw w (sym (overlay_none answers));
        places_written = rw w (omega arith);
        refused_words = λ k. O.words ∙ kept_old ws (open_words ws) cause (cause - 1) some;
        refused_rooms = λ k. refl;
        accepted = λ e. absurd (omega arith);
      }

-- the promise, of slices that hold the same and the same place
module _ {shape structure ws : List ℕ} {entries : List Entry} {rooms : Rooms} {answers : List ℕ} {number places places' : ℕ} where
  pub made_same : {ws' ws'' : List ℕ} {rooms' : Rooms} {answers' answers'' : List ℕ}
      → MadePromise shape structure ws entries rooms answers number places ws' rooms' answers' → places' ≡ places → ws'' ≡ ws'
      → answers'' ≡ answers' → MadePromise shape structure ws entries rooms answers number places' ws'' rooms' answers''
  made_same M o p q = rw (o, p, q) M
