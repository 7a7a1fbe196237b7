-- What the promise of `make_calls` says of the calls that it made: demand 3, and that their answers are what was written.
-- Assumes nothing.
use mathlib.Core.Path.{◌≡◌, refl, sym, ap, ◌∙◌}
use mathlib.Core.List.{List, []}
use Prim.Native.Nat.{ℕ}
use lib.ListN.{length}
use Rattle.frame.specs.Causes.{open_cause}
use Rattle.frame.specs.Overlay.{overlay}
use Rattle.frame.specs.Plain.{opened, plain}
use Rattle.frame.proofs.PlainLaws.{kept_new}
use Rattle.label.specs.Opening.{open_record, open_words, blank, OpenPromise}
use Rattle.calls.specs.Demand3.{AllRight, Demand3}
use Rattle.calls.proofs.Demand3.{demand3}
use Rattle.caller.specs.CallList.{Entry, calls_of, woven}
use Rattle.caller.specs.Rooms.{Rooms}
use Rattle.caller.specs.Made.{due, CallsMade, MadePromise}

module _ {shape structure ws : List ℕ} {entries : List Entry} {rooms : Rooms} {answers : List ℕ} {number places : ℕ} {ws' : List ℕ}
    {rooms' : Rooms} {answers' : List ℕ}
    (P : MadePromise shape structure ws entries rooms answers number places ws' rooms' answers') (accepted : number ≡ 0) where
  abbrev cause : ℕ
  cause = open_cause shape structure (length ws)

  none : cause ≡ 0
  none = sym P.opening ∙ accepted

  pub made : CallsMade shape structure ws entries rooms answers ws' rooms'
  made = P.accepted none

  -- the theorem, of calls that ran: every answer is right, and a reading or a size call after them is
  pub demand3_made : Demand3 shape structure (calls_of entries) made.answered made.session ws'
  demand3_made = demand3 shape structure ws 0 (open_record shape structure) (open_words ws) opens refl (calls_of entries) made.answered
      made.session ws' made.trace
    where
      opens : OpenPromise shape structure ws 0 (open_record shape structure) (open_words ws)
      opens = record {
        said = sym none;
        session = sym (kept_new blank (open_record shape structure) cause none);
        words = sym (kept_new ws (open_words ws) cause none);
      }

  -- in short: every accepted answer is right
  pub made_right : AllRight shape (opened structure) (calls_of entries) made.answered
  made_right = demand3_made.right

  -- and these answers were written
  pub made_written : answers' ≡ overlay (woven entries made.answered) answers
  made_written =
      let all : due shape structure ws entries rooms answers ≡ woven entries (plain shape (opened structure) (calls_of entries)) = due_is in
      P.said ∙ ap (λ (xs : List ℕ). overlay xs answers) (all ∙ ap (woven entries) (sym demand3_made.same))
    where
      due_is : due shape structure ws entries rooms answers ≡ woven entries (plain shape (opened structure) (calls_of entries))
      due_is = unfold due in kept_new {A = List ℕ} [] (woven entries (plain shape (opened structure) (calls_of entries))) cause none
