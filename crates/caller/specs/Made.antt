-- What `make_calls` promises: the plain session's answers, and calls that led there one after another.
-- Assumes nothing.
use Rattle.std.specs.Prelude.{◌≡◌, Result, Ok, Err, List, [], ℕ, min, ◌<◌, length}
use Rattle.frame.specs.Causes.{open_cause}
use Rattle.causes.specs.declared.Cause.{Cause}
use Rattle.causes.specs.Cases.{cause_number}
use Rattle.frame.specs.Plain.{kept, Answered, opened, plain}
use Rattle.label.specs.declared.Session.{Session}
use Rattle.label.specs.Opening.{open_record, open_words}
use Rattle.calls.specs.Trace.{Trace}
use Rattle.caller.specs.CallList.{Entry, calls_of, woven}
use Rattle.frame.specs.Overlay.{overlay}
use Rattle.caller.specs.Rooms.{Rooms, rooms_after}

-- the arguments at entry: shape, structure, words; what the list of calls decodes to; the rooms and the answers
module _ (shape structure ws : List ℕ) (entries : List Entry) (rooms : Rooms) (answers : List ℕ) where
  -- the opening's number, or 0
  abbrev pub cause : ℕ
  cause = open_cause shape structure (length ws)

  -- what is to be written to the answers: nothing, where the opening is refused
  unfoldable pub due : List ℕ
  due = kept cause [] (woven entries (plain shape (opened structure) (calls_of entries)))

  -- the calls were made one after another, from the record and the words that the opening left
  pub record CallsMade (ws' : List ℕ) (rooms' : Rooms) : Type 0 where
    pub answered : List Answered
    pub session : Session
    pub trace : Trace (open_record shape structure) (open_words ws) (calls_of entries) answered session ws'
    pub outputs : rooms' ≡ rooms_after answered rooms

  -- the opening's number, how many answers were written, and the slices afterwards
  pub record MadePromise (number places : ℕ) (ws' : List ℕ) (rooms' : Rooms) (answers' : List ℕ) : Type 0 where
    pub opening : number ≡ cause
    pub said : answers' ≡ overlay due answers
    pub places_written : places ≡ min (length due) (length answers)
    pub refused_words : 0 < cause → ws' ≡ ws
    pub refused_rooms : 0 < cause → rooms' ≡ rooms
    pub accepted : cause ≡ 0 → CallsMade ws' rooms'

-- both of what the code answers: how many were written, or why the opening is refused
abbrev pub made_number : Result ℕ Cause → ℕ
made_number (Ok places) = 0
made_number (Err c) = cause_number c

abbrev pub made_places : Result ℕ Cause → ℕ
made_places (Ok places) = places
made_places (Err c) = 0
