-- Document 01's values for each case of an answer. A contract says a promise of these.
-- Assumes nothing.
use Rattle.std.specs.Prelude.{ℕ, Result, Ok, Err}
use Rattle.frame.specs.Plain.{Answer, fed, counted, refused}
use Rattle.causes.specs.declared.Cause.{Cause}
use Rattle.causes.specs.Cases.{cause_number}
use Rattle.label.specs.declared.Session.{Session}
use Rattle.label.specs.declared.FedLines.{FedLines}
use Rattle.label.specs.declared.Counted.{Counted}
use Rattle.label.specs.Opening.{blank}

-- an opening answers a number only: 0 where it is accepted
abbrev pub open_number : Result Session Cause → ℕ
open_number (Ok s) = 0
open_number (Err c) = cause_number c

-- and the record: a refused opening has a blank one
abbrev pub opened : Result Session Cause → Session
opened (Ok s) = s
opened (Err c) = blank

abbrev pub feed_answer : Result FedLines Cause → Answer
feed_answer (Ok f) = fed f.lines f.figures
feed_answer (Err c) = refused (cause_number c)

abbrev pub read_answer : Result Counted Cause → Answer
read_answer (Ok c) = counted c.n c.figures
read_answer (Err c) = refused (cause_number c)
