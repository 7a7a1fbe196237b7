-- `make_calls` keeps its promise: the opening is refused, or the calls of the list are made.
-- Assumes nothing.
use mathlib.Core.Path.{refl}
use Rattle.std.proofs.Common.{rules}
use Rattle.causes.proofs.CaseLaws.{positive}
use Rattle.caller.specs.CallList.{decode}
use Rattle.caller.specs.Making.{lent_in, rooms_held}
use Rattle.caller.proofs.MadeLaws.{made_accepted, made_refused, made_failed, made_same}
use Rattle.caller.proofs.make_calls.Goals as goal

pub returns-in_err-session-clause-made : goal.returns-in_err-session-clause-made
returns-in_err-session-clause-made c =
    rw (made_failed c.from_residual.result c.from_residual.ensures.1)
    (made_refused c.in_err-session.ensures _ _ _ (positive _))

pub returns-clause-made : goal.returns-clause-made
returns-clause-made c =
    let s = c.args in
    let rooms = rooms_held s.rooms.now in
    let M = made_accepted c.in_ok-session.ensures (decode (lent_in s.calls rooms) s.calls.numbers.now) rooms s.answers.now refl
    c.make_all.ensures.performs in
    made_same M (search rules) (search rules) (search rules)
