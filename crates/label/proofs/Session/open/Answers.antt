-- `open` meets its promise: it is refused with the cause that its check finds, and else writes word 0 alone.
-- Assumes nothing.
use Rattle.std.proofs.Common.{◌≡◌, Err, rules}
use Rattle.label.proofs.AcceptedLaws.{passed_word, passed_short, passed_open}
use Rattle.label.proofs.RefusedLaws.{failed_open}
use Rattle.label.proofs.Session.open.Goals as goal

pub returns-in_err-open_check : goal.returns-in_err-open_check
returns-in_err-open_check c =
    let same : c.from_residual.result ≡ Err c.in_err-open_check.field-0.0 = search rules in
    failed_open c.open_check.ensures c.in_err-open_check.was same

pub bounds-words-0 : goal.bounds-words-0
bounds-words-0 c = passed_word _ _ _ c.open_check.ensures c.in_ok-open_check.was

pub open_record-requires : goal.open_record-requires
open_record-requires c = passed_short _ _ _ c.open_check.ensures c.in_ok-open_check.was

pub returns : goal.returns
returns c = passed_open c.open_check.ensures c.in_ok-open_check.was c.open_record.ensures
