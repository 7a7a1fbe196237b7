-- `end_open` meets its contract: by the opening's case.
-- Assumes nothing.
use Rattle.std.proofs.Common.{refl}
use Rattle.std.proofs.lemmas.Result.{err_from_is_err_and}
use Rattle.causes.proofs.CaseLaws.{positive}
use Rattle.record_c.proofs.EndLaws.{record_written, record_stands}
use Rattle.record_c.proofs.end_open.Goals as goal

pub returns-in_err-session : goal.returns-in_err-session
returns-in_err-session c =
    let p = err_from_is_err_and c.from_residual.result c.from_residual.ensures.1 in
    rw (p.1, p.2, c.in_err-session.was) (refl, record_stands _ _ _ (positive c.in_err-session.field-0.0))

pub returns : goal.returns
returns c = rw c.in_ok-session.was (refl, record_written 0 _ _ refl c.write_record.ensures)
