-- `end_read` meets its contract: by the answer's case.
-- Assumes nothing.
use Rattle.std.proofs.Common.{refl}
use Rattle.std.proofs.lemmas.Result.{err_from_is_err_and}
use Rattle.record_c.proofs.EndLaws.{ends_refused}
use Rattle.record_c.proofs.end_read.Goals as goal

pub returns-in_err-said : goal.returns-in_err-said
returns-in_err-said c =
    let p = err_from_is_err_and c.from_residual.result c.from_residual.ensures.1 in
    rw (p.1, p.2, c.in_err-said.was) (ends_refused _ _ refl)
