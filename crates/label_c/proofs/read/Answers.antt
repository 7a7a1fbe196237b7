-- `read` keeps its promise: it is not made, or it is what the reading and its end are.
-- Assumes nothing.
use Rattle.std.proofs.lemmas.Result.{err_from_is_err_and}
use Rattle.label_c.proofs.CallLaws.{read_early}
use Rattle.label_c.proofs.read.Goals as goal

pub returns-in_err-session : goal.returns-in_err-session
returns-in_err-session g c =
    let p = err_from_is_err_and c.from_residual.result c.from_residual.ensures.1 in
    rw (p.1, p.2) (read_early _ c.in_err-session.ensures)
