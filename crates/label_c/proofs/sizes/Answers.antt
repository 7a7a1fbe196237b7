-- `sizes` keeps its promise: it is not made, or it is what the size call and its end are.
-- Assumes nothing.
use Rattle.std.proofs.lemmas.Result.{err_from_is_err_and}
use Rattle.label_c.proofs.CallLaws.{sizes_early}
use Rattle.label_c.proofs.sizes.Goals as goal

pub returns-in_err-session : goal.returns-in_err-session
returns-in_err-session c =
    let p = err_from_is_err_and c.from_residual.result c.from_residual.ensures.1 in
    rw (p.1, p.2) (sizes_early _ c.in_err-session.ensures)
