-- `widen` meets its contract: refused, or the stored lines are united again.
-- Assumes nothing.
use Rattle.label.proofs.RefusedLaws.{failed_widen}
use Rattle.label.proofs.WidenBlockLaws.{passed_ready, passed_bytes, passed_widen}
use Rattle.label.proofs.Session.widen.Goals as goal

pub returns-in-Err : goal.returns-in-Err
returns-in-Err c = failed_widen c.widen_check.ensures c.in-Err.is

pub union_block-joins-requires : goal.union_block-joins-requires
union_block-joins-requires c = passed_ready _ _ _ c.widen_check.ensures c.in-Ok.is

pub with_structure-session-requires : goal.with_structure-session-requires
with_structure-session-requires c = passed_bytes _ _ _ c.widen_check.ensures c.in-Ok.is

pub returns-in-Ok : goal.returns-in-Ok
returns-in-Ok c =
    passed_widen _ _ _ c.widen_check.ensures c.in-Ok.is c.union_block-joins.ensures c.with_structure-session.ensures
    c.fed_lines.ensures
