-- `open` keeps its promise: the record is long enough, and a session is opened.
-- Assumes nothing.
use Rattle.std.proofs.Common.{arith}
use Rattle.label_c.proofs.CallLaws.{open_made}
use Rattle.label_c.proofs.open.Goals as goal

pub returns : goal.returns
returns c =
    let s = c.args in
    open_made s.shape.now s.structure.now s.words.now s.rec.now (omega arith) c.open.ensures c.end_open.ensures.0 c.end_open.ensures.1
