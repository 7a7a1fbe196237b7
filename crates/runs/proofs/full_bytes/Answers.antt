-- `full_bytes` meets its contract: after each turn eight cells more are shown, in the inner loop j more, and the bytes after them are zero.
-- Assumes nothing.
use Rattle.runs.proofs.CopyLaws.{copy_none}
use Rattle.runs.proofs.full_bytes.Goals as goal

pub loop-eight-init : goal.loop-eight-init
loop-eight-init g c = copy_none _
