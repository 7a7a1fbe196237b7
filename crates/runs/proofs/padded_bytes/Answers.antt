-- `padded_bytes` meets its contract: after each turn the first i cells are shown, and the bytes after them are zero.
-- Assumes nothing.
use Rattle.runs.proofs.CopyLaws.{copy_none}
use Rattle.runs.proofs.padded_bytes.Goals as goal

pub loop-i-init : goal.loop-i-init
loop-i-init g c = copy_none _
