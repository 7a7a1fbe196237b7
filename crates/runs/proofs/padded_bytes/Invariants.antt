-- `padded_bytes` meets its contract: after each turn the first i cells are shown, and the bytes after them are zero.
-- Assumes nothing.
use mathlib.Core.List.{map}
use Rattle.runs.proofs.CopyLaws.{Copied}
use Rattle.runs.proofs.padded_bytes.Given as goal

abbrev pub invariant-loop-i : goal.invariant-loop-i
invariant-loop-i g l = Copied (map g.T.Nz.nonzero l.cells) l.b l.i
