-- `full_bytes` meets its contract: after each turn eight cells more are shown, in the inner loop j more, and the bytes after them are zero.
-- Assumes nothing.
use Prim.Native.Nat.{◌+◌, ◌*◌}
use mathlib.Core.List.{map}
use Rattle.runs.proofs.CopyLaws.{Copied}
use Rattle.runs.proofs.full_bytes.Given as goal

abbrev pub invariant-loop-eight : goal.invariant-loop-eight
invariant-loop-eight g l = Copied (map g.T.Nz.nonzero l.cells) l.b (8 * l.eight)

abbrev pub invariant-loop-j : goal.invariant-loop-j
invariant-loop-j g l = Copied (map g.T.Nz.nonzero l.cells) l.b (8 * l.eight + l.j)
