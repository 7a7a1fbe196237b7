-- `extract_line` meets its contract: after i chunks the boundaries from the next one on are left to be written, the cells to be counted.
-- Assumes nothing.
use Prim.Native.Nat.{◌*◌}
use mathlib.Core.List.{map}
use Rattle.runs.proofs.ChunkLaws.{Going}
use Rattle.runs.proofs.extract_line.Given as goal

abbrev pub invariant-loop-i : goal.invariant-loop-i
invariant-loop-i g l = Going l.left (map g.T.Nz.nonzero l.line) l.initial.boundaries l.boundaries l.cells l.carry (64 * l.i)
