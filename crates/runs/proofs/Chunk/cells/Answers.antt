-- `Chunk::cells` meets its contract.
-- Assumes nothing.
use mathlib.Core.Path.{sym, ◌∙◌}
use native.Mathlib.Omega.{arith}
use Rattle.runs.proofs.ChunkCellLaws.{edgeless_ones}
use Rattle.runs.proofs.Chunk.cells.Goals as goal

pub returns-then-edges-eq0 : goal.returns-then-edges-eq0
returns-then-edges-eq0 c =
    edgeless_ones c.args.self.m c.args.self.carry (omega arith) c.requires (sym c.edges.ensures ∙ c.if-edges-eq0.true)
