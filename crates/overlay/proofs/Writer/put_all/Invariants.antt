-- `Writer::put_all` meets its contract. The loop's invariant: the first entries are written.
-- Assumes nothing.
use Rattle.std.proofs.Common.{take}
use Rattle.overlay.specs.Writers.{Writes}
use Rattle.overlay.proofs.Writer.put_all.Given as goal

abbrev pub invariant-loop-x : goal.invariant-loop-x
invariant-loop-x g l = Writes (take l.x-index l.list) l.initial.self l.self
