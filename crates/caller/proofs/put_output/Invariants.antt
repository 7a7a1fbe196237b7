-- `put_output` meets its contract. The loop's invariant: the first places are written.
-- Assumes nothing.
use lib.ListN.{take}
use Rattle.std.specs.Prelude.{map}
use Rattle.overlay.specs.Writers.{Writes}
use Rattle.caller.proofs.put_output.Given as goal

abbrev pub invariant-loop-x : goal.invariant-loop-x
invariant-loop-x g l = Writes (map g.T.FromU32.value (take l.x-index l.out)) l.initial.writer l.writer
