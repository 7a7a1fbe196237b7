-- `fill` meets its contract. The loop's invariant: the cells a to before x are filled.
-- Assumes nothing.
use mathlib.Core.Path.{refl}
use native.Mathlib.Omega.{arith}
use Rattle.write.proofs.ValueLaws.{value_more}
use Rattle.write.proofs.fill.Goals as goal

pub loop-x-preserved : goal.loop-x-preserved
loop-x-preserved g c =
    let I = c.loop-x.invariant in
    (omega (arith, I.0), (omega arith, value_more g.T.FromU32.kind g.T.FromU32.value c.loop-x.out I.1.1 _ refl I.0 (omega arith)))
