-- `fill` meets its contract. The loop's invariant: the cells a to before x are filled.
-- Assumes nothing.
use Prim.Native.Nat.{◌≤◌, max}
use mathlib.Core.List.{map}
use Rattle.write.specs.Steps.{Filled}
use Rattle.write.proofs.fill.Given as goal

abbrev pub invariant-loop-x : goal.invariant-loop-x
invariant-loop-x g l =
    let value = g.T.FromU32.value in
    (l.a ≤ l.x) × ((l.x ≤ max l.a l.e) × Filled g.T.FromU32.kind l.a l.x (value l.v) (map value l.initial.out) (map value l.out))
