-- `paint_run` meets its contract. The loop's invariant: the cells s to before x are filled, and x is fewer than eight cells past e.
-- Assumes nothing.
use Prim.Native.Nat.{◌+◌, ◌≤◌, ◌<◌, ◌-◌}
use mathlib.Core.List.{map}
use Rattle.write.specs.Steps.{Filled}
use Rattle.write.proofs.paint_run.Given as goal

abbrev pub invariant-loop-x : goal.invariant-loop-x
invariant-loop-x g l =
    let value = g.T.FromU32.value in
    (l.s ≤ l.x) × ((l.x < l.e + 8) × Filled g.T.FromU32.kind l.s l.x (value l.v) (map value l.initial.out) (map value l.out))

abbrev pub decreases-loop-x : goal.decreases-loop-x
decreases-loop-x g l = l.e - l.x
