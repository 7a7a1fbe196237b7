-- `union_block` meets its contract. The loop's invariant: the first `done` lines are united, and the runs of the others are their own
-- parents.
-- Assumes nothing.
use Prim.Native.Nat.{◌+◌, ◌-◌}
use Rattle.block.proofs.LineUnionLaws.{Going}
use Rattle.block.proofs.union_block.Given as goal

abbrev pub invariant-loop-done : goal.invariant-loop-done
invariant-loop-done l =
    Going l.g.leads l.g.dims l.g.lines l.structure l.initial.words l.fed (l.fed + l.k - 1) l.done l.words l.joins
