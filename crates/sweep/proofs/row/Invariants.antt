-- `sweep::row` meets its contract. The loop's invariant: run `i` was united with the runs from `j` to before `m` that start before it ends.
-- Assumes nothing.
use Rattle.frame.specs.Structure.{digit}
use Rattle.sweep.proofs.TurnLaws.{RowTo}
use Rattle.sweep.proofs.row.Given as goal

abbrev pub invariant-loop-m : goal.invariant-loop-m
invariant-loop-m l = RowTo l.initial.p (digit l.lo) l.i l.j l.nb l.p l.m l.joins
