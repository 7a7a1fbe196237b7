-- `sweep::sweep` meets its contract. The loop's invariant: the current runs before `i` were swept, and the neighbours before `j` end by
-- the start of run `i`.
-- Assumes nothing.
use Rattle.frame.specs.Structure.{digit}
use Rattle.sweep.proofs.TurnLaws.{SweepTo}
use Rattle.sweep.proofs.sweep.Given as goal

abbrev pub invariant-loop-i : goal.invariant-loop-i
invariant-loop-i l =
    SweepTo l.initial.p (digit l.lo) (digit l.hi) l.at l.p l.i l.j l.joins
