-- `sweep::skip` meets its contract. The loop's invariant: the runs from `j` to before `m` end by the start of run `i`.
-- Assumes nothing.
use Rattle.frame.specs.Structure.{digit}
use Rattle.sweep.specs.Sweeps.{run_in}
use Rattle.sweep.proofs.TurnLaws.{SkipTo}
use Rattle.sweep.proofs.skip.Given as goal

abbrev pub invariant-loop-m : goal.invariant-loop-m
invariant-loop-m l = SkipTo (digit l.hi) (run_in l.p) l.i l.j l.nb l.m
