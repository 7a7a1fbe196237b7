-- `Boundaries::push_singles` meets its contract: the places of the bits that are left are the runs that are left to write.
-- Assumes nothing.
use Rattle.runs.specs.Boundaries.{places, alone}
use Rattle.runs.proofs.BoundaryLaws.{Rest}
use Rattle.runs.proofs.Boundaries.push_singles.Given as goal

abbrev pub invariant-loop-m : goal.invariant-loop-m
invariant-loop-m l = Rest l.initial.self (alone (places 64 l.m-2 l.x)) l.self (alone (places 64 l.m l.x))

abbrev pub decreases-loop-m : goal.decreases-loop-m
decreases-loop-m l = l.m
