-- `Boundaries::push_edges` meets its contract: the places of the bits that are left are the boundaries that are left to write.
-- Assumes nothing.
use Rattle.runs.specs.Boundaries.{places}
use Rattle.runs.proofs.BoundaryLaws.{Rest}
use Rattle.runs.proofs.Boundaries.push_edges.Given as goal

abbrev pub invariant-loop-e : goal.invariant-loop-e
invariant-loop-e l = Rest l.initial.self (places 64 l.e-2 l.x) l.self (places 64 l.e l.x)

abbrev pub decreases-loop-e : goal.decreases-loop-e
decreases-loop-e l = l.e
