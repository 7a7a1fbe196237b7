-- `Boundaries::push_edges` meets its contract: the places of the bits that are left are the boundaries that are left to write.
-- Assumes nothing.
use native.Mathlib.Omega.{arith}
use Rattle.runs.proofs.BoundaryLaws.{rest_same, rest_took, rest_fits, rest_none}
use Rattle.runs.proofs.MaskLaws.{no_place}
use Rattle.runs.proofs.Boundaries.push_edges.Goals as goal

pub push_next-e-requires-in-loop-e-clause-fits : goal.push_next-e-requires-in-loop-e-clause-fits
push_next-e-requires-in-loop-e-clause-fits c = rest_fits (rest_took c.loop-e.invariant c.push_next-e.ensures) c.requires

pub returns-then-e-eq0 : goal.returns-then-e-eq0
returns-then-e-eq0 c =
    rest_none (rest_same (no_place _ _ c.if-e-eq0.true) (rest_took c.loop-e.invariant c.push_next-e.ensures))

-- the next boundary is written, and the one after it
pub loop-e-preserved : goal.loop-e-preserved
loop-e-preserved c = rest_took (rest_took c.loop-e.invariant c.push_next-e.ensures) c.push_next-e-in-loop-e.ensures

pub returns : goal.returns
returns c = rest_none (rest_same (no_place _ _ (omega (arith, c.loop-e-test.false))) c.loop-e.invariant)
