-- `Boundaries::push_singles` meets its contract: the places of the bits that are left are the runs that are left to write.
-- Assumes nothing.
use Rattle.runs.proofs.BoundaryLaws.{rest_same, rest_one, rest_fits, rest_none, fits_next}
use Rattle.runs.proofs.MaskLaws.{next_alone, none_alone}
use Rattle.runs.proofs.Boundaries.push_singles.Goals as goal

pub push-requires : goal.push-requires
push-requires c =
    let v = c.loop-m in
    let next = rest_same (next_alone v.m c.args.x c.lowest-p.ensures c.loop-m-test.true v.auto.m-fits.fits) v.invariant in
    fits_next (rest_fits next c.requires)

pub push-requires-in-loop-m : goal.push-requires-in-loop-m
push-requires-in-loop-m c =
    let v = c.loop-m in
    let next = rest_same (next_alone v.m c.args.x c.lowest-p.ensures c.loop-m-test.true v.auto.m-fits.fits) v.invariant in
    fits_next (rest_fits (rest_one next c.push.ensures) c.requires)

-- a run's start is written, and its end
pub loop-m-preserved : goal.loop-m-preserved
loop-m-preserved c =
    let v = c.loop-m in
    let next = rest_same (next_alone v.m c.args.x c.lowest-p.ensures c.loop-m-test.true v.auto.m-fits.fits) v.invariant in
    rest_one (rest_one next c.push.ensures) c.push-in-loop-m.ensures

pub returns : goal.returns
returns c =
    let l = c.loop-m in
    rest_none (rest_same (none_alone l.m c.args.x c.loop-m-test.false) l.invariant)
