-- `leading_dims` meets its contract: the four cases.
-- Assumes nothing.
use native.Mathlib.Omega.{arith}
use Rattle.geo.proofs.DimsLaws.{rank_limits, three_of_1, three_of_2, three_of_3, three_of_4}
use Rattle.geo.proofs.leading_dims.Goals as goal

pub returns-in-1 : goal.returns-in-1
returns-in-1 c = three_of_1 c.args.rank c.args.shape c.in-1.is

pub returns-in-2 : goal.returns-in-2
returns-in-2 c = three_of_2 c.args.rank c.args.shape c.in-2.is

pub returns-in-3 : goal.returns-in-3
returns-in-3 c = three_of_3 c.args.rank c.args.shape c.in-3.is

pub returns-in_default : goal.returns-in_default
returns-in_default c =
    let r = rank_limits c.args.rank c.args.shape c.requires in
    three_of_4 c.args.rank c.args.shape (omega arith)
