-- `last_dim` meets its contract: the rank is in range.
-- Assumes nothing.
use native.Mathlib.Omega.{arith}
use Rattle.geo.proofs.DimsLaws.{rank_limits, width_at}
use Rattle.geo.proofs.last_dim.Goals as goal

pub overflow_sub-result : goal.overflow_sub-result
overflow_sub-result c = (rank_limits c.args.rank c.args.shape c.requires).0

pub offset_bounds-shape-rank : goal.offset_bounds-shape-rank
offset_bounds-shape-rank c = record { fits = omega (arith, rank_limits c.args.rank c.args.shape c.requires) }

pub bounds-shape-rank : goal.bounds-shape-rank
bounds-shape-rank c = omega (arith, rank_limits c.args.rank c.args.shape c.requires)

pub returns : goal.returns
returns c = width_at c.args.rank c.args.shape c.requires
