-- `shape_of` meets its contract: the entries past it are 0.
-- Assumes nothing.
use Rattle.frame.specs.Lists.{padded}
use Rattle.geo.proofs.shape_of.Goals as goal

pub returns : goal.returns
unfolding padded
returns c = c.filled_up.ensures
