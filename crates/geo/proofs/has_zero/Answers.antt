-- `has_zero` meets its contract: the leading dimensions are searched for 0.
-- Assumes nothing.
use mathlib.Core.Path.{◌∙◌}
use Rattle.geo.proofs.DimsLaws.{zero_among}
use Rattle.geo.proofs.has_zero.Goals as goal

pub returns : goal.returns
returns c = c.contains.ensures.value ∙ zero_among c.args.g.dims
