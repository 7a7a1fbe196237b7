-- `mask` meets its contract.
-- Assumes nothing.
use mathlib.Core.Path.{◌∙◌}
use Rattle.runs.proofs.MaskLaws.{shows_mask}
use Rattle.runs.proofs.mask.Goals as goal

pub returns : goal.returns
returns g c = c.mask64.ensures ∙ shows_mask _ _ c.bytes.ensures
