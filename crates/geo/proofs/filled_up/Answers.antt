-- `filled_up` meets its contract: what is left of the array is as it was made.
-- Assumes nothing.
use Rattle.geo.proofs.CopyLaws.{front_written}
use Rattle.geo.proofs.filled_up.Goals as goal

pub returns : goal.returns
returns g c = front_written _ _ _ _ c.copy_from_slice.ensures.after
