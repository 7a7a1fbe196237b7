-- The byte of a u16 is nonzero exactly where the cell is.
-- Assumes nothing.
use Rattle.frame.specs.Kinds.{nz}
use Rattle.runs.proofs.CopyLaws.{nz_byte}
use Rattle.runs.proofs.U16Nz.byte.Goals as goal

pub returns : goal.returns
unfolding nz
returns c = nz_byte _
