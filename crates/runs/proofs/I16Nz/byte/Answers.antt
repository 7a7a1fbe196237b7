-- The byte of an i16 is nonzero exactly where the cell is.
-- Assumes nothing.
use mathlib.Core.Path.{◌∙◌}
use Rattle.runs.proofs.CopyLaws.{nz_byte}
use Rattle.runs.proofs.NzLaws.{nz_signed}
use Rattle.runs.proofs.I16Nz.byte.Goals as goal

pub returns : goal.returns
returns c = nz_byte _ ∙ nz_signed c.args.self c.ranges.self
