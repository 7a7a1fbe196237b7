-- The byte of an f32 is nonzero exactly where the cell is.
-- Assumes nothing.
use mathlib.Core.Path.{◌∙◌}
use Rattle.runs.proofs.CopyLaws.{nz_byte}
use Rattle.runs.proofs.NzLaws.{nz_single}
use Rattle.runs.proofs.F32Nz.byte.Goals as goal

pub returns : goal.returns
returns c = nz_byte _ ∙ nz_single c.args.self
