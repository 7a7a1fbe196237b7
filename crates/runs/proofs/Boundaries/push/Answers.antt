-- `Boundaries::push` meets its contract: what it stores is the next boundary.
-- Assumes nothing.
use mathlib.Core.Path.{refl}
use native.Mathlib.Omega.{arith}
use Rattle.runs.specs.Boundaries.{put_boundaries}
use Rattle.runs.proofs.Boundaries.push.Goals as goal

pub returns : goal.returns
unfolding put_boundaries
returns c = record { put = record { next = omega arith; written = refl }; same = refl; held = refl }
