-- `forest::join` meets its contract: what it stores is the equation.
-- Assumes nothing.
use mathlib.Core.Path.{refl}
use Rattle.forest.specs.Unions.{joined}
use Rattle.forest.proofs.join.Goals as goal

pub returns : goal.returns
unfolding joined
returns c = refl
