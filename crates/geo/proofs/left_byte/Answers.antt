-- `left_byte` meets its contract: the byte before the centre is there.
-- Assumes nothing.
use mathlib.Core.Path.{ap}
use Prim.Native.Nat.{ℕ, ◌-◌, ◌/◌}
use native.Mathlib.Omega.{arith}
use Rattle.frame.specs.Structure.{on}
use Rattle.geo.proofs.LeftLaws.{power_three}
use Rattle.geo.proofs.left_byte.Goals as goal

pub overflow_sub-result : goal.overflow_sub-result
overflow_sub-result c = omega (arith, power_three c.args.rank c.requires.0, c.power3.ensures)

pub bounds-structure-power3 : goal.bounds-structure-power3
bounds-structure-power3 c = omega (arith, power_three c.args.rank c.requires.0, c.power3.ensures, c.requires.2)

pub returns : goal.returns
unfolding on
returns c = ap (λ (k : ℕ). on c.args.structure.now (k / 2 - 1)) c.power3.ensures
