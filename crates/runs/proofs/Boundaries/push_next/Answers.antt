-- `Boundaries::push_next` meets its contract.
-- Assumes nothing.
use Prim.Native.Nat.{◌-◌}
use mathlib.Core.Path.{subst}
use native.Mathlib.Omega.{arith}
use lib.Bits.{and_le_r}
use Rattle.runs.specs.Writing.{Fits}
use Rattle.runs.proofs.BoundaryLaws.{fits_next}
use Rattle.runs.proofs.MaskLaws.{next_place}
use Rattle.runs.proofs.Boundaries.push_next.Goals as goal

pub push-requires : goal.push-requires
push-requires c =
    let a = c.args in
    let p = c.requires.some in
    fits_next (subst (Fits a.self.now a.x) (next_place a.e a.x c.lowest.ensures (λ z. omega arith) (omega arith)) c.requires.fits)

pub returns : goal.returns
returns c =
    let a = c.args in
    let p = c.requires.some in
    record {
      place = c.lowest.result;
      lowest = next_place a.e a.x c.lowest.ensures (λ z. omega arith) (omega arith);
      writes = c.push.ensures;
      less = omega (arith, and_le_r a.e (a.e - 1));
    }
