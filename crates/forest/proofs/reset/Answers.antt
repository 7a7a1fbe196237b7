-- `forest::reset` meets its contract. The loop's invariant: runs a to before r are groups of their own, and every other word stands.
-- Assumes nothing.
use Prim.Native.Nat.{suc, ◌*◌, ◌≤◌}
use native.Mathlib.Omega.{arith}
use lib.ListN.{length}
use Rattle.frame.specs.Memory.{stride}
use Rattle.forest.proofs.ResetLaws.{reset_more, reset_end}
use Rattle.forest.proofs.reset.Goals as goal

pub loop-r-preserved : goal.loop-r-preserved
loop-r-preserved c =
    let room : stride * suc c.loop-r.r ≤ length c.loop-r.p = omega (arith, c.requires.room, c.loop-r-test.true, c.loop-r.invariant.1.1.long) in
    let l = c.loop-r in (
      omega (arith, l.invariant.0),
      (omega (arith, c.loop-r-test.true), reset_more _ _ _ _ l.invariant.0 (omega (arith, room, l.invariant.1.1.long)) l.invariant.1.1),
    )

pub returns : goal.returns
returns c = reset_end _ _ _ _ _ c.loop-r.invariant.1.0 c.loop-r-test.false c.loop-r.invariant.1.1
