-- `forest::reset` meets its contract. The loop's invariant: runs a to before r are groups of their own, and every other word stands.
-- Assumes nothing.
use Prim.Native.Nat.{◌≤◌, max}
use Rattle.forest.specs.Unions.{Reset}
use Rattle.forest.proofs.reset.Given as goal

abbrev pub invariant-loop-r : goal.invariant-loop-r
invariant-loop-r l = (l.a ≤ l.r) × ((l.r ≤ max l.a l.b) × Reset l.initial.p l.p l.a l.r)
