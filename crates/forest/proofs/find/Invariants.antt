-- `forest::find` meets its contract. The loop's invariant: every root stands, and run `at` has the root of `x`. The measure is `at`,
-- since a parent is below its run until the root.
-- Assumes nothing.
use Prim.Native.Nat.{◌≤◌}
use Rattle.forest.specs.Forest.{root_of}
use Rattle.forest.specs.Unions.{parent_in, Finds}
use Rattle.forest.proofs.find.Given as goal

abbrev pub invariant-loop-x : goal.invariant-loop-x
invariant-loop-x l = (l.at ≤ l.x) × Finds l.initial.p l.p l.x (root_of (parent_in l.p) l.at)

abbrev pub decreases-loop-x : goal.decreases-loop-x
decreases-loop-x l = l.at
