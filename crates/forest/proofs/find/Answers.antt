-- `forest::find` meets its contract. The loop's invariant: every root stands, and run `at` has the root of `x`. The measure is `at`,
-- since a parent is below its run until the root.
-- Assumes nothing.
use mathlib.Core.Path.{sym, ◌∙◌}
use native.Mathlib.Nat.{le_refl}
use native.Mathlib.Omega.{arith}
use Rattle.forest.specs.Unions.{parent_in}
use Rattle.forest.proofs.ForestLaws.{root_stays, root_parent}
use Rattle.forest.proofs.ParentLaws.{only_parents}
use Rattle.forest.proofs.UnionLaws.{found_half}
use Rattle.forest.proofs.find.Goals as goal

-- the parent of `at` is its own parent: the root of `at`, and so of x
pub returns-then-over-up : goal.returns-then-over-up
returns-then-over-up c =
    let l = c.loop-x in
    λ n P h. let I = l.invariant.1 n P h in record {
      kept = I.kept;
      same = I.same;
      found =
          sym (root_stays (parent_in l.p) _ c.if-over-up.true)
          ∙ root_parent (parent_in l.p) n I.kept.low l.at (omega (arith, l.invariant.0)) ∙ I.found;
    }

pub loop-x-preserved : goal.loop-x-preserved
loop-x-preserved c =
    let l = c.loop-x in
    let parents = only_parents _ _ _ c.requires (l.invariant.1 _ c.requires (le_refl _)).kept in
    let low = parents.low l.at (omega (arith, l.invariant.0)) in
    let low_up = parents.low (parent_in l.p l.at) (omega (arith, low, l.invariant.0)) in (
      omega (arith, low, low_up, l.invariant.0),
      λ n P h. found_half _ _ n _ _ P (omega (arith, l.invariant.0)) (l.invariant.1 n P h),
    )
