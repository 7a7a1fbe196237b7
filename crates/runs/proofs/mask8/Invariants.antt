-- `mask8` meets its contract: after each turn s is the mask of the first i bytes from j on.
-- Assumes nothing.
use mathlib.Core.Path.{◌≡◌}
use mathlib.Core.Bool.{Bool}
use mathlib.Core.List.{List}
use lib.ListN.{drop}
use Rattle.runs.specs.Masks.{mask_of, Weighs}
use Rattle.runs.proofs.mask8.Given as goal

abbrev pub invariant-loop-i : goal.invariant-loop-i
invariant-loop-i v = (l : List Bool) → Weighs l v.t 64 → v.s ≡ mask_of v.i (drop v.j l)
