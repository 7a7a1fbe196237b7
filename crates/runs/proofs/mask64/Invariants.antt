-- `mask64` meets its contract: after each turn m is the mask of eight bytes more.
-- Assumes nothing.
use Prim.Native.Nat.{◌*◌}
use mathlib.Core.Path.{◌≡◌}
use mathlib.Core.Bool.{Bool}
use mathlib.Core.List.{List}
use Rattle.runs.specs.Masks.{mask_of, Weighs}
use Rattle.runs.proofs.mask64.Given as goal

abbrev pub invariant-loop-eight : goal.invariant-loop-eight
invariant-loop-eight v = (l : List Bool) → Weighs l v.t 64 → v.m ≡ mask_of (8 * v.eight) l
