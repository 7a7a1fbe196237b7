-- `weigh` meets its contract: after each turn the first i weights stand.
-- Assumes nothing.
use mathlib.Core.Path.{◌≡◌}
use mathlib.Core.List.{map}
use lib.ListN.{length}
use Rattle.frame.specs.Kinds.{nz}
use Rattle.runs.specs.Masks.{Weighs}
use Rattle.runs.proofs.weigh.Given as goal

abbrev pub invariant-loop-i : goal.invariant-loop-i
invariant-loop-i l = (length l.t ≡ 64) × Weighs (map nz l.b) l.t l.i
