-- `lopsided` meets its contract: the search is of the pairs before the centre, which decide.
-- Assumes nothing.
use mathlib.Core.Path.{◌≡◌, refl, ◌∙◌}
use Prim.Native.Nat.{◌-◌, ◌/◌}
use native.Mathlib.Omega.{arith}
use Rattle.std.proofs.Common.{rules, tests}
use Rattle.std.specs.List.{list_any, range_with_len}
use Rattle.std.proofs.lemmas.Iterator.{YieldsList-from_range}
use Rattle.std.proofs.lemmas.Iterator.Search.{any_from_yields_List}
use Rattle.frame.specs.Structure.{on}
use Rattle.geo.proofs.AnyLaws.{any_below}
use Rattle.geo.proofs.LeftLaws.{power_three}
use Rattle.geo.proofs.LopsidedLaws.{differs, half_searched}
use Rattle.geo.proofs.lopsided.Goals as goal

pub overflow_sub-last : goal.overflow_sub-last
overflow_sub-last c = omega (arith, power_three c.args.rank c.requires.0, c.power3.ensures)

pub returns : goal.returns
unfolding on
returns c =
    let s = c.args.structure.now in
    let last = c.power3.result - 1 in
    let half = YieldsList-from_range 0 (last / 2) (last / 2) refl (omega arith) in
    let searched : c.any.result ≡ list_any (differs last s) (range_with_len 0 (last / 2)) =
    any_from_yields_List (differs last s) _ _ c.any.result c.any.ensures.ran half (λ x b q k. search (rules, tests)) in
    searched ∙ any_below (differs last s) (last / 2)
    ∙ half_searched c.args.rank last s (omega (arith, power_three c.args.rank c.requires.0, c.power3.ensures)) c.requires.0 c.requires.1
