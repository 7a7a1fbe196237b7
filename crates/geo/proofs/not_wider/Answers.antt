-- `not_wider` meets its contract: left bytes that differ tell, and else the search of every byte does.
-- Assumes nothing.
use mathlib.Core.Path.{◌≡◌, refl, ◌∙◌}
use native.Mathlib.Omega.{arith}
use Rattle.std.proofs.Common.{rules, tests}
use Rattle.std.specs.List.{list_any, range_with_len}
use Rattle.std.proofs.lemmas.Iterator.{YieldsList-from_range}
use Rattle.std.proofs.lemmas.Iterator.Search.{any_from_yields_List}
use Rattle.frame.proofs.ChainRuleLaws.{any_same}
use Rattle.geo.proofs.AnyLaws.{any_below}
use Rattle.geo.proofs.WiderLaws.{left_test, left_tells, drops, drop_is, all_kept}
use Rattle.geo.proofs.not_wider.Goals as goal

pub returns-then-left_byte : goal.returns-then-left_byte
returns-then-left_byte c =
    let told = left_test c.args.rank c.args.old.now c.args.new.now _ _ c.left_byte.ensures c.left_byte-2.ensures in
    c.if-left_byte.true ∙ left_tells c.args.rank c.args.old.now c.args.new.now (told ∙ c.if-left_byte.true)

pub returns-else-left_byte : goal.returns-else-left_byte
returns-else-left_byte c =
    let old = c.args.old.now in
    let new = c.args.new.now in
    let n = c.power3.result in
    let alike = left_test c.args.rank old new _ _ c.left_byte.ensures c.left_byte-2.ensures ∙ c.if-left_byte.false in
    let searched : c.any.result ≡ list_any (drops old new) (range_with_len 0 n) =
    any_from_yields_List (drops old new) _ _ c.any.result c.any.ensures.ran (YieldsList-from_range 0 n n refl (omega arith))
    (λ x b q k. search (rules, tests)) in
    searched ∙ any_below (drops old new) n ∙ any_same _ _ n (λ i l. drop_is old new i) ∙ all_kept c.args.rank old new n c.power3.ensures alike
