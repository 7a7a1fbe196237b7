-- `sizes_check` meets its contract: a sound record is checked further, by its geometry.
-- Assumes nothing.
use mathlib.Core.Path.{◌∙◌}
use Rattle.std.proofs.Common.{◌≡◌, Err, rules}
use Rattle.label.proofs.FitLaws.{joins_fit}
use Rattle.label.proofs.CheckLaws.{sizes_unsound, found_geometry, then_failed, then_passed, sizes_decides, found_sound}
use Rattle.label.proofs.Session.sizes_check.Goals as goal

pub returns-in_err-g : goal.returns-in_err-g
returns-in_err-g c =
    let same : c.from_residual.result ≡ Err c.in_err-g.field-0.0 = search rules in
    sizes_unsound _ _ c.sound_check.ensures c.in_err-g.was same _

pub overflow_sub-self : goal.overflow_sub-self
overflow_sub-self c = joins_fit _ _ (found_sound _ _ c.sound_check.ensures c.in_ok-g.was)

pub returns-in_err-sizes_check : goal.returns-in_err-sizes_check
returns-in_err-sizes_check c =
    let same : c.from_residual-in_err-sizes_check.result ≡ Err c.in_err-sizes_check.field-0.0 = search rules in
    then_failed c.args.self (c.sizes_check.ensures ∙ sizes_decides _ _ c.sound_check.ensures c.in_ok-g.was _)
    c.in_err-sizes_check.was same

pub returns : goal.returns
returns c =
    then_passed c.args.self (c.sizes_check.ensures ∙ sizes_decides _ _ c.sound_check.ensures c.in_ok-g.was _) c.in_ok-sizes_check.was
    (found_geometry _ _ c.sound_check.ensures c.in_ok-g.was)
