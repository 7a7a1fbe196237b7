-- `widen_check` meets its contract: a sound record is checked further, by its geometry.
-- Assumes nothing.
use mathlib.Core.Path.{◌∙◌}
use Rattle.std.proofs.Common.{◌≡◌, Err, rules}
use Rattle.label.proofs.CheckLaws.{widen_unsound, found_geometry, then_failed, then_passed, widen_decides, widen_asked}
use Rattle.label.proofs.Session.widen_check.Goals as goal

pub returns-in_err-g : goal.returns-in_err-g
returns-in_err-g c =
    let same : c.from_residual.result ≡ Err c.in_err-g.field-0.0 = search rules in
    widen_unsound _ _ c.sound_check.ensures c.in_err-g.was same _

pub widen_check-requires : goal.widen_check-requires
widen_check-requires c = widen_asked _ _ c.sound_check.ensures c.in_ok-g.was

pub returns-in_err-widen_check : goal.returns-in_err-widen_check
returns-in_err-widen_check c =
    let same : c.from_residual-in_err-widen_check.result ≡ Err c.in_err-widen_check.field-0.0 = search rules in
    then_failed c.args.self (c.widen_check.ensures ∙ widen_decides _ _ c.sound_check.ensures c.in_ok-g.was _)
    c.in_err-widen_check.was same

pub returns : goal.returns
returns c =
    then_passed c.args.self (c.widen_check.ensures ∙ widen_decides _ _ c.sound_check.ensures c.in_ok-g.was _) c.in_ok-widen_check.was
    (found_geometry _ _ c.sound_check.ensures c.in_ok-g.was)
