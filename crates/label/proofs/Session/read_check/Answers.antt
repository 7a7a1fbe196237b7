-- `read_check` meets its contract: a sound record is checked further, by its geometry.
-- Assumes nothing.
use mathlib.Core.Path.{◌∙◌}
use Rattle.std.proofs.Common.{◌≡◌, Err, rules}
use Rattle.label.proofs.FitLaws.{joins_fit}
use Rattle.label.proofs.CheckLaws.{read_unsound, found_geometry, then_failed, then_passed, read_decides, read_asked, found_sound}
use Rattle.label.proofs.Session.read_check.Goals as goal

pub returns-in_err-g : goal.returns-in_err-g
returns-in_err-g c kind e =
    let same : c.from_residual.result ≡ Err c.in_err-g.field-0.0 = search rules in
    read_unsound _ _ c.sound_check.ensures c.in_err-g.was same _ _

pub overflow_sub-self : goal.overflow_sub-self
overflow_sub-self c = joins_fit _ _ (found_sound _ _ c.sound_check.ensures c.in_ok-g.was)

pub read_check-requires : goal.read_check-requires
read_check-requires c = read_asked _ _ c.sound_check.ensures c.in_ok-g.was

pub returns-in_err-read_check : goal.returns-in_err-read_check
returns-in_err-read_check c kind e =
    let same : c.from_residual-in_err-read_check.result ≡ Err c.in_err-read_check.field-0.0 = search rules in
    then_failed c.args.self (c.read_check.ensures kind e ∙ read_decides _ _ c.sound_check.ensures c.in_ok-g.was _ _)
    c.in_err-read_check.was same

pub returns : goal.returns
returns c kind e =
    then_passed c.args.self (c.read_check.ensures kind e ∙ read_decides _ _ c.sound_check.ensures c.in_ok-g.was _ _) c.in_ok-read_check.was
    (found_geometry _ _ c.sound_check.ensures c.in_ok-g.was)
