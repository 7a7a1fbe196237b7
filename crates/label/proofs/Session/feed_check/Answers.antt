-- `feed_check` meets its contract: a sound record is checked further, by its geometry.
-- Assumes nothing.
use mathlib.Core.Path.{◌∙◌}
use Rattle.std.proofs.Common.{◌≡◌, Err, rules}
use Rattle.label.proofs.CheckLaws.{feed_unsound, found_geometry, then_failed, then_passed, feed_decides, feed_asked}
use Rattle.label.proofs.Session.feed_check.Goals as goal

pub returns-in_err-g : goal.returns-in_err-g
returns-in_err-g c flags e =
    let same : c.from_residual.result ≡ Err c.in_err-g.field-0.0 = search rules in
    feed_unsound _ _ c.sound_check.ensures c.in_err-g.was same _ _

pub feed_check-requires : goal.feed_check-requires
feed_check-requires c = feed_asked _ _ c.sound_check.ensures c.in_ok-g.was

pub returns-in_err-feed_check : goal.returns-in_err-feed_check
returns-in_err-feed_check c flags e =
    let same : c.from_residual-in_err-feed_check.result ≡ Err c.in_err-feed_check.field-0.0 = search rules in
    then_failed c.args.self (c.feed_check.ensures ∙ feed_decides _ _ c.sound_check.ensures c.in_ok-g.was _ flags e)
    c.in_err-feed_check.was same

pub returns : goal.returns
returns c flags e =
    then_passed c.args.self (c.feed_check.ensures ∙ feed_decides _ _ c.sound_check.ensures c.in_ok-g.was _ flags e) c.in_ok-feed_check.was
    (found_geometry _ _ c.sound_check.ensures c.in_ok-g.was)
