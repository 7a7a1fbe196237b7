-- `sound_check` meets its contract: the words are looked at where shape and memory are sound.
-- Assumes nothing.
use mathlib.Core.Path.{ap}
use mathlib.Core.Bool.{not}
use Rattle.std.proofs.Common.{◌≡◌, Err, rules}
use Rattle.label.proofs.RecordGeometry.{shape_unsound, pass_ready, words_unsound, words_found}
use Rattle.label.proofs.Session.sound_check.Goals as goal

pub returns-in_err-g : goal.returns-in_err-g
returns-in_err-g c =
    let same : c.from_residual.result ≡ Err c.in_err-g.field-0.0 = search rules in
    shape_unsound _ _ c.shape_sound-shaped.ensures c.ok_or.ensures.value c.in_err-g.was same

pub words_sound-requires : goal.words_sound-requires
words_sound-requires c = pass_ready c.args.self _ c.shape_sound-shaped.ensures c.ok_or.ensures.value c.in_ok-g.was

pub returns-then-not-words_sound : goal.returns-then-not-words_sound
returns-then-not-words_sound c =
    words_unsound _ _ c.shape_sound-shaped.ensures c.ok_or.ensures.value c.in_ok-g.was c.words_sound.ensures
    (ap not c.if-not-words_sound.true)

pub returns : goal.returns
returns c =
    words_found _ _ c.shape_sound-shaped.ensures c.ok_or.ensures.value c.in_ok-g.was c.words_sound.ensures
    (ap not c.if-not-words_sound.false)
