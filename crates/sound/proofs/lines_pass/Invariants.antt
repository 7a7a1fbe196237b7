-- `lines_pass` meets its contract. The loop's invariant: what has been found of the lines before i.
-- Assumes nothing.
use Rattle.sound.proofs.LinePassLaws.{LinesTo}
use Rattle.sound.proofs.lines_pass.Given as goal

abbrev pub invariant-loop-i : goal.invariant-loop-i
invariant-loop-i l = LinesTo l.g.lines l.g.width l.g.left l.words l.fed l.runs l.falls l.end l.a l.i
