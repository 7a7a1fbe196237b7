-- `paint_line` meets its contract. The loop's invariant: the line's runs before r are painted.
-- Assumes nothing.
use mathlib.Core.List.{map}
use Rattle.write.proofs.LineLaws.{PaintedTo}
use Rattle.write.proofs.paint_line.Given as goal

abbrev pub invariant-loop-r : goal.invariant-loop-r
invariant-loop-r g l =
    let value = g.T.FromU32.value in
    PaintedTo g.T.FromU32.kind l.g.lines l.g.width l.line l.words l.r-end (map value l.initial.out) (map value l.out) l.r
