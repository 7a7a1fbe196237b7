-- `write_block` meets its contract. The loop's invariant: the lines before this one are written.
-- Assumes nothing.
use mathlib.Core.List.{map}
use Rattle.write.proofs.BlockLaws.{LinesTo}
use Rattle.write.proofs.write_block.Given as goal

abbrev pub invariant-loop-line : goal.invariant-loop-line
invariant-loop-line g l =
    let value = g.T.FromU32.value in
    LinesTo g.T.FromU32.kind l.g.lines l.g.width l.fed l.initial.words (map value l.initial.out) l.words l.named (map value l.out) l.line
