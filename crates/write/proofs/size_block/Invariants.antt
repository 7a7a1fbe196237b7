-- `size_block` meets its contract. The loop's invariant: the runs before r are named, and the sizes of the roots among them copied.
-- Assumes nothing.
use Rattle.write.proofs.SizeLaws.{SizesTo}
use Rattle.write.proofs.size_block.Given as goal

abbrev pub invariant-loop-r : goal.invariant-loop-r
invariant-loop-r l = SizesTo l.lines l.runs l.initial.words l.places l.words l.named l.sizes l.r
