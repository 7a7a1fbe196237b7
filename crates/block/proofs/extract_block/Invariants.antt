-- `extract_block` meets its contract. The loop's invariant: the first i lines are extracted.
-- Assumes nothing.
use mathlib.Core.List.{map}
use Rattle.block.specs.Blocks.{Extracts}
use Rattle.block.proofs.extract_block.Given as goal

abbrev pub invariant-loop-i : goal.invariant-loop-i
invariant-loop-i g l =
    Extracts l.g l.fed l.runs l.i (map g.T.Nz.nonzero l.cells) l.initial.words l.words (record { runs = l.new; cells = l.total })
