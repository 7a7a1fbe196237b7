-- `block_pass` meets its contract. The loop's invariant: what has been found of the runs before r.
-- Assumes nothing.
use Rattle.std.proofs.Common.{◌+◌, ◌*◌}
use Rattle.sound.proofs.RunPassLaws.{BlockTo}
use Rattle.sound.proofs.block_pass.Given as goal

abbrev pub invariant-loop-r : goal.invariant-loop-r
invariant-loop-r l =
    BlockTo l.lines l.left l.words l.a l.b l.found.sizes (record {
      wrong = l.wrong;
      falls = l.falls;
      roots = l.roots;
      cells = l.cells;
      last = l.last;
      sizes = l.found.sizes + l.low + 65536 * l.high;
    }) l.low l.high l.r
