-- `size_block` meets its contract. The loop's invariant: the runs before r are named, and the sizes of the roots among them copied.
-- Assumes nothing.
use Rattle.write.proofs.SizeLaws.{sizes_begin, size_asked, size_put, size_skipped, size_turn, sizes_done}
use Rattle.write.proofs.size_block.Goals as goal
use Rattle.write.proofs.size_block.Goals.{then-next-places, else-next-places}

pub loop-r-init : goal.loop-r-init
loop-r-init c = sizes_begin c.requires

pub name_run-named-requires : goal.name_run-named-requires
name_run-named-requires c = size_asked c.loop-r.invariant c.loop-r-test.true

pub loop-r-preserved : goal.loop-r-preserved
loop-r-preserved c =
    let T = c.loop-r.invariant in
    let h = c.loop-r-test.true in
    size_turn T h (elim c.if-next-places.branch [
      | then-next-places w ↦ rw w.sizes-is (size_put T h w.word.ensures w.if-next-places.true)
      | else-next-places w ↦ rw w.sizes-is (size_skipped T h w.if-next-places.false)
    ]) c.name_run-named.ensures

pub returns : goal.returns
returns c = sizes_done c.loop-r.invariant c.loop-r-test.false
