-- `write_block` meets its contract. The loop's invariant: the lines before this one are written.
-- Assumes nothing.
use Rattle.write.proofs.BlockLaws.{name_asked}
use Rattle.write.proofs.ValueLaws.{values_begin, values_asked, values_turn, values_done}
use Rattle.write.proofs.write_block.Goals as goal

pub loop-line-init : goal.loop-line-init
loop-line-init g c = values_begin g.T.FromU32.kind g.T.FromU32.value _ c.requires

pub name_line-named-requires : goal.name_line-named-requires
name_line-named-requires g c = name_asked g.T.FromU32.kind c.loop-line.invariant c.loop-line-test.true

pub paint_line-requires : goal.paint_line-requires
paint_line-requires g c =
    values_asked g.T.FromU32.kind g.T.FromU32.value _ c.loop-line.invariant c.loop-line-test.true c.name_line-named.ensures

pub loop-line-preserved : goal.loop-line-preserved
loop-line-preserved g c =
    values_turn g.T.FromU32.kind g.T.FromU32.value _ c.loop-line.invariant c.loop-line-test.true
    c.name_line-named.ensures _ c.paint_line.ensures

pub returns : goal.returns
returns g c =
    values_done g.T.FromU32.kind g.T.FromU32.value _ c.loop-line.invariant c.loop-line-test.false
    c.from_u32.ensures c.fill.ensures
