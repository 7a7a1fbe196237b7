-- `extract_block` meets its contract. The loop's invariant: the first i lines are extracted.
-- Assumes nothing.
use native.Mathlib.Omega.{arith}
use Rattle.block.proofs.BlockLaws.{block_none, block_at, block_room, block_small, block_few, block_then}
use Rattle.block.proofs.extract_block.Goals as goal

pub loop-i-init : goal.loop-i-init
loop-i-init g c = block_none _ _ _ _ _ _ _

-- the place of the line's runs
pub overflow_add-at : goal.overflow_add-at
overflow_add-at g c =
    let u = block_at g.T.Nz.nonzero c.args.cells.now c.requires c.loop-i-test.true c.loop-i.invariant in
    record { fits = omega (arith, u, c.well_formed) }

pub overflow_mul-at : goal.overflow_mul-at
overflow_mul-at g c =
    let u = block_at g.T.Nz.nonzero c.args.cells.now c.requires c.loop-i-test.true c.loop-i.invariant in
    record { fits = omega (arith, u, c.well_formed) }

pub overflow_add-at-in-loop-i : goal.overflow_add-at-in-loop-i
overflow_add-at-in-loop-i g c =
    let u = block_at g.T.Nz.nonzero c.args.cells.now c.requires c.loop-i-test.true c.loop-i.invariant in
    record { fits = omega (arith, u, c.well_formed) }

pub extract_line-line-requires : goal.extract_line-line-requires
extract_line-line-requires g c =
    block_room g.T.Nz.nonzero c.args.cells.now c.requires c.loop-i-test.true c.loop-i.invariant

-- the counts with those of the line: of runs a number that a word holds, of nonzero cells no more than there are cells
pub overflow_add-new : goal.overflow_add-new
overflow_add-new g c =
    let u = block_small g.T.Nz.nonzero c.args.cells.now c.requires c.loop-i-test.true c.loop-i.invariant c.extract_line-line.ensures in
    record { fits = omega (arith, u) }

pub overflow_add-total : goal.overflow_add-total
overflow_add-total g c =
    let u = block_few g.T.Nz.nonzero c.args.cells.now c.requires c.loop-i-test.true c.loop-i.invariant c.extract_line-line.ensures in
    record { fits = omega (arith, u, c.well_formed) }

pub overflow_add-words : goal.overflow_add-words
overflow_add-words g c =
    let u = block_small g.T.Nz.nonzero c.args.cells.now c.requires c.loop-i-test.true c.loop-i.invariant c.extract_line-line.ensures in
    record { fits = omega (arith, u) }

pub overflow_cast-words : goal.overflow_cast-words
overflow_cast-words g c =
    record { fits = block_small g.T.Nz.nonzero c.args.cells.now c.requires c.loop-i-test.true c.loop-i.invariant c.extract_line-line.ensures }

pub loop-i-preserved : goal.loop-i-preserved
loop-i-preserved g c =
    block_then g.T.Nz.nonzero c.args.cells.now c.requires c.loop-i-test.true c.loop-i.invariant c.extract_line-line.ensures
