-- `union_block` meets its contract. The loop's invariant: the first `done` lines are united, and the runs of the others are their own
-- parents.
-- Assumes nothing.
use native.Mathlib.Omega.{arith}
use borrow.Author.Rules.{rules}
use Rattle.block.proofs.BlockUnionLaws.{block_idle, reset_may, block_begin, block_line, block_turn, block_joins, block_united}
use Rattle.block.proofs.union_block.Goals as goal

pub returns-then-k-eq0 : goal.returns-then-k-eq0
returns-then-k-eq0 c = block_idle c.args.g c.requires c.if-k-eq0.true

pub reset_block-requires : goal.reset_block-requires
reset_block-requires c = reset_may c.args.g c.requires

pub loop-done-init : goal.loop-done-init
loop-done-init c = block_begin c.args.g c.requires c.reset_block.ensures c.if-k-eq0.false (search rules)

pub union_line-joins-requires : goal.union_line-joins-requires
union_line-joins-requires c =
    block_line c.args.g c.requires c.reset_block.ensures c.if-k-eq0.false (search rules) c.loop-done-test.true c.loop-done.invariant

pub loop-done-preserved : goal.loop-done-preserved
loop-done-preserved c =
    block_turn c.args.g c.requires c.reset_block.ensures c.if-k-eq0.false (search rules) c.loop-done-test.true c.loop-done.invariant
    c.union_line-joins.ensures

pub overflow_add-joins : goal.overflow_add-joins
overflow_add-joins c =
    let few = block_joins c.args.g c.requires c.reset_block.ensures c.if-k-eq0.false (search rules) c.loop-done-test.true
    c.loop-done.invariant c.union_line-joins.ensures in
    record { fits = omega (arith, few, c.well_formed) }

pub returns : goal.returns
returns c =
    block_united c.args.g c.requires c.reset_block.ensures c.if-k-eq0.false (search rules) c.loop-done.auto.done-end c.loop-done-test.false
    c.loop-done.invariant
