-- `feed_frame` meets its contract: refused, or fed block by block.
-- Assumes nothing.
use native.Mathlib.Omega.{arith}
use Rattle.std.proofs.Common.{◌≡◌, Err, rules}
use Rattle.whole.proofs.FeedAllLaws.{block_some, all_lines, all_cells, all_room, all_ready, all_figures, all_then}
use Rattle.whole.proofs.FeedAllLaws.{step_begin, so_far, step_less, step_then}
use Rattle.whole.proofs.FeedFrameLaws.{feed_refused, feed_opened, feed_room, feed_ends}
use Rattle.whole.proofs.feed_frame.Goals as goal

pub returns-in_err-geo : goal.returns-in_err-geo
returns-in_err-geo g c =
    let same : c.from_residual.result ≡ Err c.in_err-geo.field-0.0 = search rules in
    feed_refused _ _ c.args.words.now c.args.cells.now _ c.frame_check.ensures g.I.Nz.nonzero c.in_err-geo.was same

pub block_lines-most-requires : goal.block_lines-most-requires
block_lines-most-requires g c =
    all_lines (feed_opened _ _ c.args.words.now c.args.cells.now _ c.frame_check.ensures c.in_ok-geo.was)

pub bounds-words-0 : goal.bounds-words-0
bounds-words-0 g c = feed_room _ _ c.args.words.now c.args.cells.now _ c.frame_check.ensures c.in_ok-geo.was

pub nonzero_div-most : goal.nonzero_div-most
nonzero_div-most g c =
    let O = feed_opened _ _ c.args.words.now c.args.cells.now _ c.frame_check.ensures c.in_ok-geo.was in
    omega (arith, c.block_lines-most.ensures, block_some c.in_ok-geo.geo.lines c.args.blocks (all_lines O).0)

pub loop-fed-init : goal.loop-fed-init
loop-fed-init g c =
    step_begin (feed_opened _ _ c.args.words.now c.args.cells.now _ c.frame_check.ensures c.in_ok-geo.was) c.zero-figures.ensures

pub overflow_mul-a : goal.overflow_mul-a
overflow_mul-a g c = record { fits = omega (arith, all_cells (so_far c.loop-fed.invariant c.loop-fed-test.true) _ _ c.min-k.ensures) }

pub overflow_mul-e : goal.overflow_mul-e
overflow_mul-e g c = record { fits = omega (arith, all_cells (so_far c.loop-fed.invariant c.loop-fed-test.true) _ _ c.min-k.ensures) }

pub overflow_add-e : goal.overflow_add-e
overflow_add-e g c = record { fits = omega (arith, all_cells (so_far c.loop-fed.invariant c.loop-fed-test.true) _ _ c.min-k.ensures) }

pub offset_bounds-cells-a : goal.offset_bounds-cells-a
offset_bounds-cells-a g c = omega (arith, all_cells (so_far c.loop-fed.invariant c.loop-fed-test.true) _ _ c.min-k.ensures)

pub slice_bounds-extract_block-end : goal.slice_bounds-extract_block-end
slice_bounds-extract_block-end g c = all_cells (so_far c.loop-fed.invariant c.loop-fed-test.true) _ _ c.min-k.ensures

pub extract_block-new-requires : goal.extract_block-new-requires
extract_block-new-requires g c = all_room (so_far c.loop-fed.invariant c.loop-fed-test.true) _ _ c.min-k.ensures

pub union_block-joins-requires : goal.union_block-joins-requires
union_block-joins-requires g c =
    all_ready (so_far c.loop-fed.invariant c.loop-fed-test.true) _ _ c.min-k.ensures c.extract_block-new.ensures

pub plus-figures-requires : goal.plus-figures-requires
plus-figures-requires g c =
    all_figures (so_far c.loop-fed.invariant c.loop-fed-test.true) _ _ c.min-k.ensures c.extract_block-new.ensures
    c.union_block-joins.ensures

pub loop-fed-smaller : goal.loop-fed-smaller
loop-fed-smaller g c = step_less c.loop-fed.invariant c.loop-fed-test.true _ _ c.block_lines-most.ensures

pub loop-fed-preserved : goal.loop-fed-preserved
loop-fed-preserved g c =
    step_then c.loop-fed.invariant c.loop-fed-test.true _ _ c.min-k.ensures
    (all_then (so_far c.loop-fed.invariant c.loop-fed-test.true) _ _ c.min-k.ensures c.extract_block-new.ensures
    c.union_block-joins.ensures c.plus-figures.ensures)

pub returns-in_ok-geo : goal.returns-in_ok-geo
returns-in_ok-geo g c =
    feed_ends _ _ c.args.words.now c.args.cells.now _ c.frame_check.ensures c.in_ok-geo.was
    c.loop-fed.invariant (omega (arith, c.loop-fed-test.false))

pub returns-in_ok-geo-2 : goal.returns-in_ok-geo-2
returns-in_ok-geo-2 g c =
    let I = step_then c.loop-fed.invariant c.loop-fed-test.true _ _ c.min-k.ensures
    (all_then (so_far c.loop-fed.invariant c.loop-fed-test.true) _ _ c.min-k.ensures c.extract_block-new.ensures
    c.union_block-joins.ensures c.plus-figures.ensures) in
    feed_ends _ _ c.args.words.now c.args.cells.now _ c.frame_check.ensures c.in_ok-geo.was
    I (omega (arith, c.if-most-fed-end.false))
