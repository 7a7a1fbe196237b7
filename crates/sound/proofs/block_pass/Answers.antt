-- `block_pass` meets its contract. The loop's invariant: what has been found of the runs before r.
-- Assumes nothing.
use Rattle.std.proofs.Common.{◌+◌, ◌-◌, not, refl, arith}
use mir.Val.{bool_byte}
use Rattle.frame.specs.Words.{start_place, end_place, run_end}
use Rattle.sound.proofs.TestLaws.{byte_le, byte_fits, wrap_low, wrap_back}
use Rattle.sound.proofs.RunPassLaws.{block_more, wrong_few, roots_few, sizes_small}
use Rattle.sound.proofs.block_pass.Goals as goal

pub overflow_add-wrong : goal.overflow_add-wrong
overflow_add-wrong c = byte_fits (search byte_le) (wrong_few _ _ _ c.loop-r.invariant.so_far) (omega arith)

pub overflow_add-roots : goal.overflow_add-roots
overflow_add-roots c = byte_fits (search byte_le) (roots_few _ _ _ c.loop-r.invariant.so_far) (omega arith)

pub loop-r-preserved : goal.loop-r-preserved
loop-r-preserved c =
    block_more _ _ _ (λ j. omega (arith, c.type_inv.words j)) c.loop-r.invariant (omega arith) (wrap_low _)
    (wrap_back _ _ (omega (arith, c.type_inv.words (end_place c.args.lines c.loop-r.r)))
    (omega (arith, c.type_inv.words (start_place c.args.lines c.loop-r.r)))) refl
    (wrap_low (run_end c.args.lines c.args.words.now c.loop-r.r + (4294967296 - bool_byte (not c.args.left))))
    (wrap_back _ _ (omega (arith, c.type_inv.words (end_place c.args.lines c.loop-r.r))) (omega (arith, byte_le (not c.args.left))))

-- the sum of all, and its first part
pub overflow_add-sizes-2 : goal.overflow_add-sizes-2
overflow_add-sizes-2 c =
    omega (
      arith,
      sizes_small _ _ _ (λ k. omega (arith, c.type_inv.words k)) c.loop-r.invariant.so_far
          (omega (arith, c.loop-r.invariant.upto, c.requires.ready.few)),
    )

pub overflow_add-sizes : goal.overflow_add-sizes
overflow_add-sizes c = omega (arith, overflow_add-sizes-2 c)
