-- `runs_pass` meets its contract. The loop's invariant: what has been found of the runs of the blocks before this one.
-- Assumes nothing.
use Rattle.std.proofs.Common.{arith}
use Rattle.sound.proofs.RunPassLaws.{runs_none, found_at}
use Rattle.sound.proofs.runs_pass.Goals as goal

pub loop-block-init : goal.loop-block-init
loop-block-init c =
    record { so_far = found_at _ _ _ (runs_none _ _ _ (λ k. omega (arith, c.type_inv.words k))) (omega arith) (omega arith) }
