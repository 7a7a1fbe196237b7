-- `sweep::sweep` meets its contract. The loop's invariant: the current runs before `i` were swept, and the neighbours before `j` end by
-- the start of run `i`.
-- Assumes nothing.
use native.Mathlib.Omega.{arith}
use Rattle.sweep.proofs.ShiftLaws.{off_le}
use Rattle.sweep.proofs.TurnLaws.{sweep_begins, row_asked, sweep_turn, sweep_few}
use Rattle.sweep.proofs.sweep.Goals as goal

pub loop-i-init : goal.loop-i-init
loop-i-init c = sweep_begins c.requires.lines

pub row-joins-requires : goal.row-joins-requires
row-joins-requires c =
    let x = off_le c.args.lo c.requires.is_lo in
    let y = off_le c.args.hi c.requires.is_hi in
    row_asked c.requires.lines c.loop-i.invariant (omega arith) c.loop-i-test.true
    c.skip-j.ensures

pub loop-i-preserved : goal.loop-i-preserved
loop-i-preserved c =
    let l = c.loop-i in
    sweep_turn c.requires.lines l.invariant c.loop-i-test.true
    c.skip-j.ensures c.row-joins.ensures

-- no more joins than runs
pub overflow_add-joins : goal.overflow_add-joins
overflow_add-joins c = record { fits = omega (arith, sweep_few c.requires.lines (loop-i-preserved c)) }
