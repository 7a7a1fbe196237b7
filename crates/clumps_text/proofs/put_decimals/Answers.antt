-- `put_decimals` meets its contract. The loop's invariant: the others before this one are printed, with a blank before each.
-- Assumes nothing.
use lib.Seq.{take_all}
use Rattle.clumps_text.specs.Text.{blank_before}
use Rattle.overlay.proofs.WriterLaws.{writes_none}
use Rattle.clumps_text.proofs.PrintLaws.{decimals_none, decimals_first, blanks_turn}
use Rattle.clumps_text.proofs.put_decimals.Goals as goal

pub returns-in_default : goal.returns-in_default
returns-in_default c = decimals_none c.args.numbers.now c.in_default.ensures.cases

pub loop-number-init : goal.loop-number-init
unfolding blank_before
loop-number-init c = writes_none c.put_decimal.new.out

pub loop-number-preserved : goal.loop-number-preserved
loop-number-preserved c =
    let l = c.loop-number in
    blanks_turn c.in-Some.others.now l.number-index c.loop-number-test.true l.invariant c.put.ensures
    (rw c.from-in-loop-number.ensures at c.put_decimal-in-loop-number.ensures)

pub returns : goal.returns
returns c =
    let l = c.loop-number in
    decimals_first c.args.numbers.now c.in-Some.ensures.cases.0 (rw c.from.ensures at c.put_decimal.ensures)
    (rw (take_all l.number-index c.in-Some.others.now c.loop-number-test.false) at l.invariant)
