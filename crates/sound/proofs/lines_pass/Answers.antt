-- `lines_pass` meets its contract. The loop's invariant: what has been found of the lines before i.
-- Assumes nothing.
use Rattle.std.proofs.Common.{arith}
use Rattle.sound.proofs.TestLaws.{byte_le, byte_gap, byte_fits}
use Rattle.sound.proofs.LinePassLaws.{lines_none, falls_few, lines_done, line_wrong}
use Rattle.sound.proofs.LinePassLaws.{lines_empty, lines_more}
use Rattle.sound.proofs.lines_pass.Goals as goal
use Rattle.sound.proofs.lines_pass.Goals.{then-a-b+else-end-g, else-a-b}

pub loop-i-init : goal.loop-i-init
loop-i-init c = lines_none _ _ _ _ _ _ c.requires.first

pub returns-then-b-a : goal.returns-then-b-a
returns-then-b-a c = line_wrong _ _ _ _ c.loop-i.invariant (omega arith) c.if-b-a.true

pub overflow_add-falls-then-a-b : goal.overflow_add-falls-then-a-b
overflow_add-falls-then-a-b c =
    byte_fits (search byte_le) (falls_few _ _ _ _ c.loop-i.invariant) (omega (arith, c.ranges.fed.fits))

pub loop-i-preserved : goal.loop-i-preserved
loop-i-preserved c =
    let T = c.loop-i.invariant in
    elim c.if-a-b.branch [
      | then-a-b+else-end-g w ↦ lines_more _ _ _ _ T (omega arith) c.if-b-a.false w.if-a-b.true (byte_gap _)
          (λ j. omega (arith, c.type_inv.words j)) w.if-end-g.false w.falls-is w.end-is
      | else-a-b w ↦ lines_empty _ _ _ _ T (omega arith) c.if-b-a.false w.if-a-b.false w.falls-is w.end-is
    ]

pub returns : goal.returns
returns c = lines_done _ _ _ _ c.loop-i.invariant (omega arith) c.then_some.ensures
