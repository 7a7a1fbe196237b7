-- What the goals of `put_decimal` have left: one digit, or the digits before and the last one.
-- Assumes nothing.
use Rattle.clumps_text.proofs.PrintLaws.{writes_digit, writes_digits}
use Rattle.clumps_text.proofs.+put_decimal.Goals.{then-n-ge10, else-n-ge10}
use Rattle.clumps_text.proofs.+put_decimal.Goals as goal

pub returns : goal.returns
returns t c =
    elim c.if-n-ge10.branch [
      | then-n-ge10 w ↦ writes_digits c.args.n w.if-n-ge10.true w.put_decimal.ensures (rw w.out-is at c.put.ensures)
      | else-n-ge10 w ↦ writes_digit c.args.n w.if-n-ge10.false (rw w.out-is at c.put.ensures)
    ]
