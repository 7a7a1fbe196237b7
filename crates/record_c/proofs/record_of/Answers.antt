-- `record_of` meets its contract: words that hold a record are refused by no number.
-- Assumes nothing.
use Rattle.std.proofs.Common.{true, arith}
use Rattle.record_c.proofs.EarlyLaws.{early_by_bytes, refusal_positive}
use Rattle.record_c.proofs.record_of.Goals as goal

pub unreachable-requires : goal.unreachable-requires
unreachable-requires c =
    let none = early_by_bytes c.args.rec.now 8 c.requires.long (omega arith) true c.requires.are_bytes in
    omega (arith, none, c.in-Err.ensures, refusal_positive c.in-Err.field-0)
