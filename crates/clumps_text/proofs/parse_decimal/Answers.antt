-- `parse_decimal` meets its contract.
-- Assumes nothing.
use native.Mathlib.Omega.{arith}
use Rattle.clumps_text.proofs.DecimalLaws.{one_line, two_line}
use Rattle.clumps_text.proofs.ReadLaws.{same_name}
use Rattle.clumps_text.proofs.parse_decimal.Goals as goal

pub returns-then-value-lt10 : goal.returns-then-value-lt10
returns-then-value-lt10 c = same_name c.args.text.now _ (one_line c.args.value (omega arith)) c.parse_exactly.ensures

pub returns : goal.returns
returns c = same_name c.args.text.now _ (two_line c.args.value (omega arith) (omega arith)) c.parse_exactly-2.ensures
