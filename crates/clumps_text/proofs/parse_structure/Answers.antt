-- `parse_structure` meets its contract.
-- Assumes nothing.
use Rattle.clumps_text.specs.Output.{structure_bytes}
use Rattle.clumps_text.proofs.ReadLaws.{structure_empty, structure_given}
use Rattle.clumps_text.proofs.parse_structure.Goals as goal

pub returns-then-byte_at-eq10 : goal.returns-then-byte_at-eq10
unfolding structure_bytes
returns-then-byte_at-eq10 c = structure_empty c.args.text.now c.byte_at.ensures c.if-byte_at-eq10.true

pub returns-in_err-rest : goal.returns-in_err-rest
returns-in_err-rest c =
    rw c.from_residual.ensures (structure_given c.args.text.now c.byte_at.ensures c.if-byte_at-eq10.false c.in_err-rest.ensures)

pub returns : goal.returns
returns c = structure_given c.args.text.now c.byte_at.ensures c.if-byte_at-eq10.false c.in_ok-rest.ensures
