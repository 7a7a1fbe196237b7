-- `parse_number` meets its contract.
-- Assumes nothing.
use mathlib.Core.Logic.{inl, inr}
use Rattle.clumps_text.proofs.ReadLaws.{number_small, number_large, number_none, number_read}
use Rattle.clumps_text.proofs.parse_number.Goals as goal

pub returns-then-value-lt1 : goal.returns-then-value-lt1
returns-then-value-lt1 c =
    let t = c.args.text.now in
    let e = c.digits_value-value.ensures in
    elim c.then-value-lt1.either [ inl h ↦ number_small t e h | inr h ↦ number_large t e h.1 ]

pub returns-in_err-rest : goal.returns-in_err-rest
returns-in_err-rest c =
    rw c.from_residual.ensures
    (number_none c.args.text.now c.digits_value-value.ensures c.if-value-lt1.false c.if-value-gt48.false c.in_err-rest.ensures)

pub returns : goal.returns
returns c = number_read c.args.text.now c.digits_value-value.ensures c.if-value-lt1.false c.if-value-gt48.false c.in_ok-rest.ensures
