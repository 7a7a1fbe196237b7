-- `parse_shape` meets its contract.
-- Assumes nothing.
use mathlib.Core.Path.{◌∙◌}
use Rattle.clumps_text.specs.Text.{width_name, lines_name}
use Rattle.clumps_text.specs.Input.{parse}
use Rattle.clumps_text.proofs.InputLaws.{then_parsed, then_bad, parse_number_back}
use Rattle.clumps_text.proofs.parse_shape.Goals as goal

pub returns-in_err-parse_exactly : goal.returns-in_err-parse_exactly
unfolding parse width_name
returns-in_err-parse_exactly c = rw c.from_residual.ensures (then_bad _ c.in_err-parse_exactly.ensures)

pub returns-in_err-width : goal.returns-in_err-width
unfolding parse width_name
returns-in_err-width c =
    rw c.from_residual-in_err-width.ensures (then_parsed _ c.in_ok-parse_exactly.ensures ∙ then_bad _ c.in_err-width.ensures)

pub returns-in_err-parse_exactly-2 : goal.returns-in_err-parse_exactly-2
unfolding parse width_name lines_name
returns-in_err-parse_exactly-2 c =
    rw c.from_residual-in_err-parse_exactly-2.ensures
    (then_parsed _ c.in_ok-parse_exactly.ensures ∙ (then_parsed _ c.in_ok-width.ensures ∙ then_bad _ c.in_err-parse_exactly-2.ensures))

pub returns-in_err-lines : goal.returns-in_err-lines
unfolding parse width_name lines_name
returns-in_err-lines c =
    rw c.from_residual-in_err-lines.ensures
    (then_parsed _ c.in_ok-parse_exactly.ensures
    ∙ (then_parsed _ c.in_ok-width.ensures ∙ (then_parsed _ c.in_ok-parse_exactly-2.ensures ∙ then_bad _ c.in_err-lines.ensures)))

pub invariant_of-result : goal.invariant_of-result
invariant_of-result c =
    let w = parse_number_back _ c.in_ok-width.ensures in
    let l = parse_number_back _ c.in_ok-lines.ensures in
    record { limits = (w.some, w.most, l.some, l.most) }

pub returns : goal.returns
unfolding parse width_name lines_name
returns c =
    then_parsed _ c.in_ok-parse_exactly.ensures
    ∙ (then_parsed _ c.in_ok-width.ensures ∙ (then_parsed _ c.in_ok-parse_exactly-2.ensures ∙ then_parsed _ c.in_ok-lines.ensures))
