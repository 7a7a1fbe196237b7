-- `parse_frame` meets its contract.
-- Assumes nothing.
use mathlib.Core.Path.{refl, sym, ◌∙◌}
use borrow.Author.Tests.{eqb-true, eqb-false}
use lib.Seq.{length-take-le, take_at}
use Rattle.clumps_text.specs.Text.{structure_name, cells_name}
use Rattle.clumps_text.proofs.FrameLaws.{refused, no_name, no_structure, no_cells_name, no_cells, no_last_byte, bytes_after, frame_read}
use Rattle.clumps_text.proofs.parse_frame.Goals as goal

pub returns-in_err-shape : goal.returns-in_err-shape
returns-in_err-shape c = rw c.from_residual.ensures (refused c.args.text.now c.in_err-shape.ensures)

pub returns-in_err-parse_exactly : goal.returns-in_err-parse_exactly
unfolding structure_name
returns-in_err-parse_exactly c =
    rw c.from_residual-in_err-parse_exactly.ensures
    (no_name c.args.text.now _ _ _ c.in_ok-shape.ensures c.in_err-parse_exactly.ensures)

pub returns-in_err-structure : goal.returns-in_err-structure
unfolding structure_name
returns-in_err-structure c =
    rw c.from_residual-in_err-structure.ensures
    (no_structure c.args.text.now _ _ _ c.in_ok-shape.ensures c.in_ok-parse_exactly.ensures c.in_err-structure.ensures)

pub returns-in_err-rest : goal.returns-in_err-rest
unfolding structure_name cells_name
returns-in_err-rest c =
    rw c.from_residual-in_err-rest.ensures
    (no_cells_name c.args.text.now _ _ _ c.in_ok-shape.ensures c.in_ok-parse_exactly.ensures c.in_ok-structure.ensures c.in_err-rest.ensures)

pub returns-in_err-rest-2 : goal.returns-in_err-rest-2
unfolding structure_name cells_name
returns-in_err-rest-2 c =
    rw c.from_residual-in_err-rest-2.ensures
    (no_cells c.args.text.now _ _ _ c.in_ok-shape.ensures c.in_ok-parse_exactly.ensures c.in_ok-structure.ensures c.in_ok-rest.ensures
    (length-take-le _ _ c.size.ensures.most ∙ c.size.ensures.count) c.in_err-rest-2.ensures)

pub returns-in_err-end : goal.returns-in_err-end
unfolding structure_name cells_name
returns-in_err-end c =
    rw c.from_residual-in_err-end.ensures
    (no_last_byte c.args.text.now _ _ _ c.in_ok-shape.ensures c.in_ok-parse_exactly.ensures c.in_ok-structure.ensures c.in_ok-rest.ensures
    (length-take-le _ _ c.size.ensures.most ∙ c.size.ensures.count) c.in_ok-rest-2.ensures c.in_err-end.ensures)

pub returns-then-not-is_empty : goal.returns-then-not-is_empty
unfolding structure_name cells_name
returns-then-not-is_empty c =
    bytes_after c.args.text.now _ _ _ c.in_ok-shape.ensures c.in_ok-parse_exactly.ensures c.in_ok-structure.ensures c.in_ok-rest.ensures
    (length-take-le _ _ c.size.ensures.most ∙ c.size.ensures.count) c.in_ok-rest-2.ensures c.in_ok-end.ensures
    (eqb-false _ 0 (sym c.if-not-is_empty.ensures))

pub returns : goal.returns
unfolding structure_name cells_name
returns c =
    let m = length-take-le _ _ c.size.ensures.most ∙ c.size.ensures.count in
    frame_read c.args.text.now _ _ _ c.in_ok-shape.ensures c.in_ok-parse_exactly.ensures c.in_ok-structure.ensures c.in_ok-rest.ensures
    m c.in_ok-rest-2.ensures c.in_ok-end.ensures _ refl refl refl (take_at _ _ _ (c.parse_flags.auto.flags ∙ m))
    (eqb-true _ 0 (sym c.if-not-is_empty.ensures))
