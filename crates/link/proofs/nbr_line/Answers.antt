-- `nbr_line` meets its contract: what the three moved coordinates say (NbrLineLaws).
-- Assumes nothing.
use mathlib.Core.Path.{◌≡◌, sym, ◌∙◌}
use borrow.Author.Rules.{rules}
use Rattle.std.proofs.Common.{None}
use Rattle.link.proofs.NbrLineLaws.{first_out, second_out, third_out, fits_first, fits_row, fits_rows, fits_all, at_line}
use Rattle.link.proofs.nbr_line.Goals as goal

pub returns-in_err-v0 : goal.returns-in_err-v0
returns-in_err-v0 c =
    let none : c.from_residual.result ≡ None = search rules in
    λ ℓ is_c. none ∙ first_out _ _ _ c.requires (search rules) (search rules) ℓ is_c (sym c.in_err-v0.was ∙ c.moved.ensures)

pub returns-in_err-v1 : goal.returns-in_err-v1
returns-in_err-v1 c =
    let none : c.from_residual-in_err-v1.result ≡ None = search rules in
    λ ℓ is_c. none ∙ second_out _ _ _ c.requires (search rules) (search rules) ℓ is_c (sym c.in_err-v1.was ∙ c.moved-2.ensures)

pub returns-in_err-v2 : goal.returns-in_err-v2
returns-in_err-v2 c =
    let none : c.from_residual-in_err-v2.result ≡ None = search rules in
    λ ℓ is_c. none ∙ third_out _ _ _ c.requires (search rules) (search rules) ℓ is_c (sym c.in_err-v2.was ∙ c.moved-3.ensures)

pub overflow_mul-result : goal.overflow_mul-result
overflow_mul-result c =
    fits_first c.args.dims c.args.c c.args.o c.requires (search rules) _ _ _ (sym c.in_ok-v0.was ∙ c.moved.ensures)
    (sym c.in_ok-v1.was ∙ c.moved-2.ensures) (sym c.in_ok-v2.was ∙ c.moved-3.ensures)

pub overflow_add-result : goal.overflow_add-result
overflow_add-result c =
    fits_row c.args.dims c.args.c c.args.o c.requires (search rules) _ _ _ (sym c.in_ok-v0.was ∙ c.moved.ensures)
    (sym c.in_ok-v1.was ∙ c.moved-2.ensures) (sym c.in_ok-v2.was ∙ c.moved-3.ensures)

pub overflow_mul-result-2 : goal.overflow_mul-result-2
overflow_mul-result-2 c =
    fits_rows c.args.dims c.args.c c.args.o c.requires (search rules) _ _ _ (sym c.in_ok-v0.was ∙ c.moved.ensures)
    (sym c.in_ok-v1.was ∙ c.moved-2.ensures) (sym c.in_ok-v2.was ∙ c.moved-3.ensures)

pub overflow_add-result-2 : goal.overflow_add-result-2
overflow_add-result-2 c =
    fits_all c.args.dims c.args.c c.args.o c.requires (search rules) _ _ _ (sym c.in_ok-v0.was ∙ c.moved.ensures)
    (sym c.in_ok-v1.was ∙ c.moved-2.ensures) (sym c.in_ok-v2.was ∙ c.moved-3.ensures)

pub returns : goal.returns
returns c =
    at_line c.args.dims c.args.c c.args.o c.requires (search rules) _ _ _ (sym c.in_ok-v0.was ∙ c.moved.ensures)
    (sym c.in_ok-v1.was ∙ c.moved-2.ensures) (sym c.in_ok-v2.was ∙ c.moved-3.ensures) (search rules)
