-- `sweep::row` meets its contract. The loop's invariant: run `i` was united with the runs from `j` to before `m` that start before it ends.
-- Assumes nothing.
use mathlib.Core.Path.{sym, ◌∙◌}
use native.Mathlib.Omega.{arith}
use Rattle.sweep.proofs.SignedLaws.{off_back}
use Rattle.sweep.proofs.TurnLaws.{row_begins, row_sized, row_turn, row_done}
use Rattle.sweep.proofs.row.Goals as goal

pub loop-m-init : goal.loop-m-init
loop-m-init c = row_begins c.requires.order.upto

pub unite-requires : goal.unite-requires
unite-requires c = row_sized c.requires.sized
    c.loop-m.invariant (omega arith)

pub loop-m-preserved : goal.loop-m-preserved
loop-m-preserved c =
    let l = c.loop-m in
    row_turn c.requires.sized l.invariant (omega arith)
    (sym c.starts_before.ensures ∙ c.if-not-starts_before.false)
    c.unite.ensures

pub returns-then-not-starts_before : goal.returns-then-not-starts_before
returns-then-not-starts_before c =
    rw (off_back c.args.lo c.requires.is_lo)
    at (row_done c.requires.sized c.loop-m.invariant c.requires.order
    (λ h. sym c.starts_before.ensures ∙ c.if-not-starts_before.true))

pub returns-after-loop-m : goal.returns-after-loop-m
returns-after-loop-m c =
    rw (off_back c.args.lo c.requires.is_lo)
    at (row_done c.requires.sized c.loop-m.invariant c.requires.order (λ h. absurd (omega arith)))
