-- `sweep::link` meets its contract. The two shifted sweeps visit a pair twice where both bytes join it; the contract lists it once.
-- Assumes nothing.
use native.Mathlib.Nat.{zero-add}
use native.Mathlib.Omega.{arith}
use Rattle.sweep.proofs.ShiftLaws.{byte_wide}
use Rattle.sweep.proofs.TurnLaws.{lines_kept}
use Rattle.sweep.proofs.SideLaws.{Side, side_on, side_off, link_idle, link_widened, linked_both, linked_one, link_few}
use Rattle.sweep.proofs.link.Goals as goal
use Rattle.sweep.proofs.link.Goals.{then-by-2, else-by-2}

pub returns-then-at : goal.returns-then-at
returns-then-at c = link_idle c.requires c.args.by c.if-at.true

pub returns-then-by : goal.returns-then-by
returns-then-by c =
    link_widened c.requires c.args.by c.if-by.true (byte_wide c.args.by.next) (byte_wide c.args.by.prev) c.sweep.ensures

pub sweep_shift-joins-requires-then-by-3 : goal.sweep_shift-joins-requires-then-by-3
sweep_shift-joins-requires-then-by-3 c =
    let first : Side c.requires c.if-by-2.p c.args.by.prev 0 2 c.if-by-2.joins =
    elim c.if-by-2.branch [
      | then-by-2 w ↦ rw (w.p-is, w.joins-is, zero-add)
          (side_on c.requires c.args.by.prev 0 2 w.if-by-2.true w.sweep_shift-joins.ensures)
      | else-by-2 w ↦ rw (w.p-is, w.joins-is) (side_off c.requires c.args.by.prev 0 2 w.if-by-2.false)
    ] in
    record { lines = lines_kept c.requires first; is_lo = omega arith; is_hi = omega arith }

pub returns-then-by-3 : goal.returns-then-by-3
returns-then-by-3 c =
    let first : Side c.requires c.if-by-2.p c.args.by.prev 0 2 c.if-by-2.joins =
    elim c.if-by-2.branch [
      | then-by-2 w ↦ rw (w.p-is, w.joins-is, zero-add)
          (side_on c.requires c.args.by.prev 0 2 w.if-by-2.true w.sweep_shift-joins.ensures)
      | else-by-2 w ↦ rw (w.p-is, w.joins-is) (side_off c.requires c.args.by.prev 0 2 w.if-by-2.false)
    ] in
    linked_both c.requires c.args.by c.if-by.false first c.if-by-3.true c.sweep_shift-joins-then-by-3.ensures

-- no more joins than runs
pub overflow_add-joins-then-by-3 : goal.overflow_add-joins-then-by-3
overflow_add-joins-then-by-3 c =
    let first : Side c.requires c.if-by-2.p c.args.by.prev 0 2 c.if-by-2.joins =
    elim c.if-by-2.branch [
      | then-by-2 w ↦ rw (w.p-is, w.joins-is, zero-add)
          (side_on c.requires c.args.by.prev 0 2 w.if-by-2.true w.sweep_shift-joins.ensures)
      | else-by-2 w ↦ rw (w.p-is, w.joins-is) (side_off c.requires c.args.by.prev 0 2 w.if-by-2.false)
    ] in
    let both = linked_both c.requires c.args.by c.if-by.false first c.if-by-3.true c.sweep_shift-joins-then-by-3.ensures in
    record { fits = omega (arith, link_few c.requires c.args.by both) }

pub returns-else-by-3 : goal.returns-else-by-3
returns-else-by-3 c =
    let first : Side c.requires c.if-by-2.p c.args.by.prev 0 2 c.if-by-2.joins =
    elim c.if-by-2.branch [
      | then-by-2 w ↦ rw (w.p-is, w.joins-is, zero-add)
          (side_on c.requires c.args.by.prev 0 2 w.if-by-2.true w.sweep_shift-joins.ensures)
      | else-by-2 w ↦ rw (w.p-is, w.joins-is) (side_off c.requires c.args.by.prev 0 2 w.if-by-2.false)
    ] in
    linked_one c.requires c.args.by c.if-by.false first c.if-by-3.false
