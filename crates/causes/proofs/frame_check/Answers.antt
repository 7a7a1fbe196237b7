-- `frame_check` meets its contract: an opening's cause comes first, then 8 and 9.
-- Assumes nothing.
use mathlib.Core.Path.{◌≡◌, refl}
use Rattle.std.proofs.Common.{Err, rules}
use native.Mathlib.Omega.{arith}
use Rattle.causes.proofs.OpenLaws.{found_cause}
use Rattle.causes.proofs.FrameLaws.{frame_gets_open, frame_small, frame_gets_8, frame_gets_9, frame_found}
use Rattle.causes.proofs.frame_check.Goals as goal

pub returns-in_err-g : goal.returns-in_err-g
returns-in_err-g c =
    let same : c.from_residual.result ≡ Err c.in_err-g.field-0.0 = search rules in
    frame_gets_open c.args.shape.now c.args.structure.now c.args.memory c.args.cells c.args.out _
    c.open_check.ensures _ c.in_err-g.was _ same

pub overflow_mul-g : goal.overflow_mul-g
overflow_mul-g c =
    record {
      fits = omega (
        arith,
        frame_small c.args.shape.now c.args.structure.now c.args.memory c.args.cells c.args.out _
            c.open_check.ensures _ c.in_ok-g.was,
      );
    }

pub returns-then-cells-g : goal.returns-then-cells-g
returns-then-cells-g c =
    found_cause _ _ _ 8 _ _ (omega arith) (frame_gets_8 c.args.shape.now c.args.structure.now c.args.memory c.args.cells
    c.args.out _ c.open_check.ensures _ c.in_ok-g.was c.if-cells-g.true) refl

pub returns-then-out-g : goal.returns-then-out-g
returns-then-out-g c =
    found_cause _ _ _ 9 _ _ (omega arith) (frame_gets_9 c.args.shape.now c.args.structure.now c.args.memory c.args.cells
    c.args.out _ c.open_check.ensures _ c.in_ok-g.was c.if-cells-g.false c.if-out-g.true) refl

pub returns : goal.returns
returns c =
    frame_found c.args.shape.now c.args.structure.now c.args.memory c.args.cells c.args.out _
    c.open_check.ensures _ c.in_ok-g.was c.if-cells-g.false c.if-out-g.false
