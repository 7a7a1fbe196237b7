-- `paint_line` meets its contract. The loop's invariant: the line's runs before r are painted.
-- Assumes nothing.
use mathlib.Core.Path.{subst}
use mathlib.Core.List.{map}
use Rattle.frame.specs.Kinds.{Value}
use Rattle.write.specs.Steps.{Filled}
use Rattle.write.proofs.LineLaws.{cells_asked, paint_turn, line_painted}
use Rattle.write.proofs.paint_line.Goals as goal

pub paint_run-requires : goal.paint_run-requires
paint_run-requires g c =
    cells_asked g.T.FromU32.kind c.loop-r.invariant c.loop-r-test.true
    c.word-name.ensures c.word-start.ensures c.word-end.ensures

pub loop-r-preserved : goal.loop-r-preserved
loop-r-preserved g c =
    paint_turn g.T.FromU32.kind c.loop-r.invariant c.loop-r-test.true
    c.word-name.ensures c.word-start.ensures c.word-end.ensures
    c.from_u32-in-loop-r.ensures c.paint_run.ensures

pub returns : goal.returns
returns g c =
    let T = g.T.FromU32 in
    line_painted T.kind c.loop-r.invariant
    (subst (λ (v : Value T.kind). Filled T.kind 0 c.args.g.width v (map T.value c.args.out.now) (map T.value c.fill.new.out))
    c.from_u32.ensures c.fill.ensures)
    c.loop-r-test.false
