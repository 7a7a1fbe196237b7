-- `name_line` meets its contract. The loop's invariant: the line's runs before r are named.
-- Assumes nothing.
use Rattle.names.proofs.NameLaws.{run_asked, line_turn}
use Rattle.names.proofs.name_line.Goals as goal

pub name_run-named-requires : goal.name_run-named-requires
name_run-named-requires c = run_asked c.loop-r.invariant c.loop-r-test.true

pub loop-r-preserved : goal.loop-r-preserved
loop-r-preserved c = line_turn c.loop-r.invariant c.loop-r-test.true c.name_run-named.ensures
