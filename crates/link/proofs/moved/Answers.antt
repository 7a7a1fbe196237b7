-- `moved` meets its contract, in natural numbers.
-- Assumes nothing.
use Rattle.link.proofs.MoveLaws.{inside_moved, outside_moved}
use Rattle.link.proofs.moved.Goals as goal

pub returns-then-v-d : goal.returns-then-v-d
returns-then-v-d c = inside_moved c.args.c c.args.o c.args.d c.requires c.if-v-d.true

pub returns-else-v-d : goal.returns-else-v-d
returns-else-v-d c = outside_moved c.args.c c.args.o c.args.d c.requires c.if-v-d.false
