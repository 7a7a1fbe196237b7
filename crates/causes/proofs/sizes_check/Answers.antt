-- `sizes_check` meets its contract.
-- Assumes nothing.
use Rattle.causes.proofs.CallLaws.{sizes_gets_9, sizes_gets_none}
use Rattle.causes.proofs.sizes_check.Goals as goal

pub returns-then-places-n : goal.returns-then-places-n
returns-then-places-n c = sizes_gets_9 c.args.n c.args.places c.if-places-n.true

pub returns : goal.returns
returns c = sizes_gets_none c.args.n c.args.places c.if-places-n.false
