-- `feed_check` meets its contract: each condition is tested where those before it do not hold.
-- Assumes nothing.
use Prim.Native.Nat.{◌-◌}
use Rattle.causes.proofs.CallLaws.{feed_gets_7, feed_gets_8, feed_gets_none}
use Rattle.causes.proofs.feed_check.Goals as goal

pub returns-then-k-g : goal.returns-then-k-g
returns-then-k-g c = feed_gets_7 (c.args.g.lines - c.args.fed) c.args.k c.args.g.width c.args.cells c.if-k-g.true

pub returns-then-cells-k : goal.returns-then-cells-k
returns-then-cells-k c =
    feed_gets_8 (c.args.g.lines - c.args.fed) c.args.k c.args.g.width c.args.cells c.if-k-g.false
    c.if-cells-k.true

pub returns : goal.returns
returns c =
    feed_gets_none (c.args.g.lines - c.args.fed) c.args.k c.args.g.width c.args.cells c.if-k-g.false
    c.if-cells-k.false
