-- `read_check` meets its contract: each condition is tested where those before it do not hold.
-- Assumes nothing.
use Prim.Native.Nat.{◌*◌}
use Rattle.causes.proofs.CallLaws.{read_gets_9, read_gets_10, read_gets_none}
use Rattle.causes.proofs.read_check.Goals as goal

pub returns-then-places-g : goal.returns-then-places-g
returns-then-places-g c =
    λ kind is. read_gets_9 kind c.args.n c.args.places (c.args.g.lines * c.args.g.width) c.if-places-g.true

pub returns-then-n-most : goal.returns-then-n-most
returns-then-n-most c =
    λ kind is. read_gets_10 kind c.args.n c.args.places (c.args.g.lines * c.args.g.width) c.if-places-g.false
    c.args.most is c.if-n-most.true

pub returns : goal.returns
returns c =
    λ kind is. read_gets_none kind c.args.n c.args.places (c.args.g.lines * c.args.g.width) c.if-places-g.false
    c.args.most is c.if-n-most.false
