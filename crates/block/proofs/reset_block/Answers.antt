-- `reset_block` meets its contract: the runs' words are lent to `reset` as a part, and come back.
-- Assumes nothing.
use Rattle.block.proofs.BlockResetLaws.{reset_back}
use Rattle.block.proofs.reset_block.Goals as goal

pub returns : goal.returns
returns c =
    reset_back c.args.lines c.args.words.now c.args.fed c.args.k c.requires c.reset.new.p
    c.reset.ensures
