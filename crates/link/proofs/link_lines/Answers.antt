-- `link_lines` meets its contract: the runs' words are lent to `sweep::link` as a part, and come back.
-- Assumes nothing.
use Rattle.link.proofs.PartLaws.{lent_lines, lent_back}
use Rattle.link.proofs.link_lines.Goals as goal

pub link-requires : goal.link-requires
link-requires c = lent_lines c.args.lines c.args.words.now c.args.line c.args.m c.requires.0 c.requires.1

pub returns : goal.returns
returns c =
    lent_back c.args.lines c.args.words.now c.args.line c.args.m c.requires.0 c.requires.1 c.args.by
    c.link.new.p c.link.result c.link.ensures
