-- `coords` meets its contract: from the last dimension on.
-- Assumes nothing.
use borrow.Author.Rules.{rules}
use Rattle.link.proofs.CoordinateLaws.{last_pos, middle_pos, coords_right}
use Rattle.link.proofs.coords.Goals as goal

pub nonzero_div-r : goal.nonzero_div-r
nonzero_div-r c = last_pos c.args.dims c.args.line (search rules) c.requires.0 c.requires.1

pub nonzero_div-result : goal.nonzero_div-result
nonzero_div-result c = middle_pos c.args.dims c.args.line (search rules) c.requires.0 c.requires.1

pub nonzero_rem-result : goal.nonzero_rem-result
nonzero_rem-result c = middle_pos c.args.dims c.args.line (search rules) c.requires.0 c.requires.1

pub nonzero_rem-result-2 : goal.nonzero_rem-result-2
nonzero_rem-result-2 c = last_pos c.args.dims c.args.line (search rules) c.requires.0 c.requires.1

pub returns : goal.returns
returns c = coords_right c.args.dims c.args.line (search rules) c.requires.0 c.requires.1
