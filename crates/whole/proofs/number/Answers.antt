-- `number` meets its contract: n above the kind's largest is refused, and else the numbers are a reading's.
-- Assumes nothing.
use Rattle.std.proofs.Common.{rules}
use Rattle.whole.proofs.NumberingLaws.{number_joins, number_ready, number_ten, number_done}
use Rattle.whole.proofs.number.Goals as goal

pub overflow_sub-n : goal.overflow_sub-n
overflow_sub-n g c = number_joins c.requires

pub returns-then-n-most : goal.returns-then-n-most
returns-then-n-most g c =
    let most = g.met.O.FromU32.largest_is in
    number_ten g.O.FromU32.kind (search (rules, most))

pub write_block-requires : goal.write_block-requires
write_block-requires g c =
    let most = g.met.O.FromU32.largest_is in
    number_ready c.requires g.O.FromU32.kind (search (rules, most))

pub returns : goal.returns
returns g c =
    let most = g.met.O.FromU32.largest_is in
    number_done g.O.FromU32.kind (search (rules, most)) c.write_block.ensures
