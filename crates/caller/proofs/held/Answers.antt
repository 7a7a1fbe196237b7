-- `held` meets its contract.
-- Assumes nothing.
use mathlib.Core.Path.{◌∙◌}
use native.Mathlib.Omega.{arith}
use Rattle.caller.proofs.HeldLaws.{held_fits, most_fits, held_is}
use Rattle.caller.proofs.held.Goals as goal

pub overflow_add-MAXV : goal.overflow_add-MAXV
overflow_add-MAXV g c =
    let h = most_fits _ c.args.value g.T.FromU32.kind (c.MAXV.ensures ∙ g.met.T.FromU32.largest_is) in omega arith

pub overflow_cast-value : goal.overflow_cast-value
overflow_cast-value g c =
    let h = held_fits _ c.args.value g.T.FromU32.kind (c.MAXV.ensures ∙ g.met.T.FromU32.largest_is) in omega arith

pub returns : goal.returns
returns g c = c.from_u32.ensures ∙ held_is _ c.args.value g.T.FromU32.kind (c.MAXV.ensures ∙ g.met.T.FromU32.largest_is)
