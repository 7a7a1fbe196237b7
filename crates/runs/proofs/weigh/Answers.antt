-- `weigh` meets its contract: after each turn the first i weights stand.
-- Assumes nothing.
use mathlib.Core.Path.{◌∙◌}
use mathlib.Core.List.{map}
use native.Mathlib.Omega.{arith}
use lib.ListN.{length-set, get_or}
use Rattle.frame.specs.Kinds.{nz}
use Rattle.runs.proofs.MaskLaws.{flag_at, weigh_turn}
use Rattle.runs.proofs.weigh.Goals as goal

pub loop-i-preserved : goal.loop-i-preserved
unfolding nz
loop-i-preserved c =
    let l = c.loop-i in
    let b = c.args.b in
    let inv = l.invariant in
    let long = inv.0 in
    let more = weigh_turn (map nz b) l.t l.i (nz (get_or b l.i 0)) (omega (arith, c.loop-i-test.true, long)) (flag_at b l.i) inv.1 in
    (length-set l.t l.i _ ∙ inv.0, more)
