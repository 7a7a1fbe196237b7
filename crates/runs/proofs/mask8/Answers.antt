-- `mask8` meets its contract: after each turn s is the mask of the first i bytes from j on.
-- Assumes nothing.
use Prim.Native.Nat.{◌+◌}
use mathlib.Core.Path.{refl}
use native.Mathlib.Omega.{arith}
use lib.ListN.{drop}
use lib.Pow.{pow_mono}
use Rattle.runs.specs.Masks.{mask_of}
use Rattle.runs.proofs.MaskLaws.{mask_lt, eight_turn}
use Rattle.runs.proofs.mask8.Goals as goal

pub loop-i-init : goal.loop-i-init
unfolding mask_of
loop-i-init c = λ l h. refl

pub overflow_add-s-in-loop-i : goal.overflow_add-s-in-loop-i
overflow_add-s-in-loop-i c =
    let v = c.loop-i in
    let p = c.requires in
    let e = eight_turn p.flags c.args.t c.args.j v.i v.s p.weighed (omega (arith, p.inside, p.eight, c.loop-i-test.true)) p.eight
    (omega (arith, c.loop-i-test.true)) (v.invariant p.flags p.weighed) in
    record { fits = omega (arith, e, c.loop-i-test.true, mask_lt (v.i + 1) (drop c.args.j p.flags), pow_mono {i = v.i + 1} {j = 8} (omega arith)) }

pub loop-i-preserved : goal.loop-i-preserved
loop-i-preserved c =
    let v = c.loop-i in
    let p = c.requires in
    λ l h. eight_turn l c.args.t c.args.j v.i v.s h (omega (arith, p.inside, p.eight, c.loop-i-test.true)) p.eight
    (omega (arith, c.loop-i-test.true)) (v.invariant l h)
