-- `mask64` meets its contract: after each turn m is the mask of eight bytes more.
-- Assumes nothing.
use Prim.Native.Nat.{ℕ, ◌+◌, ◌*◌}
use mathlib.Core.Path.{◌≡◌, refl, ap, ◌∙◌}
use mathlib.Core.List.{map}
use native.Mathlib.Omega.{arith}
use Rattle.frame.specs.Kinds.{nz}
use Rattle.runs.specs.Masks.{mask_of}
use Rattle.runs.proofs.MaskLaws.{byte_turn}
use Rattle.runs.proofs.mask64.Goals as goal

pub loop-eight-init : goal.loop-eight-init
unfolding mask_of
loop-eight-init c = λ l h. refl

pub mask8-requires : goal.mask8-requires
mask8-requires c =
    record { flags = map nz c.args.b; weighed = c.weigh-t.ensures; inside = omega (arith, c.loop-eight-test.true); eight = omega arith }

pub loop-eight-preserved : goal.loop-eight-preserved
loop-eight-preserved c =
    let v = c.loop-eight in
    let r = c.mask8 in
    let next : 8 * v.eight + 8 ≡ 8 * (v.eight + 1) = omega arith in
    λ l h. byte_turn l (8 * v.eight) v.m r.result (omega (arith, c.loop-eight-test.true)) (v.invariant l h) (r.ensures l h)
    ∙ ap (λ (n : ℕ). mask_of n l) next
