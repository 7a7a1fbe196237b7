-- `parse_flags` meets its contract. The loop's invariant: the flags before i are read, and what follows decides.
-- Assumes nothing.
use mathlib.Core.Path.{◌≡◌, sym, ap, ◌∙◌, subst}
use mathlib.Core.Logic.{◌⊎◌, inl, inr}
use Prim.Native.Nat.{ℕ, ◌<◌}
use native.Mathlib.Omega.{arith}
use lib.ListN.{length, get_or}
use Rattle.clumps_text.specs.Input.{parsed}
use Rattle.clumps_text.proofs.ReadLaws.{FlagsRead, bytes_short, byte_given, flags_begin, flags_none, flags_turn, flags_end}
use Rattle.clumps_text.proofs.parse_flags.Goals as goal

pub returns-in_err-given : goal.returns-in_err-given
returns-in_err-given c =
    let s = c.args in
    rw c.from_residual.ensures (bytes_short (length s.flags.now) s.text.now c.in_err-given.ensures.cases)

pub loop-i-init : goal.loop-i-init
loop-i-init c = flags_begin c.args.text.now (length c.args.flags.now) c.args.flags.now

pub returns-then-byte-ne49 : goal.returns-then-byte-ne49
returns-then-byte-ne49 c =
    let s = c.args in
    let l = c.loop-i in
    let g = c.in_ok-given.ensures.cases in
    let h : l.i < length s.flags.now = omega (arith, c.loop-i-test.true, g.3) in
    flags_none s.text.now (length s.flags.now) l.i h (omega (arith, h, g.0)) (byte_given (length s.flags.now) l.i s.text.now g.1 h) l.flags
    l.invariant c.if-byte-ne48.true c.if-byte-ne49.true

pub loop-i-preserved : goal.loop-i-preserved
loop-i-preserved c =
    let s = c.args in
    let l = c.loop-i in
    let g = c.in_ok-given.ensures.cases in
    let h : l.i < length s.flags.now = omega (arith, c.loop-i-test.true, g.3) in
    let b = get_or c.in_ok-given.given.now l.i 0 in
    let f : (b ≡ 48) ⊎ (b ≡ 49) = elim c.else-byte-ne48.either [ inl p ↦ inr p.1 | inr e ↦ inl e ] in
    flags_turn s.text.now (length s.flags.now) l.i h (omega (arith, h, g.0)) (byte_given (length s.flags.now) l.i s.text.now g.1 h) l.flags
    l.invariant f (omega (arith, h, l.auto.flags))

pub returns : goal.returns
returns c =
    let s = c.args in
    let l = c.loop-i in
    let g = c.in_ok-given.ensures.cases in
    let n = length s.flags.now in
    let e : l.i ≡ n = omega (arith, c.loop-i-test.false, l.auto.i-end, g.3) in
    let v : FlagsRead s.text.now n n l.flags = subst (λ (k : ℕ). FlagsRead s.text.now n k l.flags) e l.invariant in
    flags_end s.text.now n l.flags l.auto.flags v ∙ ap (parsed l.flags) (sym g.2)
