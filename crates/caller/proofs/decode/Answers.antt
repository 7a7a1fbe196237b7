-- `decode` meets its contract: of each code its call, or no call.
-- Assumes nothing.
use mathlib.Core.Path.{sym, ◌∙◌}
use Prim.Native.Nat.{◌≤◌}
use native.Mathlib.Omega.{arith}
use lib.ListN.{get_or}
use Rattle.frame.specs.Kinds.{u8s, u16s, i16s, f32s}
use Rattle.caller.specs.CallList.{entry_of}
use Rattle.caller.specs.Making.{lent_in}
use Rattle.caller.proofs.DecodeLaws.{at_code, at_none, feed_out, feed_in, widen_out, widen_in}
use Rattle.caller.proofs.decode.Goals as goal
use Rattle.caller.proofs.decode.Goals.{in-0+in_ok-part-in-0, in-1+in_ok-part-in-1, in-2+in_ok-part-in-2, in-3+in_ok-part-in-3}
use Rattle.caller.proofs.decode.Goals.{in-4, in-5, in-6, in-7, in-8+in_ok-part-in-8}

pub returns-in_err-part-in-0 : goal.returns-in_err-part-in-0
unfolding entry_of
returns-in_err-part-in-0 c rooms =
    rw c.from_residual.ensures
    (sym (at_code (lent_in c.args.calls rooms) c.args.numbers.now c.in-len4.len_at_least c.in-len4.len_below c.in-0.is
    ∙ feed_out u8s c.args.calls.u8s.now _ _ _ c.in_err-part-in-0.ensures))

pub returns-in_err-part-in-1 : goal.returns-in_err-part-in-1
unfolding entry_of
returns-in_err-part-in-1 c rooms =
    rw c.from_residual-in_err-part-in-1.ensures
    (sym (at_code (lent_in c.args.calls rooms) c.args.numbers.now c.in-len4.len_at_least c.in-len4.len_below c.in-1.is
    ∙ feed_out u16s c.args.calls.u16s.now _ _ _ c.in_err-part-in-1.ensures))

pub returns-in_err-part-in-2 : goal.returns-in_err-part-in-2
unfolding entry_of
returns-in_err-part-in-2 c rooms =
    rw c.from_residual-in_err-part-in-2.ensures
    (sym (at_code (lent_in c.args.calls rooms) c.args.numbers.now c.in-len4.len_at_least c.in-len4.len_below c.in-2.is
    ∙ feed_out i16s c.args.calls.i16s.now _ _ _ c.in_err-part-in-2.ensures))

pub returns-in_err-part-in-3 : goal.returns-in_err-part-in-3
unfolding entry_of
returns-in_err-part-in-3 c rooms =
    rw c.from_residual-in_err-part-in-3.ensures
    (sym (at_code (lent_in c.args.calls rooms) c.args.numbers.now c.in-len4.len_at_least c.in-len4.len_below c.in-3.is
    ∙ feed_out f32s c.args.calls.f32s.now _ _ _ c.in_err-part-in-3.ensures))

pub returns-in_err-part-in-8 : goal.returns-in_err-part-in-8
unfolding entry_of
returns-in_err-part-in-8 c rooms =
    rw c.from_residual-in_err-part-in-8.ensures
    (sym (at_code (lent_in c.args.calls rooms) c.args.numbers.now c.in-len4.len_at_least c.in-len4.len_below c.in-8.is
    ∙ widen_out c.args.calls.u8s.now _ _ c.in_err-part-in-8.ensures))

pub returns-in_default-code : goal.returns-in_default-code
returns-in_default-code c rooms =
    let n : 9 ≤ get_or c.args.numbers.now 0 0 = omega arith in
    sym (at_none (lent_in c.args.calls rooms) c.args.numbers.now c.in-len4.len_at_least c.in-len4.len_below n)

pub returns : goal.returns
unfolding entry_of
returns c rooms =
    let l = lent_in c.args.calls rooms in
    let h = c.in-len4.len_at_least in
    let k = c.in-len4.len_below in
    let s = c.args.calls in
    let n = c.args.numbers.now in
    elim c.match-code.branch [
      | in-0+in_ok-part-in-0 w ↦ rw w.result-is
          (sym (at_code l n h k w.in-0.is ∙ feed_in u8s s.u8s.now _ _ _ w.in_ok-part-in-0.ensures))
      | in-1+in_ok-part-in-1 w ↦ rw w.result-is
          (sym (at_code l n h k w.in-1.is ∙ feed_in u16s s.u16s.now _ _ _ w.in_ok-part-in-1.ensures))
      | in-2+in_ok-part-in-2 w ↦ rw w.result-is
          (sym (at_code l n h k w.in-2.is ∙ feed_in i16s s.i16s.now _ _ _ w.in_ok-part-in-2.ensures))
      | in-3+in_ok-part-in-3 w ↦ rw w.result-is
          (sym (at_code l n h k w.in-3.is ∙ feed_in f32s s.f32s.now _ _ _ w.in_ok-part-in-3.ensures))
      | in-4 w ↦ rw w.result-is (sym (at_code l n h k w.in-4.is))
      | in-5 w ↦ rw w.result-is (sym (at_code l n h k w.in-5.is))
      | in-6 w ↦ rw w.result-is (sym (at_code l n h k w.in-6.is))
      | in-7 w ↦ rw w.result-is (sym (at_code l n h k w.in-7.is))
      | in-8+in_ok-part-in-8 w ↦ rw w.result-is
          (sym (at_code l n h k w.in-8.is ∙ widen_in s.u8s.now _ _ w.in_ok-part-in-8.ensures))
    ]
