-- `read` meets its contract: it is no call, or the first places of the room are lent.
-- Assumes nothing.
use mathlib.Core.Path.{sym, ap, ◌∙◌}
use mathlib.Core.List.{List, map, ◌++◌}
use Prim.Native.Nat.{ℕ}
use lib.ListN.{length, length-map}
use lib.Seq.{length-take-le}
use Rattle.std.proofs.lemmas.List.{map-append, drop-map}
use Rattle.caller.proofs.HeldLaws.{filled_value}
use Rattle.caller.proofs.StepLaws.{read_out, read_in}
use Rattle.caller.proofs.Making.read.Goals as goal

pub returns-then-output-room-clause-step : goal.returns-then-output-room-clause-step
returns-then-output-room-clause-step g c rooms is =
    let s = c.args in
    read_out g.T.FromU32.kind s.output.value rooms (map g.T.FromU32.value s.room.now) is s.output.places (length s.room.now)
    (sym (length-map s.room.now g.T.FromU32.value)) c.if-output-room.true (c.no_call.ensures.step rooms)

pub returns-clause-step : goal.returns-clause-step
returns-clause-step g c rooms is =
    let s = c.args in
    let f = g.T.FromU32.value in
    let h = c.if-output-room.false in
    let o = s.output in
    read_in g.T.FromU32.kind o.value rooms (map f s.room.now) is o.places (length s.room.now) (sym (length-map s.room.now f)) h
    c.after_read.ensures
    (filled_value f c.held.result o.places s.room.now h (c.fill.ensures.after (g.met.T.OutputNumber.cloned_alike c.held.result))
    c.held.ensures)
    (length-map c.read-read.new.out f ∙ c.read-read.auto.out ∙ c.fill.ensures.len ∙ length-take-le o.places s.room.now h)
    (map-append f c.read-read.new.out _ ∙ ap (λ (t : List ℕ). map f c.read-read.new.out ++ t) (sym (drop-map f o.places s.room.now)))
    c.read-read.ensures
