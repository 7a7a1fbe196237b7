-- `sizes` meets its contract: it is no call, or the first places of the room are lent.
-- Assumes nothing.
use mathlib.Core.Path.{refl, sym, ◌∙◌}
use Prim.Native.Nat.{ℕ}
use lib.Seq.{length-take-le}
use Rattle.std.proofs.lemmas.List.{map-id}
use Rattle.caller.proofs.HeldLaws.{filled_value}
use Rattle.caller.proofs.StepLaws.{sizes_out, sizes_in}
use Rattle.caller.proofs.Making.sizes.Goals as goal

pub returns-then-output-room-clause-step : goal.returns-then-output-room-clause-step
returns-then-output-room-clause-step c rooms is =
    sizes_out c.args.output.value rooms c.args.room.now is c.args.output.places c.if-output-room.true (c.no_call.ensures.step rooms)

pub returns-clause-step : goal.returns-clause-step
returns-clause-step c rooms is =
    let s = c.args in
    let h = c.if-output-room.false in
    let G = rw (map-id c.sizes-read.new.sizes) at c.after_read.ensures in
    sizes_in s.output.value rooms s.room.now is s.output.places h G
    (sym (map-id c.fill.new.self)
    ∙ filled_value (λ (x : ℕ). x) c.held.result s.output.places s.room.now h (c.fill.ensures.after (λ y e. e)) c.held.ensures)
    (c.sizes-read.auto.sizes ∙ c.fill.ensures.len ∙ length-take-le s.output.places s.room.now h) refl c.sizes-read.ensures
