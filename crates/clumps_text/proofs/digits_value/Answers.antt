-- `digits_value` meets its contract.
-- Assumes nothing.
use mathlib.Core.Path.{ap, ◌∙◌}
use Prim.Native.Nat.{ℕ, ◌+◌, ◌-◌, ◌*◌}
use Rattle.clumps_text.proofs.ReadLaws.{digits_value_one, digits_value_two}
use Rattle.clumps_text.proofs.digits_value.Goals as goal

pub returns-then-second-eq10 : goal.returns-then-second-eq10
returns-then-second-eq10 c =
    digits_value_one c.args.text.now (c.digit_value-first.ensures ∙ ap (λ (k : ℕ). k - 48) c.byte_at.ensures) c.byte_at-second.ensures
    c.if-second-eq10.true

pub returns : goal.returns
returns c =
    ap (λ (k : ℕ). 10 * c.digit_value-first.result + k) c.digit_value.ensures
    ∙ digits_value_two c.args.text.now (c.digit_value-first.ensures ∙ ap (λ (k : ℕ). k - 48) c.byte_at.ensures) c.byte_at-second.ensures
    c.if-second-eq10.false
