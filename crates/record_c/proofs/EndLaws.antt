-- What ends a call: the answer and the record, of a call that was accepted and of one that was refused.
-- Assumes nothing.
use mathlib.Core.Path.{◌≡◌, sym, ◌∙◌}
use mathlib.Core.List.{List}
use Prim.Native.Nat.{ℕ, ◌-◌, ◌<◌}
use native.Mathlib.Omega.{arith}
use Rattle.frame.specs.Plain.{refused}
use Rattle.frame.specs.Overlay.{overlay}
use Rattle.frame.proofs.PlainLaws.{kept_new, kept_old}
use Rattle.frame.proofs.OverlayLaws.{overlay_none}
use Rattle.label.specs.declared.Session.{Session}
use Rattle.record_c.specs.Records.{words_of}
use Rattle.record_c.specs.Ends.{record_after, ReadEnd}

pub ends_refused : (c : ℕ) {number : ℕ} (answer : List ℕ) → number ≡ c → ReadEnd (refused c) answer number answer
ends_refused c answer e = record { number_is = e; answer_is = sym (overlay_none answer) }

-- the record, of a call that was accepted and of one that was not
pub record_written : (number : ℕ) (s : Session) (r : List ℕ) {r' : List ℕ} → number ≡ 0 → r' ≡ overlay (words_of s) r
    → r' ≡ record_after number s r
record_written number s r e w = w ∙ sym (kept_new r (overlay (words_of s) r) number e)

pub record_stands : (number : ℕ) (s : Session) (r : List ℕ) → 0 < number → r ≡ record_after number s r
record_stands number s r h = sym (kept_old r (overlay (words_of s) r) number (number - 1) (omega arith))
