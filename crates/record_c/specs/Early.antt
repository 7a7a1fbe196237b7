-- What is found in the words of a record and of an answer before a call is made, or 0. Where it is found nothing is written.
-- Assumes nothing.
use Rattle.std.specs.Prelude.{◌≡◌, true, false, cond, ◌||◌, List, ℕ, ltb, length, Result, Ok, Err}
use Rattle.causes.specs.declared.Cause.{Cause}
use Rattle.causes.specs.Cases.{cause_number}
use Rattle.label.specs.declared.Session.{Session}
use Rattle.record_c.specs.declared.Refusal.{Refusal}
use Rattle.record_c.specs.declared.Refusal.TheVariants as R
use Rattle.record_c.specs.Records.{record_words, structure_words, bytes, record_of}

-- the record or the answer is too short, of which the answer has at least so many words
abbrev pub short : ℕ
short = 100

abbrev pub least_answer : ℕ
least_answer = 8

unfoldable pub open_early : List ℕ → ℕ
open_early r = cond (ltb (length r) record_words) short 0

unfoldable pub frame_early : ℕ → ℕ
frame_early answer = cond (ltb answer least_answer) short 0

-- a record that is long enough has words of bytes, or it is unsound
unfoldable pub record_early : List ℕ → ℕ → ℕ
record_early r answer = cond (ltb (length r) record_words || ltb answer least_answer) short (cond (bytes (structure_words r)) 0 6)

-- ---- the same as a result

abbrev pub refusal_number : Refusal → ℕ
refusal_number R.Short = short
refusal_number (R.Cause c) = cause_number c

-- the bytes that a structure's words are, or 6
abbrev pub StructureHeld : List ℕ → Result (List ℕ) Cause → Type 0
StructureHeld words (Ok structure) = (bytes words ≡ true) × (structure ≡ words)
StructureHeld words (Err c) = (bytes words ≡ false) × (cause_number c ≡ 6)

-- the record that words hold, where nothing is found, or the refusal
abbrev pub RecordHeld : List ℕ → ℕ → Result Session Refusal → Type 0
RecordHeld r answer (Ok s) = (record_early r answer ≡ 0) × (s ≡ record_of r)
RecordHeld r answer (Err e) = refusal_number e ≡ record_early r answer
