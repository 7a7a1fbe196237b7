-- What is found before a call is made: a record or an answer that is too short, a word that is no byte; and where nothing is found.
-- Assumes nothing.
use mathlib.Core.Path.{◌≡◌, refl}
use mathlib.Core.Bool.{Bool, true, false, cond, ◌||◌}
use mathlib.Core.List.{List}
use Prim.Native.Nat.{ℕ, ◌≤◌, ◌<◌}
use native.Mathlib.Omega.{arith}
use borrow.Author.Tests.{ltb-false, lt-ltb, le-ltb}
use lib.Dec.{ltb}
use lib.ListN.{length}
use Rattle.record_c.specs.Records.{record_words, structure_words, bytes, RecordReady}
use Rattle.causes.proofs.CaseLaws.{positive}
use Rattle.record_c.specs.declared.Refusal.{Refusal}
use Rattle.record_c.specs.declared.Refusal.TheVariants as R
use Rattle.record_c.specs.Early.{short, least_answer, open_early, frame_early, record_early, refusal_number}

module _ (r : List ℕ) where
  pub short_record : length r < record_words → open_early r ≡ 100
  unfolding open_early
  short_record h = rw (lt-ltb (length r) record_words h)

  pub long_record : record_words ≤ length r → open_early r ≡ 0
  unfolding open_early
  long_record h = rw (le-ltb (length r) record_words h)

  pub record_short : (n : ℕ) → length r < record_words → record_early r n ≡ 100
  unfolding record_early
  record_short n h = rw (lt-ltb (length r) record_words h)

  module _ (n : ℕ) (long : record_words ≤ length r) where
    pub answer_short : n < least_answer → record_early r n ≡ 100
    unfolding record_early
    answer_short h = rw (le-ltb (length r) record_words long, lt-ltb n least_answer h)

    pub early_by_bytes : least_answer ≤ n → (t : Bool) → bytes (structure_words r) ≡ t → record_early r n ≡ cond t 0 6
    unfolding record_early
    early_by_bytes h t e = rw (le-ltb (length r) record_words long, le-ltb n least_answer h, e)

  pub early_ready : (n : ℕ) → record_early r n ≡ 0 → RecordReady r
  unfolding record_early
  early_ready n e = go (ltb (length r) record_words) (ltb n least_answer) (bytes (structure_words r)) refl refl e
    where
      go : (a b t : Bool) → ltb (length r) record_words ≡ a → bytes (structure_words r) ≡ t
          → ◌≡◌ {A = ℕ} (cond (a || b) short (cond t 0 6)) 0
          → RecordReady r
      go true b t ea et z = absurd (omega arith)
      go false true t ea et z = absurd (omega arith)
      go false false false ea et z = absurd (omega arith)
      go false false true ea et z = record { long = ltb-false (length r) record_words ea; are_bytes = et }

pub frame_short : (n : ℕ) → n < least_answer → frame_early n ≡ 100
unfolding frame_early
frame_short n h = rw (lt-ltb n least_answer h)

pub frame_long : (n : ℕ) → least_answer ≤ n → frame_early n ≡ 0
unfolding frame_early
frame_long n h = rw (le-ltb n least_answer h)

-- no refusal has the number 0
pub refusal_positive : (x : Refusal) → 0 < refusal_number x
refusal_positive R.Short = omega arith
refusal_positive (R.Cause c) = positive c
