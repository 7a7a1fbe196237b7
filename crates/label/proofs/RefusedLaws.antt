-- What a check says: a call with a cause hands back its number, and everything is as it was.
-- Assumes nothing.
use mathlib.Core.Path.{◌≡◌, refl, sym, ap, ◌∙◌}
use mathlib.Core.Bool.{Bool}
use mathlib.Core.List.{List}
use Prim.Native.Nat.{ℕ, suc, ◌-◌, ◌<◌}
use native.Mathlib.Omega.{arith}
use lib.ListN.{length}
use Rattle.std.proofs.Common.{Result, Err}
use Rattle.frame.specs.Kinds.{Number, Value}
use Rattle.frame.specs.Causes.{open_cause}
use Rattle.frame.specs.Plain.{Answer, refused, unless}
use Rattle.frame.proofs.PlainLaws.{unless_some, unless_same, kept_old}
use Rattle.geo.specs.declared.Geo.{Geo}
use Rattle.causes.specs.declared.Cause.{Cause}
use Rattle.causes.specs.Cases.{cause_number, check_number}
use Rattle.causes.specs.Checks.{Found, LentFound}
use Rattle.causes.proofs.CaseLaws.{positive}
use Rattle.label.specs.declared.Session.{Session}
use Rattle.label.specs.declared.Counted.{Counted}
use Rattle.label.specs.Cases.{open_number, opened, read_answer}
use Rattle.label.specs.Held.{numbers_held, sizes_held}
use Rattle.label.specs.Opening.{open_record, open_words, blank, OpenPromise}
use Rattle.label.specs.Feeding.{feed_record, feed_cause_of, FeedPromise}
use Rattle.label.specs.Widening.{widen_record, widen_cause_of, WidenPromise}
use Rattle.label.specs.Reading.{with_names, counted_of, read_cause_of, ReadPromise, sizes_cause_of, SizesPromise}
use Rattle.label.specs.Steps.{RecordFound}

-- ---- a cause whose number is n

module _ (c : Cause) {n : ℕ} (is : cause_number c ≡ n) where
  pub cause_above : n ≡ suc (n - 1)
  cause_above = omega (arith, is, positive c)

  pub says_cause : (a : Answer) → refused (cause_number c) ≡ unless n a
  says_cause a = ap (λ (x : ℕ). refused x) (is ∙ cause_above) ∙ sym (unless_some n (n - 1) a cause_above)

-- ---- a reading that has a cause, whose number is n

pub refused_read : (kind : Number) (s : Session) (ws : List ℕ) (out : List (Value kind)) (n : ℕ) → n ≡ read_cause_of kind s ws (length out)
    → 0 < n → (a b : Answer) → a ≡ unless n b → (s' : Session) → s' ≡ s → ReadPromise kind s ws out a s' ws out
refused_read kind s ws out n is h a b said s' same =
    let above : read_cause_of kind s ws (length out) ≡ suc (read_cause_of kind s ws (length out) - 1) = omega (arith, is, h) in
    record {
      said = said ∙ unless_same n (read_cause_of kind s ws (length out)) b (counted_of s ws) is (λ none. absurd (omega (arith, h, none)));
      session = same;
      words = sym (kept_old ws (with_names s ws) _ _ above);
      output = sym (kept_old out (numbers_held s ws kind) _ _ above);
    }

-- so of one that answers its cause
pub refused_reading : (kind : Number) (s : Session) (ws : List ℕ) (out : List (Value kind)) (c : Cause)
    → cause_number c ≡ read_cause_of kind s ws (length out) → {r : Result Counted Cause} → r ≡ Err c
    → ReadPromise kind s ws out (read_answer r) s ws out
refused_reading kind s ws out c is said =
    refused_read kind s ws out (cause_number c) is (positive c) _ (counted_of s ws) (ap read_answer said ∙ says_cause c refl (counted_of s ws)) s refl

-- ---- where the check of a call failed

module _ {rank : ℕ} {shape structure : List ℕ} {cause : ℕ} {r : Result Geo Cause} (F : Found rank shape structure cause r) {c : Cause}
    (is : r ≡ Err c) where
  pub failed_number : cause_number c ≡ cause
  failed_number = ap check_number (sym is) ∙ F.number

module _ {shape structure ws : List ℕ} {r : Result Geo Cause} (F : LentFound shape structure (open_cause shape structure (length ws)) r)
    {c : Cause} (is : r ≡ Err c) where
  pub failed_open : {o : Result Session Cause} → o ≡ Err c → OpenPromise shape structure ws (open_number o) (opened o) ws
  failed_open said =
      let n = failed_number F is in
      let z = cause_above c n in
      record {
        said = ap open_number said ∙ n;
        session = ap opened said ∙ sym (kept_old blank (open_record shape structure) _ _ z);
        words = sym (kept_old ws (open_words ws) _ _ z);
      }

module _ {s : Session} {ws : List ℕ} {k : ℕ} {cells : List Bool} {r : Result Geo Cause} (F : RecordFound s (feed_cause_of s ws k cells) r)
    {c : Cause} (is : r ≡ Err c) where
  pub failed_feed : FeedPromise s ws k cells (refused (cause_number c)) s ws
  failed_feed =
      let n = failed_number F is in
      let z = cause_above c n in
      record {
        said = says_cause c n _;
        session = sym (kept_old s (feed_record s ws k cells) _ _ z);
        refusal = λ h. refl;
        accepted = λ none. absurd (omega (arith, z));
      }

module _ {s : Session} {ws structure : List ℕ} {r : Result Geo Cause} (F : RecordFound s (widen_cause_of s ws structure) r)
    {c : Cause} (is : r ≡ Err c) where
  pub failed_widen : WidenPromise s ws structure (refused (cause_number c)) s ws
  failed_widen =
      let n = failed_number F is in
      let z = cause_above c n in
      record {
        said = says_cause c n _;
        session = sym (kept_old s (widen_record s ws structure) _ _ z);
        refusal = λ h. refl;
        accepted = λ none. absurd (omega (arith, z));
      }

module _ {kind : Number} {s : Session} {ws : List ℕ} {out : List (Value kind)} {r : Result Geo Cause}
    (F : RecordFound s (read_cause_of kind s ws (length out)) r) {c : Cause} (is : r ≡ Err c) where
  pub failed_read : {a : Result Counted Cause} → a ≡ Err c → ReadPromise kind s ws out (read_answer a) s ws out
  failed_read said = refused_reading kind s ws out c (failed_number F is) said

module _ {s : Session} {ws out : List ℕ} {r : Result Geo Cause} (F : RecordFound s (sizes_cause_of s ws (length out)) r)
    {c : Cause} (is : r ≡ Err c) where
  pub failed_sizes : {a : Result Counted Cause} → a ≡ Err c → SizesPromise s ws out (read_answer a) s ws out
  failed_sizes said =
      let n = failed_number F is in
      let z = cause_above c n in
      record {
        said = ap read_answer said ∙ says_cause c n _;
        session = refl;
        words = sym (kept_old ws (with_names s ws) _ _ z);
        output = sym (kept_old out (sizes_held s ws) _ _ z);
      }
