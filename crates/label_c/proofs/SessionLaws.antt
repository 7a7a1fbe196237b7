-- A session by C calls: what an accepted opening, feed or structure change wrote to the record is what the next call reads there.
-- Assumes nothing.
use mathlib.Core.Path.{◌≡◌, refl, sym, ap, ◌∙◌, subst}
use mathlib.Core.Bool.{Bool, true, false}
use mathlib.Core.List.{List, [], ◌∷◌, ◌++◌}
use Prim.Native.Nat.{ℕ, zero, suc, ◌-◌, ◌≤◌}
use native.Mathlib.Omega.{arith}
use borrow.Author.Tests.{ltb-true, ltb-false}
use lib.Dec.{ltb}
use lib.ListN.{length, replicate, length-append, length-replicate}
use Rattle.groups.proofs.BoolLaws.{and_true, and_left, and_right}
use Rattle.frame.specs.Plain.{Answer, unless, kept}
use Rattle.frame.specs.Lists.{padded}
use Rattle.frame.specs.Overlay.{overlay}
use Rattle.frame.proofs.PlainLaws.{unless_some, kept_new}
use Rattle.label.specs.declared.Session.{Session}
use Rattle.label.specs.Opening.{open_record, blank}
use Rattle.label.specs.Feeding.{feed_record, feed_cause_of}
use Rattle.label.specs.Widening.{widen_record, widen_cause_of}
use Rattle.label.proofs.AcceptedLaws.{open_short, widen_short}
use Rattle.record_c.specs.Records.{record_words, words_of, record_of, bytes, RecordReady}
use Rattle.record_c.specs.Ends.{returned, record_after}
use Rattle.record_c.proofs.RecordLaws.{structure_ready, Formed, written_read, written_ready}
use Rattle.record_c.proofs.EarlyLaws.{early_ready, short_record, long_record}
use Rattle.label_c.specs.CCalls.{Call, OpenCall, FeedCall, WidenCall}

-- the record that the next call reads from those words
pub record Next (s : Session) (r : List ℕ) : Type 0 where
  pub reads : record_of r ≡ s
  pub ready : RecordReady r

written_next : {s t : Session} (r : List ℕ) {r' : List ℕ} (number : ℕ) → number ≡ 0 → record_words ≤ length r → Formed t → s ≡ t
    → r' ≡ record_after number s r → Next t r'
written_next {s} {t} r {r'} number z long F e w =
    let W : r' ≡ overlay (words_of t) r = w ∙ kept_new r (overlay (words_of s) r) number z ∙ ap (λ (x : Session). overlay (words_of x) r) e in
    subst (λ (x : List ℕ). Next t x) (sym W) (record { reads = written_read t F r long; ready = written_ready t F r long })

-- ---- a call with a record

-- a call that returned 0 was made, and its answer is no refusal
module _ {early : ℕ} {Stands : Type 0} {Made : Answer → Type 0} {answer answer' : List ℕ}
    (C : Call early Stands Made answer 0 answer') where
  was_made : early ≡ 0
  was_made = go early refl
    where
      go : (e : ℕ) → early ≡ e → early ≡ 0
      go zero e = e
      go (suc d) e = let said = ap returned (C.not_made (omega arith)) in absurd (omega (arith, C.ends.number_is))

no_cause : (c : ℕ) (said a : Answer) → said ≡ unless c a → returned said ≡ 0 → c ≡ 0
no_cause zero said a e z = refl
no_cause (suc c) said a e z = let s = ap returned (e ∙ unless_some (suc c) c a refl) in absurd (omega arith)

-- so it had no cause, and the record that it handed back is the one that its promise names for that
made_next : (old : Session) {s t : Session} (r : List ℕ) {r' : List ℕ} (c : ℕ) {said : Answer} (a : Answer) → RecordReady r
    → 0 ≡ returned said → said ≡ unless c a → s ≡ kept c old t → r' ≡ record_after (returned said) s r → (c ≡ 0 → Formed t)
    → Next t r'
made_next old {s} {t} r c {said} a R z promised is w formed =
    let no = no_cause c said a promised (sym z) in
    written_next r (returned said) (sym z) R.long (formed no) (is ∙ kept_new old t c no) w

-- ---- a feed

formed_fed : (r ws : List ℕ) (k : ℕ) (cells : List Bool) → RecordReady r → Formed (feed_record (record_of r) ws k cells)
unfolding feed_record record_of
formed_fed r ws k cells R = record { shape = refl; structure = (structure_ready r R).long; are_bytes = R.are_bytes }

pub fed_next : {r ws : List ℕ} {k : ℕ} {cells : List Bool} {answer r' ws' answer' : List ℕ} → FeedCall r ws k cells answer 0 r' ws' answer'
    → Next (feed_record (record_of r) ws k cells) r'
fed_next {r} {ws} {k} {cells} {answer} F =
    let C = F.call in
    let none = was_made C in
    let R = early_ready r (length answer) none in
    let M = C.made none in
    made_next (record_of r) r (feed_cause_of (record_of r) ws k cells) _ R C.ends.number_is M.promise.said M.promise.session
    M.record_is (λ no. formed_fed r ws k cells R)

-- ---- an opening, of a structure of bytes

bytes_zeros : (n : ℕ) → bytes (replicate n 0) ≡ true
unfolding bytes
bytes_zeros zero = refl
bytes_zeros (suc n) = bytes_zeros n

bytes_padded : (l : List ℕ) (n : ℕ) → bytes l ≡ true → bytes (l ++ replicate n 0) ≡ true
unfolding bytes
bytes_padded [] n e = bytes_zeros n
bytes_padded (x ∷ l) n e = and_true (ltb x 256) (bytes (l ++ replicate n 0)) (and_left (ltb x 256) (bytes l) e)
    (bytes_padded l n (and_right (ltb x 256) (bytes l) e))

padded_long : (n : ℕ) (l : List ℕ) → length l ≤ n → length (padded n l) ≡ n
unfolding padded
padded_long n l h = omega (arith, length-append l (replicate (n - length l) 0), length-replicate {A = ℕ} (n - length l) 0)

opened_long : {shape structure ws r ws' r' : List ℕ} → OpenCall shape structure ws r 0 ws' r' → record_words ≤ length r
opened_long {r = r} O = go (ltb (length r) record_words) refl
  where
    go : (t : Bool) → ltb (length r) record_words ≡ t → record_words ≤ length r
    go false e = ltb-false (length r) record_words e
    go true e = let z = short_record r (ltb-true (length r) record_words e) in absurd (omega (arith, O.not_made (omega arith)))

pub open_next : {shape structure ws r ws' r' : List ℕ} → bytes structure ≡ true → OpenCall shape structure ws r 0 ws' r'
    → Next (open_record shape structure) r'
unfolding padded
open_next {shape} {structure} {ws} {r} b O =
    let long = opened_long O in
    let P = O.made (long_record r long) in
    let short = open_short shape structure ws P.said in
    written_next r 0 refl long
    (record {
      shape = padded_long 4 shape short.0;
      structure = padded_long 81 structure short.1;
      are_bytes = bytes_padded structure
          (81 - length structure) b;
    })
    (P.session ∙ kept_new blank (open_record shape structure) _ (sym P.said)) O.record_is

-- ---- a structure change, to a structure of bytes

formed_widened : (r ws structure : List ℕ) → bytes structure ≡ true → length structure ≤ 81
    → Formed (widen_record (record_of r) ws structure)
unfolding widen_record record_of padded
formed_widened r ws structure b h =
    record {
      shape = refl;
      structure = padded_long 81 structure h;
      are_bytes = bytes_padded structure (81 - length structure) b;
    }

pub widened_next : {r ws structure answer r' ws' answer' : List ℕ} → bytes structure ≡ true
    → WidenCall r ws structure answer 0 r' ws' answer'
    → Next (widen_record (record_of r) ws structure) r'
widened_next {r} {ws} {structure} {answer} b W =
    let C = W.call in
    let none = was_made C in
    let M = C.made none in
    made_next (record_of r) r (widen_cause_of (record_of r) ws structure) _ (early_ready r (length answer) none) C.ends.number_is
    M.promise.said M.promise.session M.record_is
    (λ no. formed_widened r ws structure b (widen_short (record_of r) ws structure no))
