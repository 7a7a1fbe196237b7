-- A call that is made or not made, whatever the call.
-- Assumes nothing.
use mathlib.Core.Path.{◌≡◌, refl, sym, ◌∙◌, subst}
use mathlib.Core.Bool.{Bool}
use mathlib.Core.List.{List}
use Prim.Native.Nat.{ℕ, ◌≤◌, ◌<◌}
use native.Mathlib.Omega.{arith}
use lib.ListN.{length}
use Rattle.frame.specs.Kinds.{Number, Value}
use Rattle.frame.specs.Plain.{Answer, refused}
use Rattle.label.specs.declared.Session.{Session}
use Rattle.label.specs.Opening.{OpenPromise, blank}
use Rattle.label.specs.Feeding.{FeedPromise}
use Rattle.label.specs.Widening.{WidenPromise}
use Rattle.label.specs.Reading.{ReadPromise, SizesPromise}
use Rattle.label.specs.WholeFrame.{FramePromise}
use Rattle.record_c.specs.Records.{record_words, record_of}
use Rattle.record_c.specs.declared.Refusal.{Refusal}
use Rattle.record_c.specs.Early.{least_answer, record_early, refusal_number}
use Rattle.record_c.specs.Ends.{record_after, ReadEnd, FeedEnd}
use Rattle.record_c.proofs.EarlyLaws.{short_record, long_record, frame_short, frame_long, refusal_positive}
use Rattle.record_c.proofs.EndLaws.{ends_refused, record_stands}
use Rattle.label_c.specs.CCalls.{Call, OpenCall, FeedCall, WidenCall, ReadCall, SizesCall, FrameCall}

-- ---- a call

module _ {early : ℕ} {Stands : Type 0} {Made : Answer → Type 0} {answer : List ℕ} {number : ℕ} where
  call_early : number ≡ early → 0 < number → Stands → Call early Stands Made answer number answer
  call_early e h stands =
      record {
        said = refused early;
        not_made = λ k. refl;
        stands = λ k. stands;
        made = λ none. absurd (omega arith);
        ends = ends_refused early answer e;
      }

  call_made : {said : Answer} {answer' : List ℕ} → early ≡ 0 → Made said → ReadEnd said answer number answer'
      → Call early Stands Made answer number answer'
  call_made {said} none made ends =
      record {
        said = said;
        not_made = λ h. absurd (omega arith);
        stands = λ h. absurd (omega arith);
        made = λ e. made;
        ends = ends;
      }

  -- a call with a record: what it promises of the record that was read, it promises of the one that the words hold
  record_made : {s t : Session} {said : Answer} {answer' : List ℕ} → early ≡ 0 → s ≡ t → (Promise : Session → Type 0) → Promise s
      → (Promise t → Made said) → ReadEnd said answer number answer'
      → Call early Stands Made answer number answer'
  record_made none e Promise P made E = call_made none (made (subst Promise e P)) E

-- ---- an opening

module _ (shape structure ws r : List ℕ) where
  pub open_early_lem : length r < record_words → OpenCall shape structure ws r 100 ws r
  open_early_lem h =
      let e = short_record r h in
      record {
        session = blank;
        not_made = λ k. sym e;
        stands = λ k. refl;
        made = λ none. absurd (omega arith);
        record_is = record_stands 100 blank r (omega arith);
      }

  pub open_made : {number n : ℕ} {s : Session} {ws' r' : List ℕ} → record_words ≤ length r → OpenPromise shape structure ws n s ws'
      → number ≡ n → r' ≡ record_after n s r
      → OpenCall shape structure ws r number ws' r'
  open_made {number} {n} {s} {ws'} {r'} h P e w =
      let none = long_record r h in
      record {
        session = s;
        not_made = λ k. absurd (omega arith);
        stands = λ k. absurd (omega arith);
        made = λ z. subst (λ (x : ℕ). OpenPromise shape structure ws x s ws') (sym e) P;
        record_is = subst (λ (x : ℕ). r' ≡ record_after x s r) (sym e) w;
      }

-- ---- calls with a record: not made, or made with the record that the words hold

module _ {r ws answer : List ℕ} (x : Refusal) (e : refusal_number x ≡ record_early r (length answer)) where
  pub feed_early : {k : ℕ} {cells : List Bool} → FeedCall r ws k cells answer (refusal_number x) r ws answer
  feed_early = record { call = call_early e (refusal_positive x) (refl, refl) }

  pub widen_early : {structure : List ℕ} → WidenCall r ws structure answer (refusal_number x) r ws answer
  widen_early = record { call = call_early e (refusal_positive x) (refl, refl) }

  pub read_early : {kind : Number} {out : List (Value kind)} → ReadCall kind r ws out answer (refusal_number x) ws out answer
  read_early = record { call = call_early e (refusal_positive x) (refl, refl) }

  pub sizes_early : {out : List ℕ} → SizesCall r ws out answer (refusal_number x) ws out answer
  sizes_early = record { call = call_early e (refusal_positive x) (refl, refl) }

module _ {s s' : Session} {r ws ws' answer answer' : List ℕ} {number : ℕ} {a : Answer} (none : record_early r (length answer) ≡ 0)
    (e : s ≡ record_of r) where
  pub feed_made : {k : ℕ} {cells : List Bool} {r' : List ℕ} → FeedPromise s ws k cells a s' ws' → FeedEnd a s' r answer number r' answer'
      → FeedCall r ws k cells answer number r' ws' answer'
  feed_made {k} {cells} P E =
      record {
        call = record_made none e (λ (x : Session). FeedPromise x ws k cells a s' ws') P
            (λ p. record { session = s'; promise = p; record_is = E.record_is }) E.ends;
      }

  pub widen_made : {structure r' : List ℕ} → WidenPromise s ws structure a s' ws' → FeedEnd a s' r answer number r' answer'
      → WidenCall r ws structure answer number r' ws' answer'
  widen_made {structure} P E =
      record {
        call = record_made none e (λ (x : Session). WidenPromise x ws structure a s' ws') P
            (λ p. record { session = s'; promise = p; record_is = E.record_is }) E.ends;
      }

  pub read_made : {kind : Number} {out out' : List (Value kind)} → ReadPromise kind s ws out a s' ws' out' → ReadEnd a answer number answer'
      → ReadCall kind r ws out answer number ws' out' answer'
  read_made {kind} {out} {out'} P E =
      record {
        call = record_made none e (λ (x : Session). ReadPromise kind x ws out a s' ws' out') P
            (subst (λ (x : Session). ReadPromise kind (record_of r) ws out a x ws' out') (P.session ∙ e)) E;
      }

  pub sizes_made : {out out' : List ℕ} → SizesPromise s ws out a s' ws' out' → ReadEnd a answer number answer'
      → SizesCall r ws out answer number ws' out' answer'
  sizes_made {out} {out'} P E =
      record {
        call = record_made none e (λ (x : Session). SizesPromise x ws out a s' ws' out') P
            (subst (λ (x : Session). SizesPromise (record_of r) ws out a x ws' out') (P.session ∙ e)) E;
      }

-- ---- whole frames

module _ {kind : Number} {shape structure ws : List ℕ} {cells : List Bool} {out : List (Value kind)} {answer : List ℕ} where
  pub frame_early_lem : length answer < least_answer → FrameCall kind shape structure ws cells out answer 100 ws out answer
  frame_early_lem h = record { call = call_early (sym (frame_short (length answer) h)) (omega arith) (refl, refl) }

  pub frame_made : {number : ℕ} {ws' : List ℕ} {out' : List (Value kind)} {answer' : List ℕ} {a : Answer}
      → least_answer ≤ length answer → FramePromise kind shape structure ws cells out a ws' out' → ReadEnd a answer number answer'
      → FrameCall kind shape structure ws cells out answer number ws' out' answer'
  frame_made h P E = record { call = call_made (frame_long (length answer) h) P E }
