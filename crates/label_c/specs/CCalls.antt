-- What a C call promises, whatever it is given: what it returns, and what it writes to the record and to the answer. What it does
-- to the words and the output is the promise of the call itself, which stands here by its name.
-- Assumes nothing.
use Rattle.std.specs.Prelude.{◌≡◌, Bool, List, map, ℕ, ◌<◌, length}
use denote.Ref.{Bor, MutBor}
use denote.Triple.Both.{Both}
use Rattle.frame.specs.Kinds.{Number, Value}
use Rattle.frame.specs.Plain.{Answer, refused}
use Rattle.label.specs.declared.Session.{Session}
use Rattle.label.specs.Opening.{OpenPromise}
use Rattle.label.specs.Feeding.{FeedPromise}
use Rattle.label.specs.Widening.{WidenPromise}
use Rattle.label.specs.Reading.{ReadPromise, SizesPromise}
use Rattle.label.specs.WholeFrame.{FramePromise}
use Rattle.record_c.specs.Records.{record_of}
use Rattle.record_c.specs.Early.{open_early, frame_early, record_early}
use Rattle.record_c.specs.Ends.{returned, record_after, ReadEnd}

-- a call with an answer: with `early` it is not made, and what it was lent stands; else it is made, and keeps its promise
pub record Call (early : ℕ) (Stands : Type 0) (Made : Answer → Type 0) (answer : List ℕ) (number : ℕ) (answer' : List ℕ) : Type 0 where
  pub said : Answer
  pub not_made : 0 < early → said ≡ refused early
  pub stands : 0 < early → Stands
  pub made : early ≡ 0 → Made said
  pub ends : ReadEnd said answer number answer'

-- ---- the calls: their arguments at entry, the number returned, and what they were lent afterwards

pub record OpenCall (shape structure ws r : List ℕ) (number : ℕ) (ws' r' : List ℕ) : Type 0 where
  pub session : Session
  pub not_made : 0 < open_early r → number ≡ open_early r
  pub stands : 0 < open_early r → ws' ≡ ws
  pub made : open_early r ≡ 0 → OpenPromise shape structure ws number session ws'
  pub record_is : r' ≡ record_after number session r

pub record FeedMade (r ws : List ℕ) (k : ℕ) (cells : List Bool) (a : Answer) (r' ws' : List ℕ) : Type 0 where
  pub session : Session
  pub promise : FeedPromise (record_of r) ws k cells a session ws'
  pub record_is : r' ≡ record_after (returned a) session r

pub record FeedCall (r ws : List ℕ) (k : ℕ) (cells : List Bool) (answer : List ℕ) (number : ℕ) (r' ws' answer' : List ℕ) : Type 0 where
  pub call : Call (record_early r (length answer)) ((r' ≡ r) × (ws' ≡ ws)) (λ a. FeedMade r ws k cells a r' ws') answer number answer'

pub record WidenMade (r ws structure : List ℕ) (a : Answer) (r' ws' : List ℕ) : Type 0 where
  pub session : Session
  pub promise : WidenPromise (record_of r) ws structure a session ws'
  pub record_is : r' ≡ record_after (returned a) session r

pub record WidenCall (r ws structure answer : List ℕ) (number : ℕ) (r' ws' answer' : List ℕ) : Type 0 where
  pub call : Call (record_early r (length answer)) ((r' ≡ r) × (ws' ≡ ws)) (λ a. WidenMade r ws structure a r' ws') answer number answer'

-- a reading and a size call change no record
pub record ReadCall (kind : Number) (r ws : List ℕ) (out : List (Value kind)) (answer : List ℕ)
    (number : ℕ) (ws' : List ℕ) (out' : List (Value kind)) (answer' : List ℕ) : Type 0 where
  pub call :
      Call (record_early r (length answer)) ((ws' ≡ ws) × (out' ≡ out))
      (λ a. ReadPromise kind (record_of r) ws out a (record_of r) ws' out') answer number answer'

pub record SizesCall (r ws out answer : List ℕ) (number : ℕ) (ws' out' answer' : List ℕ) : Type 0 where
  pub call :
      Call (record_early r (length answer)) ((ws' ≡ ws) × (out' ≡ out))
      (λ a. SizesPromise (record_of r) ws out a (record_of r) ws' out') answer number answer'

pub record FrameCall (kind : Number) (shape structure ws : List ℕ) (cells : List Bool) (out : List (Value kind)) (answer : List ℕ)
    (number : ℕ) (ws' : List ℕ) (out' : List (Value kind)) (answer' : List ℕ) : Type 0 where
  pub call :
      Call (frame_early (length answer)) ((ws' ≡ ws) × (out' ≡ out))
      (λ a. FramePromise kind shape structure ws cells out a ws' out') answer number answer'

-- ---- the same of the slices that a function was lent, as its contract names them

-- a slice at entry and at exit, to be read or to be written
abbrev Slice : Type 0 → Type 0
Slice A = Both (Bor (List A)) (Bor (List A))

abbrev MutSlice : Type 0 → Type 0
MutSlice A = Both (MutBor (List A)) (MutBor (List A))

abbrev pub OpenLent : Slice ℕ → Slice ℕ → MutSlice ℕ → MutSlice ℕ → ℕ → Type 0
OpenLent shape structure words rec number =
    OpenCall shape.entry.now structure.entry.now words.entry.now rec.entry.now
    number words.exit.now rec.exit.now

-- `nonzero` says which cells are on, for the kind of cell
abbrev pub FeedLent : {A : Type 0} → (A → Bool) → MutSlice ℕ → MutSlice ℕ → ℕ → Slice A → MutSlice ℕ → ℕ → Type 0
FeedLent nonzero rec words k cells answer number =
    FeedCall rec.entry.now words.entry.now k (map nonzero cells.entry.now) answer.entry.now
    number rec.exit.now words.exit.now answer.exit.now

abbrev pub WidenLent : MutSlice ℕ → MutSlice ℕ → Slice ℕ → MutSlice ℕ → ℕ → Type 0
WidenLent rec words structure answer number =
    WidenCall rec.entry.now words.entry.now structure.entry.now answer.entry.now
    number rec.exit.now words.exit.now answer.exit.now

abbrev pub ReadLent : (kind : Number) → Slice ℕ → MutSlice ℕ → MutSlice (Value kind) → MutSlice ℕ → ℕ → Type 0
ReadLent kind rec words out answer number =
    ReadCall kind rec.entry.now words.entry.now out.entry.now answer.entry.now
    number words.exit.now out.exit.now answer.exit.now

-- the same of any kind of number, where `value` says what a place of the output holds
abbrev pub ReadOf : (kind : Number) {A : Type 0} → (A → Value kind) → Slice ℕ → MutSlice ℕ → MutSlice A → MutSlice ℕ → ℕ → Type 0
ReadOf kind value rec words out answer number =
    ReadCall kind rec.entry.now words.entry.now (map value out.entry.now) answer.entry.now
    number words.exit.now (map value out.exit.now) answer.exit.now

abbrev pub SizesLent : Slice ℕ → MutSlice ℕ → MutSlice ℕ → MutSlice ℕ → ℕ → Type 0
SizesLent rec words sizes answer number =
    SizesCall rec.entry.now words.entry.now sizes.entry.now answer.entry.now
    number words.exit.now sizes.exit.now answer.exit.now

abbrev pub FrameLent :
    (kind : Number) {A : Type 0} → (A → Bool)
    → Slice ℕ → Slice ℕ → MutSlice ℕ → Slice A → MutSlice (Value kind) → MutSlice ℕ → ℕ → Type 0
FrameLent kind nonzero shape structure words cells out answer number =
    FrameCall kind shape.entry.now structure.entry.now words.entry.now (map nonzero cells.entry.now)
    out.entry.now answer.entry.now
    number words.exit.now out.exit.now answer.exit.now

abbrev pub FrameOf :
    (kind : Number) {N : Type 0} → (N → Value kind) → {A : Type 0} → (A → Bool)
    → Slice ℕ → Slice ℕ → MutSlice ℕ → Slice A → MutSlice N → MutSlice ℕ → ℕ → Type 0
FrameOf kind value nonzero shape structure words cells out answer number =
    FrameCall kind shape.entry.now structure.entry.now words.entry.now (map nonzero cells.entry.now)
    (map value out.entry.now) answer.entry.now
    number words.exit.now (map value out.exit.now) answer.exit.now
