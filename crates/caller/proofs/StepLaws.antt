-- One entry of a list of calls as a step: a call of each kind, and what is no call.
-- Assumes nothing.
use mathlib.Core.Path.{◌≡◌, refl, sym, ap, ◌∙◌, subst}
use mathlib.Core.Bool.{Bool}
use mathlib.Core.List.{List, ◌∷◌, ◌++◌, append-nil}
use Prim.Native.Nat.{ℕ, ◌≤◌, ◌<◌}
use native.Mathlib.Omega.{arith}
use denote.MutBor.{MutBor}
use borrow.Author.Tests.{le-leb, lt-leb}
use lib.ListN.{length, drop, replicate}
use Rattle.frame.specs.Kinds.{Cells, flags, Number, u8, u16, u32}
use Rattle.frame.specs.Overlay.{overlay, Adds}
use Rattle.frame.specs.Plain.{zero_figures, Call, feed, read, sizes, widen, Answer, Written, nothing, numbers, counts, Answered}
use Rattle.frame.proofs.OverlayLaws.{overlay_short, adds_then}
use Rattle.label.specs.declared.Session.{Session}
use Rattle.label.specs.Feeding.{FeedPromise}
use Rattle.label.specs.Widening.{WidenPromise}
use Rattle.label.specs.Reading.{ReadPromise, SizesPromise}
use Rattle.calls.specs.Trace.{Trace, by_feed, by_read, by_sizes, by_widen}
use Rattle.caller.specs.CallList.{Entry, call, no_call, held, read_entry, sizes_entry, calls_of}
use Rattle.caller.specs.CallList.{no_call_number, eight_numbers, answer_numbers, numbers_of, woven}
use Rattle.caller.specs.Rooms.{Rooms, room_of, with_room, leaves, rooms_after}
use Rattle.caller.specs.declared.Making.{Making}
use Rattle.caller.specs.Making.{Standing, standing, GoesOn, Steps}

-- where a list stands, by its parts
abbrev stand : Session → List ℕ → Rooms → List ℕ → ℕ → Standing
stand s ws r answers place = record { session = s; words = ws; rooms = r; answers = answers; place = place }

-- ---- steps

-- a call that was answered, whose answer was written
pub step_call : {c : Call} {a : Answered} {s s' : Session} {ws ws' : List ℕ} {rooms : Rooms} {buf buf' : List ℕ} {i j : ℕ}
    → ((cs : List Call) (az : List Answered) (s'' : Session) (ws'' : List ℕ) → Trace s' ws' cs az s'' ws'' → Trace s ws (c ∷ cs)
    (a ∷ az) s'' ws'')
    → Adds (numbers_of a) buf i buf' j
    → Steps (call c) (stand s ws rooms buf i) (stand s' ws' (leaves a.written rooms) buf' j)
unfolding calls_of woven rooms_after
step_call {a = a} by A es end R = record {
  answered = a ∷ R.answered;
  trace = by (calls_of es) R.answered end.session end.words
      R.trace;
  rooms = R.rooms;
  adds = adds_then A R.adds;
}

pub step_none : {s : Session} {ws : List ℕ} {rooms : Rooms} {buf buf' : List ℕ} {i j : ℕ}
    → Adds (eight_numbers no_call_number 0 zero_figures) buf i buf' j
    → Steps no_call (stand s ws rooms buf i) (stand s ws rooms buf' j)
unfolding calls_of woven rooms_after
step_none A es end R = record { answered = R.answered; trace = R.trace; rooms = R.rooms; adds = adds_then A R.adds }

-- ---- a call of each kind that was made, after which `now` goes on from `mid`

abbrev answered_so : Answer → Written → Answered
answered_so a w = record { said = a; written = w }

module _ {zs : List ℕ} {s s' : Session} {ws : List ℕ} {mid now : Making} (G : GoesOn zs s' mid now) where
  went_on : {e : Entry} {rooms rooms' : Rooms}
      → Steps e (stand s ws rooms mid.answers.now.out.now mid.answers.now.at)
      (stand s' mid.words.now rooms' now.answers.now.out.now now.answers.now.at)
      → Steps e (stand s ws rooms mid.answers.now.out.now mid.answers.now.at) (standing now rooms')
  went_on {e} {rooms} {rooms'} S =
      subst (λ (w : MutBor (List ℕ)). Steps e (stand s ws rooms mid.answers.now.out.now mid.answers.now.at)
      (stand now.session w.now rooms' now.answers.now.out.now now.answers.now.at)) (sym G.words)
      (subst (λ (x : Session). Steps e (stand s ws rooms mid.answers.now.out.now mid.answers.now.at)
      (stand x mid.words.now rooms' now.answers.now.out.now now.answers.now.at)) (sym G.session) S)

module _ {a : Answer} {s s' : Session} {ws : List ℕ} {mid now : Making} where
  module _ (G : GoesOn (answer_numbers a) s' mid now) (rooms : Rooms) where
    pub step_feed : {k : ℕ} {fl : List Bool} (cells : Cells) → flags cells ≡ fl → FeedPromise s ws k fl a s' mid.words.now
        → Steps (call (feed k cells)) (stand s ws rooms mid.answers.now.out.now mid.answers.now.at) (standing now rooms)
    step_feed {k} cells e P =
        went_on G (step_call {a = answered_so a nothing}
        (λ cs az s'' ws'' T. by_feed {cells = cells} (subst (λ (l : List Bool). FeedPromise s ws k l a s' mid.words.now) (sym e) P) T)
        (unfold numbers_of in rw (append-nil (answer_numbers a)) G.writes.adds))

    pub step_widen : {structure : List ℕ} → WidenPromise s ws structure a s' mid.words.now
        → Steps (call (widen structure)) (stand s ws rooms mid.answers.now.out.now mid.answers.now.at) (standing now rooms)
    step_widen P =
        went_on G (step_call {a = answered_so a nothing} (λ cs az s'' ws'' T. by_widen P T)
        (unfold numbers_of in rw (append-nil (answer_numbers a)) G.writes.adds))

  module _ {out : List ℕ} (G : GoesOn (answer_numbers a ++ out) s' mid now) (rooms : Rooms) where
    step_read : (kind : Number) {lent before : List ℕ} → ReadPromise kind s ws before a s' mid.words.now out → before ≡ lent
        → Steps (call (read kind lent)) (stand s ws rooms mid.answers.now.out.now mid.answers.now.at)
        (standing now (leaves (numbers kind out) rooms))
    step_read kind P e =
        went_on G (step_call {a = answered_so a (numbers kind out)}
        (λ cs az s'' ws'' T. by_read {kind = kind} (subst (λ (o : List ℕ). ReadPromise kind s ws o a s' mid.words.now out) e P) T)
        (unfold numbers_of in G.writes.adds))

    step_sizes : {lent before : List ℕ} → SizesPromise s ws before a s' mid.words.now out → before ≡ lent
        → Steps (call (sizes lent)) (stand s ws rooms mid.answers.now.out.now mid.answers.now.at) (standing now (leaves (counts out) rooms))
    step_sizes P e =
        went_on G (step_call {a = answered_so a (counts out)}
        (λ cs az s'' ws'' T. by_sizes (subst (λ (o : List ℕ). SizesPromise s ws o a s' mid.words.now out) e P) T)
        (unfold numbers_of in G.writes.adds))

-- ---- four numbers that are a reading or a size call, or no call

-- a room as it is; and an output in its first places
room_kept : (kind : Number) (rooms : Rooms) → with_room kind (room_of kind rooms) rooms ≡ rooms
room_kept u8 rooms = refl
room_kept u16 rooms = refl
room_kept u32 rooms = refl

room_left : (kind : Number) (out : List ℕ) (rooms : Rooms)
    → leaves (numbers kind out) rooms ≡ with_room kind (overlay out (room_of kind rooms)) rooms
room_left u8 out rooms = refl
room_left u16 out rooms = refl
room_left u32 out rooms = refl

-- rooms that are the same
steps_rooms : {e : Entry} {b : Standing} {s : Session} {ws : List ℕ} {r r' : Rooms} {buf : List ℕ} {i : ℕ} → r ≡ r'
    → Steps e b (stand s ws r buf i) → Steps e b (stand s ws r' buf i)
steps_rooms {e} {b} {s} {ws} {buf = buf} {i = i} p S = subst (λ (q : Rooms). Steps e b (stand s ws q buf i)) p S

module _ (kind : Number) (rooms : Rooms) (room : List ℕ) (is : room_of kind rooms ≡ room) where
  room_as_is : rooms ≡ with_room kind room rooms
  room_as_is = sym (room_kept kind rooms) ∙ ap (λ (r : List ℕ). with_room kind r rooms) is

  -- the first places are lent and come back
  room_back : (places : ℕ) → places ≤ length room → (out : List ℕ) → length out ≡ places
      → overlay out (room_of kind rooms) ≡ out ++ drop places room
  room_back places h out n =
      ap (overlay out) is ∙ subst (λ (k : ℕ). overlay out room ≡ out ++ drop k room) n (overlay_short out room (omega arith))

-- an output holds `value` before, as its kind does. The room has `count` places
module _ (kind : Number) (value : ℕ) (rooms : Rooms) (room : List ℕ) (is : room_of kind rooms ≡ room) (places count : ℕ)
    (long : count ≡ length room) where
  pub read_out : {b : Standing} {s : Session} {ws buf : List ℕ} {i : ℕ} → count < places → Steps no_call b (stand s ws rooms buf i)
      → Steps (read_entry kind count places value) b (stand s ws (with_room kind room rooms) buf i)
  unfolding read_entry
  read_out h S = rw (lt-leb places count h) (steps_rooms (room_as_is kind rooms room is) S)

  pub read_in : {a : Answer} {s s' : Session} {ws out room' before : List ℕ} {mid now : Making} → places ≤ count
      → GoesOn (answer_numbers a ++ out) s' mid now → before ≡ replicate places (held kind value) → length out ≡ places
      → room' ≡ out ++ drop places room → ReadPromise kind s ws before a s' mid.words.now out
      → Steps (read_entry kind count places value) (stand s ws rooms mid.answers.now.out.now mid.answers.now.at)
      (standing now (with_room kind room' rooms))
  unfolding read_entry
  read_in {out = out} h G e n back P = rw (le-leb places count h)
      (steps_rooms (room_left kind out rooms
      ∙ ap (λ (r : List ℕ). with_room kind r rooms) (room_back kind rooms room is places (omega arith) out n ∙ sym back))
      (step_read G rooms kind P e))

-- the size call writes to the room of u32
module _ (value : ℕ) (rooms : Rooms) (room : List ℕ) (is : rooms.room32 ≡ room) (places : ℕ) where
  pub sizes_out : {b : Standing} {s : Session} {ws buf : List ℕ} {i : ℕ} → length room < places → Steps no_call b (stand s ws rooms buf i)
      → Steps (sizes_entry (length room) places value) b (stand s ws (with_room u32 room rooms) buf i)
  unfolding sizes_entry
  sizes_out h S = rw (lt-leb places (length room) h) (steps_rooms (room_as_is u32 rooms room is) S)

  pub sizes_in : {a : Answer} {s s' : Session} {ws out room' before : List ℕ} {mid now : Making} → places ≤ length room
      → GoesOn (answer_numbers a ++ out) s' mid now → before ≡ replicate places (held u32 value) → length out ≡ places
      → room' ≡ out ++ drop places room → SizesPromise s ws before a s' mid.words.now out
      → Steps (sizes_entry (length room) places value) (stand s ws rooms mid.answers.now.out.now mid.answers.now.at)
      (standing now (with_room u32 room' rooms))
  unfolding sizes_entry
  sizes_in {out = out} h G e n back P = rw (le-leb places (length room) h)
      (steps_rooms (ap (λ (r : List ℕ). with_room u32 r rooms) (room_back u32 rooms room is places h out n ∙ sym back))
      (step_sizes G rooms P e))
