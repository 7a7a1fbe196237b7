-- What the calls of a list do to the record, the words, the rooms and the answers, and what the code's structs and calls stand for.
-- Assumes nothing.
use Rattle.std.specs.Prelude.{◌≡◌, false, true, MatchOption, Option, Some, None, Result, Ok, Err}
use Rattle.std.specs.Prelude.{List, [], ◌∷◌, ℕ, ◌+◌, leb, length, take, drop}
use Rattle.std.specs.Borrow.{Bor}
use denote.Ref.{at_last}
use Rattle.frame.specs.declared.Figures.{Figures}
use Rattle.frame.specs.Kinds.{Cells, u8s, u16s, i16s, f32s, u8, u16, u32}
use Rattle.frame.specs.Plain.{feed, widen, Answer, counted, refused, Answered}
use Rattle.causes.specs.declared.Cause.{Cause}
use Rattle.causes.specs.Cases.{cause_number}
use Rattle.label.specs.declared.Session.{Session}
use Rattle.calls.specs.Trace.{Trace}
use Rattle.caller.specs.declared.Making.{Making}
use Rattle.caller.specs.declared.CallList.{CallList}
use Rattle.caller.specs.declared.OutputRooms.{OutputRooms}
use Rattle.caller.specs.declared.FedCells.{FedCells}
use Rattle.caller.specs.declared.FedCells.TheVariants as F
use Rattle.caller.specs.declared.Kind.TheVariants as K
use Rattle.caller.specs.declared.Call.{Call}
use Rattle.caller.specs.declared.Call.TheVariants as C
use Rattle.caller.specs.CallList.{Lent, Entry, call, no_call, entry_of, read_entry, sizes_entry, calls_of, woven}
use Rattle.frame.specs.Overlay.{Adds}
use Rattle.overlay.specs.Writers.{Writes}
use Rattle.caller.specs.Rooms.{Rooms, rooms_of, lent_of, rooms_after}

-- where a list of calls stands
pub record Standing : Type 0 where
  pub session : Session
  pub words : List ℕ
  pub rooms : Rooms
  pub answers : List ℕ
  pub place : ℕ

abbrev pub standing : Making → Rooms → Standing
standing m r =
    record { session = m.session; words = m.words.now; rooms = r; answers = m.answers.now.out.now; place = m.answers.now.at }

-- the entries lead from b to a: their calls were made, and what they answered was written
pub record Performs (entries : List Entry) (b a : Standing) : Type 0 where
  pub answered : List Answered
  pub trace : Trace b.session b.words (calls_of entries) answered a.session a.words
  pub rooms : a.rooms ≡ rooms_after answered b.rooms
  pub adds : Adds (woven entries answered) b.answers b.place a.answers a.place

-- one entry leads from b to m: whatever the entries after it do from m on, they do with it from b on
abbrev pub Steps : Entry → Standing → Standing → Type 0
Steps e b m = (es : List Entry) (a : Standing) → Performs es m a → Performs (e ∷ es) b a

-- ---- the code's structs

-- it goes on from a record, on the same memory, and has written these numbers
pub record GoesOn (zs : List ℕ) (s : Session) (b a : Making) : Type 0 where
  pub session : a.session ≡ s
  pub words : a.words ≡ b.words
  pub answers : a.answers ≡ at_last b.answers a.answers.now
  pub writes : Writes zs b.answers.now a.answers.now

-- the words and the answers are the slices of before
abbrev pub SameSlices : Making → Making → Type 0
SameSlices b a =
    (a.words ≡ at_last b.words a.words.now) × (a.answers ≡ at_last b.answers a.answers.now)
    × (a.answers.now.out ≡ at_last b.answers.now.out a.answers.now.out.now)

-- what the rooms hold
abbrev pub rooms_held : OutputRooms → Rooms
rooms_held r = rooms_of r.out8.now r.out16.now r.out32.now

-- the rooms are the slices of before, as long as before
pub record SameRooms (b a : OutputRooms) : Type 0 where
  pub out8 : a.out8 ≡ at_last b.out8 a.out8.now
  pub out16 : a.out16 ≡ at_last b.out16 a.out16.now
  pub out32 : a.out32 ≡ at_last b.out32 a.out32.now
  pub long8 : length a.out8.now ≡ length b.out8.now
  pub long16 : length a.out16.now ≡ length b.out16.now
  pub long32 : length a.out32.now ≡ length b.out32.now

abbrev pub lent_in : CallList → Rooms → Lent
lent_in l r = lent_of l.u8s.now l.u16s.now l.i16s.now l.f32s.now r

-- ---- the code's calls

-- the part of the cells from place `from` on, `count` long, or that they have none
abbrev pub IsPart : {A : Type 0} → List A → ℕ → ℕ → Option (Bor (List A)) → Type 0
IsPart cells from count part =
    MatchOption part (leb (from + count) (length cells) ≡ false)
    (λ p. (leb (from + count) (length cells) ≡ true) × (p.now ≡ take count (drop from cells)))

-- what numbers of the list are: four are a call or no call, and fewer are no call
abbrev pub entry_at : Lent → List ℕ → Entry
entry_at l (code ∷ a ∷ b ∷ c ∷ []) = entry_of l code a b c
entry_at l _ = no_call

abbrev pub cells_of : FedCells → Cells
cells_of (F.U8 xs) = u8s xs.now
cells_of (F.U16 xs) = u16s xs.now
cells_of (F.I16 xs) = i16s xs.now
cells_of (F.F32 xs) = f32s xs.now

abbrev pub entry_of_call : Call → Rooms → Entry
entry_of_call (C.Feed lines cells) r = call (feed lines (cells_of cells))
entry_of_call (C.Read K.U8 o) r = read_entry u8 (length r.room8) o.places o.value
entry_of_call (C.Read K.U16 o) r = read_entry u16 (length r.room16) o.places o.value
entry_of_call (C.Read K.U32 o) r = read_entry u32 (length r.room32) o.places o.value
entry_of_call (C.Sizes o) r = sizes_entry (length r.room32) o.places o.value
entry_of_call (C.Widen structure) r = call (widen structure.now)

abbrev pub entry_made : Option Call → Rooms → Entry
entry_made None r = no_call
entry_made (Some c) r = entry_of_call c r

-- an answer with lines fed or n, and the figures
abbrev pub answer_of : Result (ℕ × Figures) Cause → Answer
answer_of (Ok (count, figures)) = counted count figures
answer_of (Err c) = refused (cause_number c)
