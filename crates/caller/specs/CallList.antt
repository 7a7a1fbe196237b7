-- A list of calls as numbers, four to a call, and its answers as numbers.
-- Assumes nothing.
use Rattle.std.specs.Prelude.{cond, List, [], ◌∷◌, ◌++◌, ℕ, ◌+◌, ◌%◌, ◌^◌, leb, ℤ, Float, length, get_or, take, drop, replicate}
use Rattle.frame.specs.Kinds.{Cells, u8s, u16s, i16s, f32s, Number, u8, u16, u32}
use Rattle.frame.specs.declared.Figures.{Figures}
use Rattle.frame.specs.Plain.{zero_figures}
use Rattle.frame.specs.Plain.{Call, feed, read, sizes, widen, Answer, fed, counted, refused, Written, nothing, numbers, counts}
use Rattle.frame.specs.Plain.{Answered}

-- ---- calls

-- what is lent to them: cells of each kind, and how many places an output of each kind may have
pub record Lent : Type 0 where
  pub u8s : List ℕ
  pub u16s : List ℕ
  pub i16s : List ℤ
  pub f32s : List Float
  pub room8 : ℕ
  pub room16 : ℕ
  pub room32 : ℕ

-- four numbers are a call, or no call
pub data Entry : Type 0 where
  call : Call → Entry
  no_call : Entry

-- a feed of k lines, whose cells are the c entries from place b on. A part beyond the lent cells is no call
unfoldable pub feed_entry : {A : Type 0} → (List A → Cells) → List A → ℕ → ℕ → ℕ → Entry
feed_entry kind cells k b c = cond (leb (b + c) (length cells)) (call (feed k (kind (take c (drop b cells))))) no_call

-- what a place of that kind holds of the number b
abbrev pub held : Number → ℕ → ℕ
held u8 b = b % 2 ^ 8
held u16 b = b % 2 ^ 16
held u32 b = b % 2 ^ 32

-- an output of a places that hold b before, for a reading of that kind and for the size call. More places than the room has are no call
unfoldable pub read_entry : (kind : Number) → ℕ → ℕ → ℕ → Entry
read_entry kind room a b = cond (leb a room) (call (read kind (replicate a (held kind b)))) no_call

unfoldable pub sizes_entry : ℕ → ℕ → ℕ → Entry
sizes_entry room a b = cond (leb a room) (call (sizes (replicate a (held u32 b)))) no_call

-- a structure change, whose bytes are the c entries from place b on of the u8 cells. A part beyond them is no call
unfoldable pub widen_entry : List ℕ → ℕ → ℕ → Entry
widen_entry cells b c = cond (leb (b + c) (length cells)) (call (widen (take c (drop b cells)))) no_call

-- (code, a, b, c): codes 0 to 3 feed, 4 to 6 read, 7 is the size call, 8 the structure change, and another code is no call
unfoldable pub entry_of : Lent → ℕ → ℕ → ℕ → ℕ → Entry
entry_of l code a b c =
    get_or (feed_entry u8s l.u8s a b c
    ∷ feed_entry u16s l.u16s a b c
    ∷ feed_entry i16s l.i16s a b c
    ∷ feed_entry f32s l.f32s a b c
    ∷ read_entry u8 l.room8 a b
    ∷ read_entry u16 l.room16 a b
    ∷ read_entry u32 l.room32 a b
    ∷ sizes_entry l.room32 a b
    ∷ widen_entry l.u8s b c
    ∷ []) code no_call

-- one to three numbers left over at the end are no call
unfoldable pub decode : Lent → List ℕ → List Entry
decode l [] = []
decode l (code ∷ []) = no_call ∷ []
decode l (code ∷ a ∷ []) = no_call ∷ []
decode l (code ∷ a ∷ b ∷ []) = no_call ∷ []
decode l (code ∷ a ∷ b ∷ c ∷ rest) = entry_of l code a b c ∷ decode l rest

unfoldable pub calls_of : List Entry → List Call
calls_of [] = []
calls_of (call c ∷ es) = c ∷ calls_of es
calls_of (no_call ∷ es) = calls_of es

-- ---- answers

-- the number of what is no call: document 01 and document 02 end at 19, and the numbers from 100 on are ours
abbrev pub no_call_number : ℕ
no_call_number = 101

-- eight numbers for what is answered: 0 or a cause, lines fed or n, the figures, and zeros for the rest
abbrev pub eight_numbers : ℕ → ℕ → Figures → List ℕ
eight_numbers number count f = number ∷ count ∷ f.runs ∷ f.joins ∷ f.cells ∷ 0 ∷ 0 ∷ 0 ∷ []

abbrev pub answer_numbers : Answer → List ℕ
answer_numbers (fed l f) = eight_numbers 0 l f
answer_numbers (counted n f) = eight_numbers 0 n f
answer_numbers (refused c) = eight_numbers c 0 zero_figures

-- and then what the output holds, place by place
abbrev pub output_numbers : Written → List ℕ
output_numbers nothing = []
output_numbers (numbers kind out) = out
output_numbers (counts out) = out

unfoldable pub numbers_of : Answered → List ℕ
numbers_of a = answer_numbers a.said ++ output_numbers a.written

-- the answers of the calls, with those of what is no call in their places. Each call has its answer
unfoldable pub woven : List Entry → List Answered → List ℕ
woven [] az = []
woven (no_call ∷ es) az = eight_numbers no_call_number 0 zero_figures ++ woven es az
woven (call c ∷ es) [] = []
woven (call c ∷ es) (a ∷ az) = numbers_of a ++ woven es az
