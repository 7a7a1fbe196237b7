-- The rooms of the outputs, and what they hold after each. What is written to the answers is frame's Overlay.
-- Assumes nothing.
use Rattle.std.specs.Prelude.{List, [], ◌∷◌, ℕ, ℤ, Float, length}
use Rattle.frame.specs.Overlay.{overlay}
use Rattle.frame.specs.Kinds.{Number, u8, u16, u32}
use Rattle.frame.specs.Plain.{Written, nothing, numbers, counts, Answered}
use Rattle.caller.specs.CallList.{Lent}

-- of u8, u16 and u32
pub record Rooms : Type 0 where
  pub room8 : List ℕ
  pub room16 : List ℕ
  pub room32 : List ℕ

abbrev pub rooms_of : List ℕ → List ℕ → List ℕ → Rooms
rooms_of room8 room16 room32 = record { room8 = room8; room16 = room16; room32 = room32 }

-- the room of a kind, and the rooms with another in its place
abbrev pub room_of : Number → Rooms → List ℕ
room_of u8 r = r.room8
room_of u16 r = r.room16
room_of u32 r = r.room32

abbrev pub with_room : Number → List ℕ → Rooms → Rooms
with_room u8 room r = record { room8 = room; room16 = r.room16; room32 = r.room32 }
with_room u16 room r = record { room8 = r.room8; room16 = room; room32 = r.room32 }
with_room u32 room r = record { room8 = r.room8; room16 = r.room16; room32 = room }

-- what is lent to the calls: these cells, and these rooms
abbrev pub lent_of : List ℕ → List ℕ → List ℤ → List Float → Rooms → Lent
lent_of u8s u16s i16s f32s r =
    record {
      u8s = u8s;
      u16s = u16s;
      i16s = i16s;
      f32s = f32s;
      room8 = length r.room8;
      room16 = length r.room16;
      room32 = length r.room32;
    }

-- an output stands in the first places of the room of its kind; a size call's in that of u32
abbrev pub leaves : Written → Rooms → Rooms
leaves nothing r = r
leaves (numbers u8 out) r = record { room8 = overlay out r.room8; room16 = r.room16; room32 = r.room32 }
leaves (numbers u16 out) r = record { room8 = r.room8; room16 = overlay out r.room16; room32 = r.room32 }
leaves (numbers u32 out) r = record { room8 = r.room8; room16 = r.room16; room32 = overlay out r.room32 }
leaves (counts out) r = record { room8 = r.room8; room16 = r.room16; room32 = overlay out r.room32 }

-- the outputs in turn
unfoldable pub rooms_after : List Answered → Rooms → Rooms
rooms_after [] r = r
rooms_after (a ∷ az) r = rooms_after az (leaves a.written r)
