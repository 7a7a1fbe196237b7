-- The frames to prove: one list of sessions with their answers. That they are the answers is proved in proofs/Answers.antt.
-- Assumes nothing.
use Rattle.std.specs.Prelude.{true, false, List, [], ◌∷◌, ◌++◌, ℕ, zero, suc, ◌-◌, ◌*◌, ◌/◌, ◌%◌, pos, negsuc, replicate}
use Rattle.std.specs.Float.{nan, inf, fin}
use Rattle.frame.specs.Shape.{size, leading, lines}
use Rattle.frame.specs.Kinds.{u8s, u16s, i16s, f32s, Number, u8, u16, u32, Value}
use Rattle.frame.specs.Plain.{Call, feed, read, sizes, widen, fed, counted, refused, nothing, numbers, counts, Answered, session}

-- a session: shape, structure, count of words and calls, with what is answered and written
pub record Frame : Type 0 where
  pub shape : List ℕ
  pub structure : List ℕ
  pub memory : ℕ
  pub calls : List Call
  pub answers : List Answered

unfoldable pub asked : Frame → List Answered
asked f = session f.shape f.structure f.memory f.calls

-- ---- how the list is written

-- the k decimal digits of a number: d 3 101 is 1, 0, 1
digits_of : ℕ → ℕ → List ℕ → List ℕ
digits_of zero v r = r
digits_of (suc k) v r = digits_of k (v / 10) (v % 10 ∷ r)

abbrev d : ℕ → ℕ → List ℕ
unfolding digits_of
d k v = digits_of k v []

-- an output or slice of k places, before a call
abbrev o : ℕ → List ℕ
o k = replicate k 9

-- answers: a feed's, a reading's with its numbers, a size call's with its counts, and refusals of each
abbrev fed_all : ℕ → ℕ → ℕ → ℕ → Answered
fed_all l r j c = record { said = fed l (record { runs = r; joins = j; cells = c }); written = nothing }

abbrev got : (kind : Number) → ℕ → ℕ → ℕ → ℕ → List (Value kind) → Answered
got kind g r j c ns = record { said = counted g (record { runs = r; joins = j; cells = c }); written = numbers kind ns }

abbrev sized : ℕ → ℕ → ℕ → ℕ → List ℕ → Answered
sized g r j c ns = record { said = counted g (record { runs = r; joins = j; cells = c }); written = counts ns }

abbrev no : ℕ → Answered
no c = record { said = refused c; written = nothing }

abbrev no_numbers : (kind : Number) → ℕ → List (Value kind) → Answered
no_numbers kind c ns = record { said = refused c; written = numbers kind ns }

abbrev no_counts : ℕ → List ℕ → Answered
no_counts c ns = record { said = refused c; written = counts ns }

-- a whole frame of u8 cells, fed at once and read: its cells, n, runs, joins, nonzero cells and numbers
whole : List ℕ → List ℕ → List ℕ → ℕ → ℕ → ℕ → ℕ → List ℕ → Frame
whole shape structure cells g r j c ns =
    record {
      shape = shape;
      structure = structure;
      memory = 1000;
      calls = feed (lines shape) (u8s cells) ∷ read u32 (o (size shape)) ∷ [];
      answers = fed_all (lines shape) r j c ∷ got u32 g r j c ns ∷ [];
    }

-- an opening alone: with its refusal, or accepted
opening : List ℕ → List ℕ → ℕ → List Answered → Frame
opening shape structure memory answers = record { shape = shape; structure = structure; memory = memory; calls = []; answers = answers }

C : List ℕ
C = d 9 10111010

F : List ℕ
F = replicate 9 1

-- a structure of 27 bytes, of which those at code c, below the centre's, and at the opposite code are 1
pair : ℕ → List ℕ
pair c = replicate c 0 ++ 1 ∷ replicate (25 - 2 * c) 0 ++ 1 ∷ replicate c 0

-- ---- document 01's nine

unfoldable pub nine : List Frame
unfolding C F whole opening size leading digits_of
nine =
    -- 1
    record {
      shape = 3 ∷ 3 ∷ [];
      structure = C;
      memory = 34;
      calls = feed 1 (u8s (d 3 101)) ∷ read u8 (o 9) ∷ feed 1 (u8s (d 3 101)) ∷ read u8 (o 9) ∷ feed 1 (u8s (d 3 111)) ∷ read u8 (o 9) ∷ [];
      answers = fed_all 1 2 0 2 ∷ got u8 2 2 0 2 (d 9 102000000) ∷ fed_all 2 4 2 4 ∷ got u8 2 4 2 4 (d 9 102102000)
          ∷ fed_all 3 5 4 7 ∷ got u8 1 5 4 7 (d 9 101101111) ∷ [];
    }
    -- 2
    ∷ whole (3 ∷ 4 ∷ []) C (d 12 110100011011) 3 5 2 7 (d 12 110200023022)
    -- 3
    ∷ whole (2 ∷ 2 ∷ []) C (d 4 1001) 2 2 0 2 (d 4 1002)
    ∷ whole (2 ∷ 2 ∷ []) F (d 4 1001) 1 2 1 2 (d 4 1001)
    -- 4
    ∷ whole (2 ∷ 3 ∷ []) (d 9 101000101) (d 6 111111) 2 6 4 6 (d 6 121212)
    -- 5, of which document 02's F-4 makes the structures 100 and 001 refusals
    ∷ whole (3 ∷ []) (d 3 10) (d 3 111) 3 3 0 3 (d 3 123)
    ∷ opening (3 ∷ []) (d 3 100) 1000 (no 12 ∷ [])
    ∷ opening (3 ∷ []) (d 3 1) 1000 (no 12 ∷ [])
    -- 6
    ∷ record {
      shape = 4 ∷ [];
      structure = d 3 111;
      memory = 12;
      calls = feed 1 (f32s (fin true 0 (pos 0) ∷ nan ∷ fin false 0 (pos 0) ∷ fin false 1 (pos 0) ∷ [])) ∷ read u8 (o 4) ∷ [];
      answers = fed_all 1 2 0 2 ∷ got u8 2 2 0 2 (d 4 102) ∷ [];
    }
    -- 7
    ∷ whole (2 ∷ 0 ∷ []) C [] 0 0 0 0 []
    ∷ opening (0 ∷ 3 ∷ []) C 1000 (no 3 ∷ [])
    -- 8
    ∷ whole (2 ∷ 1 ∷ 2 ∷ []) (replicate 27 1) (d 4 1001) 1 2 1 2 (d 4 1001)
    ∷ whole (2 ∷ 1 ∷ 2 ∷ []) (d 27 10000010101010000010000) (d 4 1001) 2 2 0 2 (d 4 1002)
    -- 9
    ∷ opening (3 ∷ 3 ∷ []) C 34 []
    ∷ opening (3 ∷ 3 ∷ []) C 33 (no 5 ∷ [])
    ∷ []

-- ---- frames that catch the slips of this trade. Backward taken as forward shows of a lopsided structure alone: proofs/Answers.antt has it

unfoldable pub slips : List Frame
unfolding whole pair size leading digits_of
slips =
    -- the neighbour widened at both ends, though one byte is set
    whole (2 ∷ 2 ∷ []) (d 9 110000011) (d 4 110) 2 2 0 2 (d 4 120)
    ∷ whole (2 ∷ 2 ∷ []) (d 9 110000011) (d 4 1001) 1 2 1 2 (d 4 1001)
    -- offset 0,-1,0: a neighbour by line number, though a coordinate is out of range
    ∷ whole (2 ∷ 2 ∷ 1 ∷ []) (pair 10) (d 4 110) 2 2 0 2 (d 4 120)
    -- offset -1,0,0: only the line before stitched, though the neighbour is two lines back
    ∷ whole (2 ∷ 2 ∷ 1 ∷ []) (pair 4) (d 4 1010) 1 2 1 2 (d 4 1010)
    -- a neighbour run dropped once it has been met
    ∷ whole (2 ∷ 4 ∷ []) (d 9 100101001) (d 8 10100111) 1 3 2 5 (d 8 10100111)
    ∷ []

-- ---- refusals: each cause of an opening before those that come later, at its limit and beside it; then feeds, readings and size
-- calls with what each refusal leaves. 6 never comes here, and 10 needs 256 groups: proofs/Answers.antt has both by the causes alone

unfoldable pub refusals : List Frame
unfolding C opening digits_of
refusals =
    opening [] C 0 (no 1 ∷ [])
    ∷ opening (0 ∷ 1 ∷ 1 ∷ 1 ∷ 1 ∷ []) (d 3 100) 0 (no 1 ∷ [])
    ∷ opening (0 ∷ 3 ∷ []) (d 3 100) 0 (no 2 ∷ [])
    -- one arm missing; lopsided at the outermost pair, and at the innermost; of width 0; of rank 4; alike, though not by value
    ∷ opening (0 ∷ 3 ∷ []) (d 9 10111000) 0 (no 12 ∷ [])
    ∷ opening (0 ∷ 3 ∷ []) (d 9 1) 0 (no 12 ∷ [])
    ∷ opening (2147483647 ∷ []) (d 3 1) 0 (no 12 ∷ [])
    ∷ opening (0 ∷ []) (d 3 100) 10 (no 12 ∷ [])
    ∷ opening (1 ∷ 1 ∷ 1 ∷ 1 ∷ []) (replicate 80 1 ++ 0 ∷ []) 10 (no 12 ∷ [])
    ∷ opening (3 ∷ []) (d 3 207) 12 []
    ∷ opening (4294967293 ∷ 0 ∷ 3 ∷ []) (replicate 27 1) 0 (no 3 ∷ [])
    ∷ opening (0 ∷ 2147483647 ∷ []) C 0 (no 3 ∷ [])
    ∷ opening (2147483647 ∷ []) (d 3 111) 0 (no 4 ∷ [])
    ∷ opening (2147483646 ∷ []) (d 3 111) 0 (no 5 ∷ [])
    ∷ opening (4294967293 ∷ 0 ∷ []) C 0 (no 4 ∷ [])
    ∷ opening (4294967292 ∷ 0 ∷ []) C 0 (no 5 ∷ [])
    ∷ opening (4294967293 ∷ 1 ∷ []) C 0 (no 4 ∷ [])
    ∷ opening (4294967292 ∷ 1 ∷ []) C 0 (no 5 ∷ [])
    ∷ opening (9241 ∷ 464773 ∷ []) C 0 (no 4 ∷ [])
    ∷ opening (2147483646 ∷ 2 ∷ []) C 0 (no 5 ∷ [])
    ∷ record {
      shape = 3 ∷ 2 ∷ [];
      structure = C;
      memory = 19;
      calls =
          feed 4 (u8s (d 1 1))
          ∷ feed 1 (u8s (d 1 1))
          ∷ feed 1 (u16s (d 2 11))
          ∷ read u16 (o 5)
          ∷ read u16 (o 7)
          ∷ sizes (o 2)
          ∷ sizes (o 1)
          ∷ feed 0 (u8s (d 1 1))
          ∷ feed 1 (i16s (pos 0 ∷ negsuc 0 ∷ []))
          ∷ feed 2 (u8s (d 4 1111))
          ∷ feed 0 (u8s [])
          ∷ feed 1 (f32s (inf true ∷ fin true 0 (pos 0) ∷ []))
          ∷ feed 1 (u8s (d 2 11))
          ∷ sizes (o 2)
          ∷ read u16 (o 6)
          ∷ [];
      answers =
          no 7
          ∷ no 8
          ∷ fed_all 1 1 0 2
          ∷ no_numbers u16 9 (o 5)
          ∷ no_numbers u16 9 (o 7)
          ∷ no_counts 9 (o 2)
          ∷ sized 1 1 0 2 (d 1 2)
          ∷ no 8
          ∷ fed_all 2 2 1 3
          ∷ no 7
          ∷ fed_all 2 2 1 3
          ∷ fed_all 3 3 1 4
          ∷ no 7
          ∷ sized 2 3 1 4 (d 2 31)
          ∷ got u16 2 3 1 4 (d 6 110120)
          ∷ [];
    }
    ∷ []

-- ---- document 02's structure change: each refusal leaves the structure, and an accepted change counts joins from the first line

unfoldable pub changes : List Frame
unfolding C F digits_of
changes =
    -- the cross splits a bud, and nine ones join it
    record {
      shape = 3 ∷ 3 ∷ [];
      structure = C;
      memory = 34;
      calls =
          feed 2 (u8s (d 6 100010))
          ∷ widen (replicate 8 1)
          ∷ widen (d 9 110111010)
          ∷ widen (d 9 111010111)
          ∷ widen (d 9 111000)
          ∷ widen (d 9 10101010)
          ∷ read u8 (o 9)
          ∷ widen F
          ∷ read u8 (o 9)
          ∷ sizes (o 1)
          ∷ feed 1 (u8s (d 3 1))
          ∷ widen C
          ∷ widen (replicate 9 2)
          ∷ read u8 (o 9)
          ∷ [];
      answers =
          fed_all 2 2 0 2
          ∷ no 2
          ∷ no 12
          ∷ no 19
          ∷ no 19
          ∷ no 19
          ∷ got u8 2 2 0 2 (d 9 100020000)
          ∷ fed_all 2 2 1 2
          ∷ got u8 1 2 1 2 (d 9 100010000)
          ∷ sized 1 2 1 2 (d 1 2)
          ∷ fed_all 3 3 2 3
          ∷ no 19
          ∷ fed_all 3 3 2 3
          ∷ got u8 1 3 2 3 (d 9 100010001)
          ∷ [];
    }
    -- before the first line, and rank 1: the centre may come and not go, the left byte may do neither
    ∷ record {
      shape = 3 ∷ [];
      structure = d 3 0;
      memory = 17;
      calls = widen (d 3 111) ∷ widen (d 3 10) ∷ widen (d 3 0) ∷ feed 1 (u8s (d 3 111)) ∷ widen (d 3 111) ∷ widen (d 3 10) ∷ [];
      answers = no 19 ∷ fed_all 0 0 0 0 ∷ no 19 ∷ fed_all 1 3 0 3 ∷ no 19 ∷ fed_all 1 3 0 3 ∷ [];
    }
    -- width 0
    ∷ record {
      shape = 2 ∷ 0 ∷ [];
      structure = C;
      memory = 3;
      calls = feed 2 (u8s []) ∷ widen F ∷ read u8 [] ∷ [];
      answers = fed_all 2 0 0 0 ∷ fed_all 2 0 0 0 ∷ got u8 0 0 0 0 [] ∷ [];
    }
    ∷ []

unfoldable pub frames : List Frame
frames = nine ++ slips ++ refusals ++ changes
