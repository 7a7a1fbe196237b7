-- One list of calls worked out, refused ones among them: document 01's frame 1, by calls of every kind; and the roots of its runs.
-- Assumes nothing.
use mathlib.Core.Path.{◌≡◌, refl}
use mathlib.Core.Bool.{false}
use mathlib.Core.List.{List, [], ◌∷◌, ◌++◌, map}
use Prim.Native.Nat.{ℕ}
use lib.Ieee.{nan, fin}
use lib.IntN.{pos, negsuc}
use lib.ListN.{replicate}
use Rattle.frame.specs.Runs.{run_of}
use Rattle.frame.specs.Kinds.{u16, u8s, u16s, i16s, f32s, nz, nzℤ, nz_f, flags, u32, u8}
use Rattle.frame.specs.Plain.{Call, feed, read, sizes, widen, fed, counted, refused, nothing, numbers, counts, State}
use Rattle.label.proofs.CallFunctions.{do_open}
use Rattle.label.proofs.MeetLaws.{open_met}
use Rattle.label.proofs.Worked.{computed, frame, cross, memory, line, whole, f, begun, row}
use Rattle.calls.specs.Demand3.{root_at, Demand3}
use Rattle.calls.proofs.Demand3.{demand3}
use Rattle.calls.proofs.MeetLaws.{Ran, do_calls, calls_met}

calls : List Call
calls =
    feed 1 (u8s (1 ∷ 0 ∷ 255 ∷ []))
    -- more lines than are left; a cell too few
    ∷ feed 3 (u8s (replicate 9 1))
    ∷ feed 1 (u16s (1 ∷ 0 ∷ []))
    ∷ feed 1 (i16s (negsuc 0 ∷ pos 0 ∷ pos 7 ∷ []))
    -- readings, one of wrong length; sizes of wrong length
    ∷ read u8 (replicate 9 5)
    ∷ read u16 (replicate 8 5)
    ∷ read u16 (replicate 9 5)
    ∷ sizes (5 ∷ [])
    -- structure changes: eight bytes, nine ones, the cross again
    ∷ widen (replicate 8 1)
    ∷ widen (replicate 9 1)
    ∷ widen cross
    -- no lines
    ∷ feed 0 (f32s [])
    ∷ feed 1 (f32s (nan ∷ fin false 1 (pos 0) ∷ nan ∷ []))
    ∷ sizes (5 ∷ [])
    ∷ read u32 (replicate 9 5)
    ∷ []

ran : Ran
ran = do_calls begun.session begun.words calls

answers_right : ran.answers ≡
    record { said = fed 1 (f 2 0 2); written = nothing }
    ∷ record { said = refused 7; written = nothing }
    ∷ record { said = refused 8; written = nothing }
    ∷ record { said = fed 2 (f 4 2 4); written = nothing }
    ∷ record { said = counted 2 (f 4 2 4); written = numbers u8 (1 ∷ 0 ∷ 2 ∷ 1 ∷ 0 ∷ 2 ∷ 0 ∷ 0 ∷ 0 ∷ []) }
    ∷ record { said = refused 9; written = numbers u16 (replicate 8 5) }
    ∷ record { said = counted 2 (f 4 2 4); written = numbers u16 (1 ∷ 0 ∷ 2 ∷ 1 ∷ 0 ∷ 2 ∷ 0 ∷ 0 ∷ 0 ∷ []) }
    ∷ record { said = refused 9; written = counts (5 ∷ []) }
    ∷ record { said = refused 2; written = nothing }
    ∷ record { said = fed 2 (f 4 2 4); written = nothing }
    ∷ record { said = refused 19; written = nothing }
    ∷ record { said = fed 2 (f 4 2 4); written = nothing }
    ∷ record { said = fed 3 (f 5 4 7); written = nothing }
    ∷ record { said = counted 1 (f 5 4 7); written = counts (7 ∷ []) }
    ∷ record { said = counted 1 (f 5 4 7); written = numbers u32 (1 ∷ 0 ∷ 1 ∷ 1 ∷ 0 ∷ 1 ∷ 1 ∷ 1 ∷ 1 ∷ []) }
    ∷ []
unfolding ran calls begun computed do_calls flags nz nzℤ nz_f
answers_right = refl

-- the theorem speaks of it
demand_met : Demand3 frame cross calls ran.answers ran.session ran.words
unfolding ran begun
demand_met = demand3 frame cross memory (do_open frame cross memory).number (do_open frame cross memory).session
    (do_open frame cross memory).words (open_met frame cross memory) (unfold computed in refl) calls _ _ _ (calls_met _ _ calls)

-- all lines fed, and words that join the five runs: run 3's parent is run 1, and that one's run 0
abbrev three : State
three = record { structure = cross; fed = 3; cells = line ++ line ++ whole }

abbrev words : List ℕ
words =
    0 ∷ 2 ∷ 4 ∷ 5 ∷ row 0 1 0 7 7 ++ row 2 3 0 7 7 ++ row 0 1 0 7 7 ++ row 2 3 1 7 7 ++ row 0 3 0 7 7 ++ replicate 5 7

-- each cell's run has the root 0, be it two parents away
roots_right : map (root_at frame three words) (0 ∷ 2 ∷ 3 ∷ 5 ∷ 6 ∷ []) ≡ replicate 5 0
unfolding computed run_of
roots_right = refl
