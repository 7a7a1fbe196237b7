-- The documents' number for each cause, and for what a check finds.
-- Assumes nothing.
use Rattle.std.specs.Prelude.{ℕ, Result, Ok, Err}
use Rattle.causes.specs.declared.Cause.{Cause}
use Rattle.causes.specs.declared.Cause.TheVariants as C

abbrev pub cause_number : Cause → ℕ
cause_number C.Rank = 1
cause_number C.StructureLength = 2
cause_number C.ZeroDimension = 3
cause_number C.TooLarge = 4
cause_number C.Memory = 5
cause_number C.Unsound = 6
cause_number C.Lines = 7
cause_number C.Cells = 8
cause_number C.Length = 9
cause_number C.Kind = 10
cause_number C.Lopsided = 12
cause_number C.NotWider = 19

-- 0 where a check passes
abbrev pub check_number : {A : Type 0} → Result A Cause → ℕ
check_number (Ok _) = 0
check_number (Err c) = cause_number c
