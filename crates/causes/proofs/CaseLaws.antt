-- Numbers of causes, and of what checks find.
-- Assumes nothing.
use mathlib.Core.Path.{◌≡◌, ap}
use Prim.Native.Nat.{◌<◌}
use native.Mathlib.Omega.{arith}
use Rattle.std.proofs.Common.{Result, Ok, Err}
use Rattle.causes.specs.declared.Cause.{Cause}
use Rattle.causes.specs.declared.Cause.TheVariants as C
use Rattle.causes.specs.Cases.{cause_number, check_number}

-- no cause has the number 0
pub positive : (c : Cause) → 0 < cause_number c
positive C.Rank = omega arith
positive C.StructureLength = omega arith
positive C.ZeroDimension = omega arith
positive C.TooLarge = omega arith
positive C.Memory = omega arith
positive C.Unsound = omega arith
positive C.Lines = omega arith
positive C.Cells = omega arith
positive C.Length = omega arith
positive C.Kind = omega arith
positive C.Lopsided = omega arith
positive C.NotWider = omega arith

-- so a check failed where its number is above 0
pub failed_some : {A : Type 0} (r : Result A Cause) (c : Cause) → r ≡ Err c → 0 < check_number r
failed_some r c is = omega (arith, ap check_number is, positive c)

pub passed_none : {A : Type 0} (r : Result A Cause) (a : A) → r ≡ Ok a → check_number r ≡ 0
passed_none r a is = ap check_number is

pub same_ok : {A : Type 0} (a b : A) → ◌≡◌ {A = Result A Cause} (Ok a) (Ok b) → a ≡ b
same_ok a b is = cc
