-- The code's tests of a signed cell and of a float are their flags.
-- Assumes nothing.
use mathlib.Core.Bool.{false, not}
use mathlib.Core.Path.{◌≡◌, refl, sym, ap}
use Prim.Native.Nat.{suc, ◌-◌}
use native.Mathlib.Omega.{arith}
use lib.Dec.{eqb}
use lib.IntN.{ℤ, pos, negsuc}
use lib.Ieee.{Float, ne, of_bits, binary32}
use mir.Syntax.{w16}
use mir.Val.{SFits, of_z}
use borrow.Author.Tests.{ne_eqb}
use Rattle.frame.specs.Kinds.{nzℤ, nz_f}
use Rattle.frame.proofs.KindLaws.{nz_float}

pub nz_signed : (z : ℤ) → SFits w16 z → not (eqb (of_z w16 z) 0) ≡ nzℤ z
unfolding nzℤ
nz_signed (pos n) h = refl
nz_signed (negsuc n) h = ap not (ne_eqb (65536 - suc n) 0 (λ (q : 65536 - suc n ≡ 0). omega arith))

pub nz_single : (v : Float) → ne v (of_bits binary32 0) ≡ nz_f v
unfolding ne of_bits
nz_single v = sym (nz_float v false _)
