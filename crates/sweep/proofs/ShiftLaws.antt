-- The offsets that sweeps are called with: one negated, and a byte's.
-- Assumes nothing.
use mathlib.Core.Path.{◌≡◌, refl, ap, ◌∙◌}
use mathlib.Core.Bool.{Bool, true, false}
use Prim.Native.Nat.{zero, suc, ◌-◌, ◌≤◌}
use native.Mathlib.Omega.{arith}
use lib.IntN.{ℤ, pos, negsuc, neg_ℤ, ◌-ℤ◌}
use mir.Syntax.{w64}
use mir.Val.{SFits, bool_byte, of_z, to_z}
use mir.Facts.{to_z-of_z}
use Rattle.frame.specs.Structure.{digit}
use Rattle.sweep.proofs.SignedLaws.{small, near_fits, neg_digit, off_back}
use Rattle.sweep.proofs.ReachedLaws.{wide}

pub negated_fits : (o : ℤ) → digit o ≤ 2 → SFits w64 (pos 0 -ℤ o)
negated_fits o h = near_fits 0 (neg_ℤ o) (omega arith) (omega (arith, neg_digit o h))

pub negated : (o : ℤ) → digit o ≤ 2 → digit (to_z w64 (of_z w64 (pos 0 -ℤ o))) ≡ 2 - digit o
negated o h = ap digit (to_z-of_z (negated_fits o h)) ∙ go o h
  where
    go : (o : ℤ) → digit o ≤ 2 → digit (pos 0 -ℤ o) ≡ 2 - digit o
    go (pos zero) h = refl
    go (pos (suc zero)) h = refl
    go (pos (suc (suc n))) h = absurd (omega arith)
    go (negsuc zero) h = refl
    go (negsuc (suc n)) h = absurd (omega arith)

pub byte_wide : (b : Bool) → digit (to_z w64 (bool_byte b)) ≡ wide b
byte_wide true = ap digit (small 1 (omega arith))
byte_wide false = ap digit (small 0 (omega arith))

-- each is an offset
pub off_le : (o : ℤ) → digit o ≤ 2 → digit (to_z w64 (of_z w64 o)) ≤ 2
off_le o h = rw (off_back o h) h

pub byte_le : (b : Bool) → digit (to_z w64 (bool_byte b)) ≤ 2
byte_le true = omega (arith, byte_wide true)
byte_le false = omega (arith, byte_wide false)
