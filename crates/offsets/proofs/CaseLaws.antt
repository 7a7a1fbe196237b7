-- A `match` that lists the first n numbers: none is left for its last arm.
-- Assumes nothing.
use mathlib.Core.Path.{◌≡◌, refl}
use mathlib.Core.Bool.{Bool, true, false}
use Prim.Native.Nat.{ℕ, zero, suc, ◌<◌}
use native.Mathlib.Omega.{arith}
use borrow.Author.Tests.{eqb-true, eqb-false}
use lib.Dec.{eqb}

-- what the last arm learns: v is none of the first n
abbrev pub NoneOf : ℕ → ℕ → Type 0
NoneOf zero v = Unit
NoneOf (suc n) v = NoneOf n v × (v ≡ n → ⊥)

pub none_left : {A : Type 0} (n v : ℕ) → v < n → NoneOf n v → A
none_left zero v h s = absurd (omega arith)
none_left {A} (suc n) v h s = go (eqb v n) refl (none_left n v)
  where
    go : (t : Bool) → eqb v n ≡ t → (v < n → NoneOf n v → A) → A
    go true e below = absurd (s.1 (eqb-true v n e))
    go false e below = let d = eqb-false v n e in below (omega arith) s.0
