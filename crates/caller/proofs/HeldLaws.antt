-- What a place holds before a call: a number as its kind holds it, in each place of the output.
-- Assumes nothing.
use mathlib.Core.Path.{◌≡◌, refl, ap, ◌∙◌}
use mathlib.Core.List.{List, ◌∷◌, map}
use Prim.Native.Nat.{ℕ, zero, suc, ◌+◌, ◌%◌, ◌^◌, ◌≤◌, ◌<◌}
use native.Mathlib.Omega.{arith}
use lib.ListN.{length, take, replicate}
use lib.Seq.{length-take-le}
use Rattle.frame.specs.Kinds.{Number, u8, u16, u32, largest}
use Rattle.caller.specs.CallList.{held}

-- `most` is the kind's largest number
module _ (most value : ℕ) where
  pub held_fits : (kind : Number) → most ≡ largest kind → value % (most + 1) < 2 ^ 32
  unfolding largest
  held_fits u8 e = rw e (omega arith)
  held_fits u16 e = rw e (omega arith)
  held_fits u32 e = rw e (omega arith)

  pub most_fits : (kind : Number) → most ≡ largest kind → most + 1 < 2 ^ 64
  unfolding largest
  most_fits u8 e = rw e (omega arith)
  most_fits u16 e = rw e (omega arith)
  most_fits u32 e = rw e (omega arith)

  pub held_is : (kind : Number) → most ≡ largest kind → value % (most + 1) ≡ held kind value
  unfolding largest
  held_is u8 e = rw e refl
  held_is u16 e = rw e refl
  held_is u32 e = rw e refl

-- the first places of a room, filled with v
module _ {X : Type 0} (f : X → ℕ) (v : X) where
  map_replicate : (n : ℕ) → map f (replicate n v) ≡ replicate n (f v)
  map_replicate zero = refl
  map_replicate (suc n) = ap (λ (l : List ℕ). f v ∷ l) (map_replicate n)

  pub filled_value : (places : ℕ) (room : List X) {now : List X} {value : ℕ} → places ≤ length room
      → now ≡ replicate (length (take places room)) v → f v ≡ value → map f now ≡ replicate places value
  filled_value places room h e is =
      ap (map f) e ∙ map_replicate (length (take places room))
      ∙ ap (λ (n : ℕ). replicate n (f v)) (length-take-le places room h) ∙ ap (replicate places) is
