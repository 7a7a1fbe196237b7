-- A slice that is written from its first place on, as far as it reaches.
-- Assumes nothing.
use Rattle.std.specs.Prelude.{◌≡◌, List, [], ◌∷◌, ◌++◌, ℕ, min, length}

-- ys with its first entries replaced by those of xs, as far as ys reaches
unfoldable pub overlay : {A : Type 0} → List A → List A → List A
overlay [] ys = ys
overlay (x ∷ xs) [] = []
overlay (x ∷ xs) (y ∷ ys) = x ∷ overlay xs ys

-- the slice was ys, xs were written to it, and `place` is the next place: the length, where it is full
pub record Holds {A : Type 0} (xs ys now : List A) (place : ℕ) : Type 0 where
  pub now_is : now ≡ overlay xs ys
  pub place_is : place ≡ min (length xs) (length ys)

-- zs are written behind whatever was written before
pub record Adds {A : Type 0} (zs before : List A) (place : ℕ) (after : List A) (place' : ℕ) : Type 0 where
  pub long : length after ≡ length before
  pub behind : (xs ys : List A) → Holds xs ys before place → Holds (xs ++ zs) ys after place'
