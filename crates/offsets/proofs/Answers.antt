-- Every code of each rank, worked out: the digits of frame's offset write it in base three.
-- Assumes nothing.
use mathlib.Core.Path.{◌≡◌, refl}
use mathlib.Core.List.{List, [], ◌∷◌, map}
use Prim.Native.Nat.{ℕ, ◌^◌}
use Rattle.frame.specs.Shape.{size, coords}
use Rattle.frame.specs.Structure.{offset}
use Rattle.frame.specs.ChainRule.{range}
use Rattle.offsets.specs.Digits.{in_base_three}

abbrev counts : List ℕ
counts = 0 ∷ 1 ∷ 2 ∷ 3 ∷ []

abbrev codes : ℕ → List ℕ
codes n = range 0 (3 ^ n)

-- for each count of leading dimensions
pub codes_right : map (λ (n : ℕ). map (λ (code : ℕ). in_base_three (offset n code)) (codes n)) counts ≡ map codes counts
unfolding range offset coords size
codes_right = refl

-- of three, the codes by the drawing: 5 is -1, 0, 1, and 13 is the centre
pub drawn_right : map (offset 3) (5 ∷ 13 ∷ 24 ∷ []) ≡ (0 ∷ 1 ∷ 2 ∷ []) ∷ (1 ∷ 1 ∷ 1 ∷ []) ∷ (2 ∷ 2 ∷ 0 ∷ []) ∷ []
unfolding offset coords size
drawn_right = refl
