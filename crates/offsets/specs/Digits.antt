-- Digits in base three, and the leading offset that has those of a code.
-- Assumes nothing.
use Rattle.std.specs.Prelude.{◌≡◌, Bool, true, ◌&&◌, List, [], ◌∷◌, ◌++◌, map, ℕ, ◌+◌, ◌-◌, ◌*◌, ◌^◌, ltb, ℤ, pos, length, take, drop, replicate}
use Rattle.frame.specs.Structure.{offset, digit}

-- the number that is written with these digits in base three, the highest first: of 1, 0, 2 it is 1 × 9 + 0 × 3 + 2
abbrev pub in_base_three : List ℕ → ℕ
in_base_three [] = 0
in_base_three (t ∷ ts) = t * 3 ^ length ts + in_base_three ts

-- each of them is 0, 1 or 2
abbrev pub are_digits : List ℕ → Bool
are_digits [] = true
are_digits (t ∷ ts) = ltb t 3 && are_digits ts

-- ts are the n digits of a number in base three, the highest first
pub record DigitsOf (n v : ℕ) (ts : List ℕ) : Type 0 where
  pub count : length ts ≡ n
  pub low : are_digits ts ≡ true
  pub value : v ≡ in_base_three ts

-- o is the offset with that code of n leading dimensions, as three parts: its parts plus one are the code's digits in base three, the
-- first dimension's highest, and in the dimensions before those it is 0
pub record OffsetOf (n code : ℕ) (o : List ℤ) : Type 0 where
  pub before : take (3 - n) o ≡ replicate (3 - n) (pos 0)
  pub digits : DigitsOf n code (map digit (drop (3 - n) o))

-- frame's offset of n leading dimensions as the digits of three parts: 1, for 0, in the dimensions before those
unfoldable pub three_digits : ℕ → ℕ → List ℕ
three_digits n code = replicate (3 - n) 1 ++ offset n code
