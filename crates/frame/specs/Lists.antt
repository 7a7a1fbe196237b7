-- Tests of all numbers below n and of lists, the last number that passes, sums, and lists cut, filled up and written into.
-- Assumes nothing.
use Rattle.std.specs.Prelude.{Bool, true, cond, ◌&&◌, List, [], ◌∷◌, ◌++◌, map, ℕ, zero, suc, ◌+◌, ◌-◌, length, get_or, set, replicate}
use Rattle.frame.specs.ChainRule.{range}

-- does every number below n pass? is every test of a list true?
unfoldable pub all : (ℕ → Bool) → ℕ → Bool
all f zero = true
all f (suc n) = f n && all f n

unfoldable pub every : List Bool → Bool
every [] = true
every (b ∷ bs) = b && every bs

-- the largest number below n that passes, or 0
unfoldable pub last_below : (ℕ → Bool) → ℕ → ℕ
last_below f zero = 0
last_below f (suc n) = cond (f n) n (last_below f n)

unfoldable pub sum : List ℕ → ℕ
sum [] = 0
sum (k ∷ ks) = k + sum ks

-- the first n entries of an array
unfoldable pub entries : ℕ → List ℕ → List ℕ
entries n l = map (λ i. get_or l i 0) (range 0 n)

-- an array of n entries that begins with l; the others are 0
unfoldable pub padded : ℕ → List ℕ → List ℕ
padded n l = l ++ replicate (n - length l) 0

-- the words, with `value i` at `place i` for each i below n
unfoldable pub set_all : (ℕ → ℕ) → (ℕ → ℕ) → ℕ → List ℕ → List ℕ
set_all place value zero ws = ws
set_all place value (suc n) ws = set (set_all place value n ws) (place n) (value n)
