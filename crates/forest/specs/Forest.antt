-- Parents, the grouping that they hold, and the sizes of groups. Parents and sizes are functions, so that no layout stands here.
-- Assumes nothing.
use Rattle.std.specs.Prelude.{◌≡◌, Bool, not, cond, List, [], ◌∷◌, ℕ, zero, suc, ◌<◌, eqb, ltb}
use Rattle.groups.specs.Groups.{Edge, count, sum_over, group_sum, gather}

-- where k steps from r to the parent lead
unfoldable pub up : (ℕ → ℕ) → ℕ → ℕ → ℕ
up parent zero r = r
up parent (suc k) r = up parent k (parent r)

-- the root of r. No parent is above its run, so r steps are enough
unfoldable pub root_of : (ℕ → ℕ) → ℕ → ℕ
root_of parent r = up parent r r

-- r is a root: its own parent
unfoldable pub own : (ℕ → ℕ) → ℕ → Bool
own parent r = eqb (parent r) r

-- how many of the first n are roots, and how many are not
unfoldable pub roots : (ℕ → ℕ) → ℕ → ℕ
roots parent n = count (own parent) n

unfoldable pub non_roots : (ℕ → ℕ) → ℕ → ℕ
non_roots parent n = count (λ r. not (own parent r)) n

-- the number of r's group, from 1 by their roots: how many roots there are up to its own
unfoldable pub number_in : (ℕ → ℕ) → ℕ → ℕ
number_in parent r = roots parent (suc (root_of parent r))

-- the grouping that the first n parents hold, as edges
unfoldable pub grouping : (ℕ → ℕ) → ℕ → List Edge
grouping parent zero = []
grouping parent (suc n) = record { from = n; to = parent n } ∷ grouping parent n

-- ---- sizes, of which only those of roots count

-- the sum of the sizes of the roots among the first n
unfoldable pub root_sizes : (ℕ → ℕ) → (ℕ → ℕ) → ℕ → ℕ
root_sizes parent size n = sum_over (own parent) size n

-- those sizes, in the order of the roots' numbers
unfoldable pub size_list : (ℕ → ℕ) → (ℕ → ℕ) → ℕ → List ℕ
size_list parent size n = gather (λ r. cond (own parent r) (size r ∷ []) []) 0 n

-- each root's size is the sum of v over its group, of the first n
abbrev pub Sums : (ℕ → ℕ) → (ℕ → ℕ) → (ℕ → ℕ) → ℕ → Type 0
Sums root size v n = (r : ℕ) → r < n → root r ≡ r → size r ≡ group_sum root v n r

-- what run r brings to its group where the first `old` runs have theirs: a root of these its size, any other of these nothing, and a run
-- after them its length
unfoldable pub brought : ℕ → (ℕ → ℕ) → (ℕ → ℕ) → (ℕ → ℕ) → ℕ → ℕ
brought old parent size long r = cond (ltb r old) (cond (own parent r) (size r) 0) (long r)
