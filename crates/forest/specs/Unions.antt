-- Parents and sizes in run words, and what find, union and reset do to them. The words begin with the first run's.
-- Assumes nothing.
use Rattle.std.specs.Prelude.{◌≡◌, ◌≢◌, Bool, not, List, ◌∷◌, ℕ, suc, ◌+◌, ◌-◌, ◌*◌, ◌≤◌, ◌<◌, eqb, length, get_or, set}
use Rattle.groups.specs.Groups.{Edge, rep, joins, visit}
use Rattle.frame.specs.Memory.{stride}
use Rattle.frame.specs.Words.{start_at, end_at, parent_at, size_at}
use Rattle.forest.specs.Forest.{root_of, grouping, root_sizes, Sums}

-- the parent of run r, its size, and how many cells it has itself
abbrev pub parent_in : List ℕ → ℕ → ℕ
parent_in p r = get_or p (parent_at r) 0

abbrev pub size_in : List ℕ → ℕ → ℕ
size_in p r = get_or p (size_at r) 0

abbrev pub length_in : List ℕ → ℕ → ℕ
length_in p r = get_or p (end_at r) 0 - get_or p (start_at r) 0

-- the words of the first n runs are there, and no parent is above its run
pub record Parents (p : List ℕ) (n : ℕ) : Type 0 where
  pub room : stride * n ≤ length p
  pub low : (r : ℕ) → r < n → parent_in p r ≤ r

-- and a word holds the sum of the roots' sizes: so no union of these runs overflows
pub record Sized (p : List ℕ) (n : ℕ) : Type 0 where
  pub parents : Parents p n
  pub small : root_sizes (parent_in p) (size_in p) n < 4294967296

-- each root's size is the sum of v over its group
abbrev pub Summed : List ℕ → ℕ → (ℕ → ℕ) → Type 0
Summed p n v = Sums (root_of (parent_in p)) (size_in p) v n

-- from p to q only parents of the first n runs changed, and none is above its run
pub record ParentsOnly (p q : List ℕ) (n : ℕ) : Type 0 where
  pub long : length q ≡ length p
  pub others : (j : ℕ) → ((r : ℕ) → r < n → j ≢ parent_at r) → get_or q j 0 ≡ get_or p j 0
  pub low : (r : ℕ) → r < n → parent_in q r ≤ r

-- from p to q only group words of the first n runs changed, and no parent is above its run
pub record GroupWordsOnly (p q : List ℕ) (n : ℕ) : Type 0 where
  pub long : length q ≡ length p
  pub others : (j : ℕ) → ((r : ℕ) → r < n → (j ≢ parent_at r) × (j ≢ size_at r)) → get_or q j 0 ≡ get_or p j 0
  pub low : (r : ℕ) → r < n → parent_in q r ≤ r

-- find answers the root of x, and every root stands
pub record Found (p q : List ℕ) (n x s : ℕ) : Type 0 where
  pub kept : ParentsOnly p q n
  pub same : (r : ℕ) → r < n → root_of (parent_in q) r ≡ root_of (parent_in p) r
  pub found : s ≡ root_of (parent_in p) x

-- what find ensures, at every count of runs that hold x and have their parents low
abbrev pub Finds : List ℕ → List ℕ → ℕ → ℕ → Type 0
Finds p q x s = (n : ℕ) → Parents p n → x < n → Found p q n x s

-- what making the root lo the parent of the root hi asks: both runs' words are there, and words hold the number and the sum of the sizes
pub record ToJoin (p : List ℕ) (lo hi : ℕ) : Type 0 where
  pub below : lo < hi
  pub room : stride * suc hi ≤ length p
  pub number : lo < 4294967296
  pub sizes : size_in p lo + size_in p hi < 4294967296

-- and the words then: lo has both sizes
unfoldable pub joined : List ℕ → ℕ → ℕ → List ℕ
joined p lo hi = set (set p (parent_at hi) lo) (size_at lo) (size_in p lo + size_in p hi)

-- union answers whether the roots of a and b differed, and adds an edge between them: the smaller root is then the root of both. Where
-- the roots' sizes were sums over groups, whatever was summed, they are so again
pub record Union (p q : List ℕ) (n a b : ℕ) (t : Bool) : Type 0 where
  pub kept : GroupWordsOnly p q n
  pub told : t ≡ not (eqb (root_of (parent_in p) a) (root_of (parent_in p) b))
  pub grouped : (r : ℕ) → r < n → root_of (parent_in q) r ≡ rep (record { from = a; to = b } ∷ grouping (parent_in p) n) r
  pub sized : (v : ℕ → ℕ) → Summed p n v → Summed q n v

-- what union ensures, at every count of runs that hold a and b and have their parents low
abbrev pub Unites : List ℕ → List ℕ → ℕ → ℕ → Bool → Type 0
Unites p q a b t = (n : ℕ) → Parents p n → a < n → b < n → Union p q n a b t

-- the edges of es were added one after the other, and t of those unions were joins
pub record United (p q : List ℕ) (n : ℕ) (es : List Edge) (t : ℕ) : Type 0 where
  pub kept : GroupWordsOnly p q n
  pub grouped : (r : ℕ) → r < n → root_of (parent_in q) r ≡ rep (visit es (grouping (parent_in p) n)) r
  pub counted : t + joins (grouping (parent_in p) n) ≡ joins (visit es (grouping (parent_in p) n))
  pub sized : (v : ℕ → ℕ) → Summed p n v → Summed q n v

-- what making runs a to before b groups of their own asks: their words are there, their numbers fit, and none ends before it starts
pub record ToReset (p : List ℕ) (a b : ℕ) : Type 0 where
  pub room : stride * b ≤ length p
  pub few : b ≤ 4294967296
  pub upward : (r : ℕ) → a ≤ r → r < b → get_or p (start_at r) 0 ≤ get_or p (end_at r) 0

-- each is its own parent, with its length as its size, and every other word stands
pub record Reset (p q : List ℕ) (a b : ℕ) : Type 0 where
  pub long : length q ≡ length p
  pub own : (r : ℕ) → a ≤ r → r < b → parent_in q r ≡ r
  pub sizes : (r : ℕ) → a ≤ r → r < b → size_in q r ≡ length_in p r
  pub others : (j : ℕ) → ((r : ℕ) → a ≤ r → r < b → (j ≢ parent_at r) × (j ≢ size_at r)) → get_or q j 0 ≡ get_or p j 0
