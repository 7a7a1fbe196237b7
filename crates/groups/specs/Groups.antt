-- Graphs of numbered nodes: chains, edges, the groups that edges make, and joins.
-- Assumes nothing.
use Rattle.std.specs.Prelude.{◌⊎◌, Bool, true, cond, ◌&&◌, ℕ, zero, suc, ◌+◌, min, max, eqb}
use mathlib.Core.List.{List, [], ◌∷◌, ◌++◌, Memᴰ}

-- document 01's chain: one or more nodes, each a step from the one before
pub data Chain (R : ℕ → ℕ → Type 0) : ℕ → ℕ → Type 0 where
  one : {a : ℕ} → Chain R a a
  more : {a b c : ℕ} → R a b → Chain R b c → Chain R a c

pub record Edge : Type 0 where
  pub from : ℕ
  pub to : ℕ

-- an edge of the list leads from a to b, either way
abbrev pub Joined : List Edge → ℕ → ℕ → Type 0
Joined es a b = Memᴰ (record { from = a; to = b }) es ⊎ Memᴰ (record { from = b; to = a }) es

-- a chain of such edges does
abbrev pub Linked : List Edge → ℕ → ℕ → Type 0
Linked es = Chain (Joined es)

-- ---- groups

-- the groups represented by x and by y become one, represented by the smaller: what then represents a node that z did
unfoldable pub merge : ℕ → ℕ → ℕ → ℕ
merge x y z = cond (eqb z (max x y)) (min x y) z

-- the representative of a node's group: its smallest node. The list is read from its end, each edge a union
unfoldable pub rep : List Edge → ℕ → ℕ
rep [] a = a
rep (e ∷ es) a = merge (rep es e.from) (rep es e.to) (rep es a)

-- a node that represents its own group
unfoldable pub is_root : List Edge → ℕ → Bool
is_root es a = eqb (rep es a) a

-- how many numbers below n pass a test
unfoldable pub count : (ℕ → Bool) → ℕ → ℕ
count f zero = 0
count f (suc n) = cond (f n) 1 0 + count f n

-- the sum of v over the numbers below n that pass a test
unfoldable pub sum_over : (ℕ → Bool) → (ℕ → ℕ) → ℕ → ℕ
sum_over f v zero = 0
sum_over f v (suc n) = cond (f n) (v n) 0 + sum_over f v n

-- so over the group that r represents, where `root` gives the representative of each node
unfoldable pub group_sum : (ℕ → ℕ) → (ℕ → ℕ) → ℕ → ℕ → ℕ
group_sum root v n r = sum_over (λ s. eqb (root s) r) v n

-- how many pairs pass a test: a number below n and one below m
unfoldable pub tally : (ℕ → ℕ → Bool) → ℕ → ℕ → ℕ
tally t n m = sum_over (λ i. true) (λ i. count (t i) m) n

-- how many groups the live nodes below n make
unfoldable pub groups : (ℕ → Bool) → List Edge → ℕ → ℕ
groups live es n = count (λ a. live a && is_root es a) n

-- document 01's joins: how many of the edges, taken from the last to the first, joined two groups
unfoldable pub joins : List Edge → ℕ
joins [] = 0
joins (e ∷ es) = cond (eqb (rep es e.from) (rep es e.to)) 0 1 + joins es

-- ---- lists of edges

-- f a, f (a + 1), .., n of them, one after the other
unfoldable pub gather : {A : Type 0} → (ℕ → List A) → ℕ → ℕ → List A
gather f a zero = []
gather f a (suc n) = f a ++ gather f (suc a) n

-- the pairs that pass a test: i in turn from a on, n of them, each with j in turn from b on, m of them
unfoldable pub pairs : (ℕ → ℕ → Bool) → ℕ → ℕ → ℕ → ℕ → List Edge
pairs t a n b m = gather (λ i. gather (λ j. cond (t i j) (record { from = i; to = j } ∷ []) []) b m) a n

-- edges visited one after the other, after those of `old`: the newest stands in front, as `rep` and `joins` take them
unfoldable pub visit : List Edge → List Edge → List Edge
visit [] old = old
visit (e ∷ es) old = visit es (e ∷ old)
