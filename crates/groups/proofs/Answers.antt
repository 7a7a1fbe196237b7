-- A small graph, worked out: representatives, groups, joins and numbers.
-- Assumes nothing.
use mathlib.Core.Path.{◌≡◌, refl}
use mathlib.Core.Bool.{true, not}
use mathlib.Core.List.{List, [], ◌∷◌, map}
use Prim.Native.Nat.{ℕ}
use lib.Dec.{eqb, ltb}
use Rattle.groups.specs.Groups.{Edge, merge, rep, is_root, count, groups, joins, gather, pairs, visit}
use Rattle.groups.specs.Numbers.{number}

abbrev e : ℕ → ℕ → Edge
e a b = record { from = a; to = b }

-- nodes 0 to 5, four edges, of which the last joins nothing
edges : List Edge
edges = visit (e 2 0 ∷ e 3 1 ∷ e 4 3 ∷ e 4 1 ∷ []) []

nodes : List ℕ
nodes = 0 ∷ 1 ∷ 2 ∷ 3 ∷ 4 ∷ 5 ∷ []

reps_right : map (rep edges) nodes ≡ 0 ∷ 1 ∷ 0 ∷ 1 ∷ 1 ∷ 5 ∷ []
unfolding edges nodes visit rep merge
reps_right = refl

-- all nodes live, and all but node 5
counts_right : groups (λ a. true) edges 6 ∷ groups (λ a. not (eqb a 5)) edges 6 ∷ joins edges ∷ [] ≡ 3 ∷ 2 ∷ 3 ∷ []
unfolding edges visit rep merge is_root count groups joins
counts_right = refl

numbers_right : map (number (λ a. not (eqb a 5)) edges) nodes ≡ 1 ∷ 2 ∷ 1 ∷ 2 ∷ 2 ∷ 0 ∷ []
unfolding edges nodes visit rep merge is_root count groups number
numbers_right = refl

-- pairs come in order of the first, then of the second
pairs_right : pairs (λ i j. ltb j i) 1 2 0 3 ≡ e 1 0 ∷ e 2 0 ∷ e 2 1 ∷ []
unfolding gather pairs
pairs_right = refl
