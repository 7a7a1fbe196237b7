-- The chain rule: which fed nonzero cells make one group, how many groups there are, and each cell's number.
-- Assumes nothing.
use Rattle.std.specs.Prelude.{◌≡◌, ◌⊎◌, Bool, true, false, ◌&&◌, ◌||◌, ℕ, zero, suc, ◌+◌, ◌^◌, ◌<◌, eqb, length, get_or}
use mathlib.Core.List.{List, [], ◌∷◌, map, zip_with}
use Rattle.groups.specs.Groups.{Chain, Edge, count, groups, pairs}
use Rattle.groups.specs.Numbers.{Numbered, number}
use Rattle.frame.specs.Shape.{size, coords}
use Rattle.frame.specs.Structure.{offset, backward, Moved, on}

-- cell p is fed and nonzero, where `cells` says of each fed cell, in C order, whether it is nonzero
unfoldable pub nonzero : List Bool → ℕ → Bool
nonzero cells p = get_or cells p false

-- a backward offset with a nonzero structure byte leads from p to q
pub record Leads (shape structure : List ℕ) (p q : ℕ) : Type 0 where
  pub code : ℕ
  pub is_code : code < 3 ^ length shape
  pub is_backward : backward (offset (length shape) code) ≡ true
  pub is_on : on structure code ≡ true
  pub leads : Moved (coords shape p) (offset (length shape) code) (coords shape q)

-- document 01's step: between two fed nonzero cells whose coordinates differ by such an offset, either way
pub record Step (shape structure : List ℕ) (cells : List Bool) (p q : ℕ) : Type 0 where
  pub here : nonzero cells p ≡ true
  pub there : nonzero cells q ≡ true
  pub way : Leads shape structure p q ⊎ Leads shape structure q p

-- document 01's group: a fed nonzero cell p with all that chains join to it. q is of p's group
abbrev pub Group : List ℕ → List ℕ → List Bool → ℕ → ℕ → Type 0
Group shape structure cells p q = (nonzero cells p ≡ true) × Chain (Step shape structure cells) p q

-- ν gives every cell its number, and n is the count of groups: 0 to zero and unfed cells, one number to two fed nonzero cells
-- exactly when a chain joins them, 1 to n by the groups' first cells in C order
abbrev pub Labelled : List ℕ → List ℕ → List Bool → ℕ → (ℕ → ℕ) → Type 0
Labelled shape structure cells n ν = Numbered (nonzero cells) (Step shape structure cells) (size shape) n ν

-- ---- computed: `label` is so, with `group_count`, and no other numbers are (proofs/ChainRuleLaws.antt)

unfoldable pub same_list : List ℕ → List ℕ → Bool
same_list [] [] = true
same_list [] (y ∷ ys) = false
same_list (x ∷ xs) [] = false
same_list (x ∷ xs) (y ∷ ys) = eqb x y && same_list xs ys

-- is there a number below n that passes?
unfoldable pub any : (ℕ → Bool) → ℕ → Bool
any f zero = false
any f (suc n) = f n || any f n

-- an offset whose code passes the test leads from p to q
unfoldable pub leads_by : List ℕ → (ℕ → Bool) → ℕ → ℕ → Bool
leads_by shape test p q =
    any (λ c. test c && same_list (zip_with ◌+◌ (coords shape p) (offset (length shape) c)) (map suc (coords shape q))) (3 ^ length shape)

-- the pairs of fed nonzero cells of which such an offset leads from the one to the other
unfoldable pub edges_by : List ℕ → (ℕ → Bool) → List Bool → List Edge
edges_by shape test cells =
    pairs (λ p q. nonzero cells p && (nonzero cells q && leads_by shape test p q)) 0 (length cells) 0 (length cells)

-- the steps, each from one end: by the backward offsets with a nonzero byte
unfoldable pub edges : List ℕ → List ℕ → List Bool → List Edge
edges shape structure cells = edges_by shape (λ c. backward (offset (length shape) c) && on structure c) cells

-- document 01's n: how many groups the chain rule makes of the fed nonzero cells
unfoldable pub group_count : List ℕ → List ℕ → List Bool → ℕ
group_count shape structure cells = groups (nonzero cells) (edges shape structure cells) (size shape)

-- a cell's number: 0, or that of its group. Groups are numbered 1 to n by their first cells in C order
unfoldable pub label : List ℕ → List ℕ → List Bool → ℕ → ℕ
label shape structure cells p = number (nonzero cells) (edges shape structure cells) p

-- n numbers, from i on
unfoldable pub range : ℕ → ℕ → List ℕ
range i zero = []
range i (suc n) = i ∷ range (suc i) n

-- the numbers of all cells, in C order
unfoldable pub labels : List ℕ → List ℕ → List Bool → List ℕ
labels shape structure cells = map (label shape structure cells) (range 0 (size shape))

-- how many cells have number g, and that for each number in turn
unfoldable pub size_of : List ℕ → List ℕ → List Bool → ℕ → ℕ
size_of shape structure cells g = count (λ p. eqb (label shape structure cells p) g) (size shape)

unfoldable pub sizes_of : List ℕ → List ℕ → List Bool → List ℕ
sizes_of shape structure cells = map (size_of shape structure cells) (range 1 (group_count shape structure cells))
