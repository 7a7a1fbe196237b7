-- Numbers for groups: 1 to n, by the groups' first nodes.
-- Assumes nothing.
use Rattle.std.specs.Prelude.{◌≡◌, ◌↔◌, Bool, true, false, cond, List, ℕ, suc, ◌≤◌, ◌<◌}
use Rattle.groups.specs.Groups.{Chain, Edge, rep, groups}

-- p is the first node of its group
pub record First (live : ℕ → Bool) (R : ℕ → ℕ → Type 0) (p : ℕ) : Type 0 where
  pub is_live : live p ≡ true
  pub least : (q : ℕ) → Chain R p q → p ≤ q

-- ν numbers the groups that chains of R make of the live nodes below size, and n is their count
pub record Numbered (live : ℕ → Bool) (R : ℕ → ℕ → Type 0) (size n : ℕ) (ν : ℕ → ℕ) : Type 0 where
  -- 0 at the other nodes, 1 to n at the live ones
  pub off : (p : ℕ) → p < size → live p ≡ false → ν p ≡ 0
  pub on : (p : ℕ) → p < size → live p ≡ true → (0 < ν p) × (ν p ≤ n)
  -- one number for two live nodes exactly when a chain joins them
  pub same : (p q : ℕ) → p < size → q < size → live p ≡ true → live q ≡ true → (ν p ≡ ν q) ↔ Chain R p q
  -- in the order of the groups' first nodes
  pub order : (p q : ℕ) → p < size → q < size → First live R p → First live R q → p < q → ν p < ν q
  -- each number from 1 to n is used
  pub used : (k : ℕ) → 0 < k → k ≤ n → (q : ℕ) × (q < size) × (ν q ≡ k)

-- the numbers, computed: how many groups begin at or before the representative of p's
unfoldable pub number : (ℕ → Bool) → List Edge → ℕ → ℕ
number live es p = cond (live p) (groups live es (suc (rep es p))) 0
