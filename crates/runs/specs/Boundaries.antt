-- Boundaries: the starts and ends of a line's runs one after the other, as they are found and written.
-- Assumes nothing.
use Rattle.std.specs.Prelude.{◌≡◌, Bool, true, false, List, [], ◌∷◌, ℕ, zero, suc, ◌+◌, ◌*◌, ◌/◌, ◌%◌, ◌^◌, ◌≤◌, ◌<◌, length, set}
use Rattle.std.specs.Int.Bits.{bit_or, bit_xor}
use Rattle.frame.specs.Memory.{stride}
use Rattle.frame.specs.Words.{start_at, end_at}

-- ---- written

-- the word of boundary k of the runs from place i on: of run k / 2 the start where k is even, the end where it is odd
abbrev pub boundary_at : ℕ → ℕ → ℕ
boundary_at i k = i + start_at (k / 2) + k % 2 * end_at 0

-- the words after the boundaries es are written, of which the first is boundary k
unfoldable pub put_boundaries : List ℕ → ℕ → ℕ → List ℕ → List ℕ
put_boundaries ws i k [] = ws
put_boundaries ws i k (e ∷ es) = put_boundaries (set ws (boundary_at i k) e) i (suc k) es

-- what writing boundaries from column x on asks: there is room for them, as there is for some count of runs
pub record BoundaryRoom (ws : List ℕ) (i k x : ℕ) (es : List ℕ) : Type 0 where
  pub runs : ℕ
  pub below : k + length es ≤ 2 * runs
  pub room : i + stride * runs ≤ length ws
  pub short : x < 2147483647

-- what it does: the next boundary is then boundary k'
pub record Put (ws ws' : List ℕ) (i k k' : ℕ) (es : List ℕ) : Type 0 where
  pub next : k' ≡ k + length es
  pub written : ws' ≡ put_boundaries ws i k es

-- ---- found

abbrev pub cons_if : ℕ → ℕ → List ℕ → List ℕ
cons_if zero x r = r
cons_if (suc d) x r = x ∷ r

-- the places of the set bits among the lowest k of e, lowest first, where bit 0 stands at x
unfoldable pub places : ℕ → ℕ → ℕ → List ℕ
places zero e x = []
places (suc k) e x = cons_if (e % 2) x (places k (e / 2) (suc x))

-- each place and the next: where each is a run of its own
unfoldable pub alone : List ℕ → List ℕ
alone [] = []
alone (p ∷ ps) = p ∷ suc p ∷ alone ps

-- the bits of the mask m that differ from the one before, which is `carry` for the first
abbrev pub edge_bits : ℕ → ℕ → ℕ
edge_bits m carry = bit_xor m (bit_or (m * 2 % 2 ^ 64) carry)

-- the boundaries that the chunk from column x on gives, where m is its mask, and `carry` the bit of the cell before it
unfoldable pub chunk_boundaries : Bool → ℕ → ℕ → ℕ → List ℕ
chunk_boundaries true m carry x = places 64 (edge_bits m carry) x
chunk_boundaries false m carry x = alone (places 64 m x)
