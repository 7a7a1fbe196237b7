-- What a frame can cost at most: the frame with the most runs, and the most touches.
-- Assumes nothing.
use Rattle.std.specs.Prelude.{Bool, true, not, cond, ◌||◌, List, [], ◌∷◌, ℕ, zero, suc, ◌+◌, ◌-◌, ◌*◌, ◌/◌, ◌^◌, length}
use Rattle.groups.specs.Groups.{gather}
use Rattle.frame.specs.Shape.{width, leading, lines}
use Rattle.frame.specs.Structure.{on, left_on}
use Rattle.frame.specs.Lists.{all}
use Rattle.frame.specs.Memory.{most_runs}
use Rattle.frame.specs.Touches.{used}

-- n cells that alternate, from b on
unfoldable pub alternate : Bool → ℕ → List Bool
alternate b zero = []
alternate b (suc n) = b ∷ alternate (not b) n

-- document 02's frame "whose lines begin nonzero and alternate"
unfoldable pub alternating : List ℕ → List Bool
alternating shape = gather (λ ℓ. alternate true (width shape)) 0 (lines shape)

-- document 02's "every offset used has a nonzero middle byte"
unfoldable pub middles_on : List ℕ → List ℕ → Bool
middles_on shape structure =
    let rank = length (leading shape) in
    all (λ c. not (used structure rank c) || on structure (3 * c + 1)) (3 ^ rank)

-- the most touches of two lines under one offset, where h is the most runs of a line: 2 × h - 1 if the left byte is nonzero, else
-- 3 × h - 2
unfoldable pub most_touches : Bool → ℕ → ℕ
most_touches left w = cond left (2 * most_runs left w - 1) (3 * most_runs left w - 2)

-- and of one line, under all offsets: only those before the centre are used
unfoldable pub touches_per_line : List ℕ → List ℕ → ℕ
touches_per_line shape structure = 3 ^ length (leading shape) / 2 * most_touches (left_on shape structure) (width shape)
