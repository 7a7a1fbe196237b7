-- Coordinates as signed numbers, moved by offsets of -1, 0 or 1.
-- Assumes nothing.
use Rattle.std.specs.Prelude.{◌≡◌, Bool, cond, ◌&&◌, ℕ, ◌+◌, ◌-◌, ◌≤◌, ◌<◌, ltb, leb, ℤ, pos, nat_abs, Option, Some, None}
use Rattle.frame.specs.Structure.{digit}

-- c is a coordinate in a dimension of d, which a word holds, and o an offset
pub record Move (c o : ℤ) (d : ℕ) : Type 0 where
  pub coordinate : c ≡ pos (nat_abs c)
  pub below : nat_abs c < d
  pub small : d < 4294967296
  pub offset : digit o ≤ 2

-- the coordinate x, moved by the offset with the digit t, is in a dimension of d; and where it then moves to
abbrev pub moves_in : ℕ → ℕ → ℕ → Bool
moves_in x t d = ltb 0 (x + t) && leb (x + t) d

unfoldable pub moved_to : ℕ → ℕ → ℕ → Option ℕ
moved_to x t d = cond (moves_in x t d) (Some (x + t - 1)) None
