-- What naming the runs asks, and what it does.
-- Assumes nothing.
use Rattle.std.specs.Prelude.{◌≡◌, List, ℕ, suc, ◌+◌, ◌*◌, ◌≤◌, ◌<◌, length}
use Rattle.frame.specs.Lists.{set_all}
use Rattle.frame.specs.Memory.{stride}
use Rattle.frame.specs.Words.{line_start, parent_of, name_place}
use Rattle.forest.specs.Forest.{roots, number_in}

-- the first n runs' words are there, no parent is above its run, and words hold their numbers
pub record NamesReady (L n : ℕ) (ws : List ℕ) : Type 0 where
  pub room : L + 1 + stride * n ≤ length ws
  pub parents : (r : ℕ) → r < n → parent_of L ws r ≤ r
  pub small : n < 4294967295

-- each of the first n runs has its number as its name, and every other word stands
abbrev pub named : ℕ → ℕ → List ℕ → List ℕ
named L n ws = set_all (name_place L) (number_in (parent_of L ws)) n ws

-- from ws to ws' the first n runs got their names, and c counts the roots among them
pub record Named (L n : ℕ) (ws ws' : List ℕ) (c : ℕ) : Type 0 where
  pub names : ws' ≡ named L n ws
  pub counted : c ≡ roots (parent_of L ws) n

-- run r is the next to be named: those before it have their names
pub record NameReady (L r : ℕ) (ws : List ℕ) (c : ℕ) : Type 0 where
  pub runs : NamesReady L (suc r) ws
  pub before : Named L r ws ws c

-- the runs of line ℓ are the next to be named: those before them have their names
pub record LineToName (L ℓ : ℕ) (ws : List ℕ) (c : ℕ) : Type 0 where
  pub within : ℓ < L
  pub runs : NamesReady L (line_start ws (suc ℓ)) ws
  pub rising : line_start ws ℓ ≤ line_start ws (suc ℓ)
  pub before : Named L (line_start ws ℓ) ws ws c
