-- When a run of the words holds a cell, and the cells that they hold.
-- Assumes nothing.
use mathlib.Core.Path.{◌≡◌}
use mathlib.Core.Bool.{Bool, true, false, ◌&&◌}
use mathlib.Core.List.{List}
use Prim.Native.Nat.{ℕ, suc, ◌*◌, ◌/◌, ◌%◌, ◌≤◌, ◌<◌}
use borrow.Author.Tests.{leb-true, ltb-true, le-leb, lt-ltb}
use lib.Dec.{leb, ltb}
use lib.ListN.{length}
use Rattle.groups.proofs.BoolLaws.{and_true, and_left, and_right}
use Rattle.frame.specs.Shape.{width}
use Rattle.frame.specs.ChainRule.{nonzero, any}
use Rattle.frame.specs.Runs.{Covers}
use Rattle.frame.specs.Words.{line_start, run_start, run_end, stored_run}
use Rattle.frame.proofs.ListLaws.{listed_at, listed_length}
use Rattle.label.specs.declared.Session.{Session}
use Rattle.label.specs.Record.{shape_of, lines_of}
use Rattle.label.specs.Held.{holds_cell, cells_of}

module _ (s : Session) (ws : List ℕ) where
  abbrev w : ℕ
  w = width (shape_of s)

  -- run r is one of cell p's line, and covers its column
  pub record Holds (p r : ℕ) : Type 0 where
    pub low : line_start ws (p / w) ≤ r
    pub high : r < line_start ws (suc (p / w))
    pub covers : Covers (stored_run (lines_of s) ws r) (p % w)

  module _ (p r : ℕ) where
    abbrev of_line : Bool
    of_line = leb (line_start ws (p / w)) r && ltb r (line_start ws (suc (p / w)))

    abbrev of_column : Bool
    of_column = leb (run_start (lines_of s) ws r) (p % w) && ltb (p % w) (run_end (lines_of s) ws r)

    pub holds_parts : holds_cell s ws p r ≡ true → Holds p r
    unfolding holds_cell
    holds_parts h =
        let a = and_left of_line of_column h in
        let b = and_right of_line of_column h in
        record {
          low = leb-true _ _ (and_left (leb (line_start ws (p / w)) r) (ltb r (line_start ws (suc (p / w)))) a);
          high = ltb-true _ _ (and_right (leb (line_start ws (p / w)) r) (ltb r (line_start ws (suc (p / w)))) a);
          covers = (
            leb-true _ _ (and_left (leb (run_start (lines_of s) ws r) (p % w)) (ltb (p % w) (run_end (lines_of s) ws r)) b),
            ltb-true _
                _ (and_right (leb (run_start (lines_of s) ws r) (p % w)) (ltb (p % w) (run_end (lines_of s) ws r)) b),
          );
        }

    pub parts_hold : Holds p r → holds_cell s ws p r ≡ true
    unfolding holds_cell
    parts_hold h = and_true of_line of_column (and_true _ _ (le-leb _ _ h.low) (lt-ltb _ _ h.high))
        (and_true _ _ (le-leb _ _ h.covers.0) (lt-ltb _ _ h.covers.1))

  -- ---- the cells held

  pub length_held : length (cells_of s ws) ≡ s.fed * w
  unfolding cells_of
  length_held = listed_length (λ p. any (holds_cell s ws p) s.figures.runs) (s.fed * w)

  pub nonzero_held : (p : ℕ) → p < s.fed * w → nonzero (cells_of s ws) p ≡ any (holds_cell s ws p) s.figures.runs
  unfolding cells_of nonzero
  nonzero_held p h = listed_at (λ p. any (holds_cell s ws p) s.figures.runs) (s.fed * w) p false h
