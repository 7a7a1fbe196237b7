-- What the words of a record hold: its cells, the run of each, its groups and their numbers. Of a sound record of any origin.
-- Assumes nothing.
use Rattle.std.specs.Prelude.{◌≡◌, ◌⊎◌, true, Bool, cond, ◌&&◌, List, map, ℕ, suc, ◌*◌, ◌/◌, ◌%◌, ltb, leb}
use Rattle.groups.specs.Groups.{Edge, Joined}
use Rattle.frame.specs.Shape.{size, width}
use Rattle.frame.specs.ChainRule.{nonzero, any, range}
use Rattle.frame.specs.Kinds.{Number, Value, write}
use Rattle.frame.specs.Words.{line_start, run_start, run_end, parent_of, size_word}
use Rattle.frame.specs.Lists.{last_below}
use Rattle.forest.specs.Forest.{roots, number_in, grouping, size_list}
use Rattle.label.specs.declared.Session.{Session}
use Rattle.label.specs.Record.{shape_of, lines_of}

module _ (s : Session) (ws : List ℕ) where
  abbrev w : ℕ
  w = width (shape_of s)

  abbrev parent : ℕ → ℕ
  parent = parent_of (lines_of s) ws

  -- ---- cells

  -- run r is one of cell p's line, and covers its column
  unfoldable pub holds_cell : ℕ → ℕ → Bool
  holds_cell p r =
      (leb (line_start ws (p / w)) r && ltb r (line_start ws (suc (p / w))))
      && (leb (run_start (lines_of s) ws r) (p % w) && ltb (p % w) (run_end (lines_of s) ws r))

  -- the cells of the lines fed: those that a run holds are nonzero
  unfoldable pub cells_of : List Bool
  cells_of = map (λ p. any (holds_cell p) s.figures.runs) (range 0 (s.fed * w))

  -- the run that holds cell p
  unfoldable pub holder_of : ℕ → ℕ
  holder_of p = last_below (holds_cell p) s.figures.runs

  -- ---- groups

  -- the grouping that the parents hold, as edges between runs
  abbrev pub grouping_of : List Edge
  grouping_of = grouping parent s.figures.runs

  -- so of two cells that runs hold: they are of one run, or of a run and its parent
  pub record HeldStep (p q : ℕ) : Type 0 where
    pub here : nonzero cells_of p ≡ true
    pub there : nonzero cells_of q ≡ true
    pub way : (holder_of p ≡ holder_of q) ⊎ Joined grouping_of (holder_of p) (holder_of q)

  -- document 01's n of a sound record of any origin: the count of its roots
  unfoldable pub root_count : ℕ
  root_count = roots parent s.figures.runs

  -- the number of cell p, 0 for a zero or an unfed one
  unfoldable pub number_at : ℕ → ℕ
  number_at p = cond (nonzero cells_of p) (number_in parent (holder_of p)) 0

  -- ---- what a reading and a size call write

  abbrev pub numbers_held : (kind : Number) → List (Value kind)
  numbers_held kind = map (λ p. write kind (number_at p)) (range 0 (size (shape_of s)))

  -- the roots' words, in the order of their numbers
  unfoldable pub sizes_held : List ℕ
  sizes_held = size_list parent (size_word (lines_of s) ws) s.figures.runs
