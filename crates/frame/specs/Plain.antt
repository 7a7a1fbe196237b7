-- The plain session: what every list of calls must answer, and what it must write to its outputs.
-- Assumes nothing.
use Rattle.std.specs.Prelude.{Bool, true, List, [], ◌∷◌, ◌++◌, map, ℕ, zero, suc, ◌+◌, ◌-◌, length}
use Rattle.frame.specs.declared.Figures.{Figures}
use Rattle.frame.specs.Shape.{size, width, lines}
use Rattle.frame.specs.ChainRule.{group_count, labels, sizes_of}
use Rattle.frame.specs.Runs.{runs, nonzero_cells}
use Rattle.frame.specs.Kinds.{Cells, flags, Number, holds, Value, write}
use Rattle.frame.specs.Causes.{open_cause, feed_cause, read_cause, sizes_cause, widen_cause}

-- ---- calls: the arguments except record and memory

pub data Call : Type 0 where
  -- a feed of k lines, with their cells
  feed : ℕ → Cells → Call
  -- a reading into an output of that kind, with what it holds before
  read : (kind : Number) → List (Value kind) → Call
  -- the size call, with what the slice holds before
  sizes : List ℕ → Call
  -- document 02's structure change, with the new structure's bytes
  widen : List ℕ → Call

-- ---- answers. Each accepted one has figures, runs, joins and nonzero cells so far, which are a struct of the code too

-- the figures before any line is fed
abbrev pub zero_figures : Figures
zero_figures = record { runs = 0; joins = 0; cells = 0 }

pub data Answer : Type 0 where
  -- a feed or a structure change: lines fed and the figures, so far
  fed : ℕ → Figures → Answer
  -- a reading or a size call: n and the figures
  counted : ℕ → Figures → Answer
  refused : ℕ → Answer

-- what an output holds after the call
pub data Written : Type 0 where
  nothing : Written
  numbers : (kind : Number) → List (Value kind) → Written
  counts : List ℕ → Written

pub record Answered : Type 0 where
  pub said : Answer
  pub written : Written

-- with a cause: its number is answered, and what stood is kept
unfoldable pub unless : ℕ → Answer → Answer
unless zero a = a
unless (suc c) a = refused (suc c)

unfoldable pub kept : {A : Type 0} → ℕ → A → A → A
kept zero old new = new
kept (suc c) old new = old

-- ---- the session

-- it has the opening's structure, or that of the last structure change, and keeps the lines fed: how many, and whether each of their cells
-- is nonzero
pub record State : Type 0 where
  pub structure : List ℕ
  pub fed : ℕ
  pub cells : List Bool

-- at first none
abbrev pub opened : List ℕ → State
opened structure = record { structure = structure; fed = 0; cells = [] }

-- an accepted feed's lines follow those fed
unfoldable pub feeds : State → ℕ → List Bool → State
feeds p k cells = record { structure = p.structure; fed = p.fed + k; cells = p.cells ++ cells }

-- an accepted structure change: the lines fed stand
unfoldable pub widens : State → List ℕ → State
widens p structure = record { structure = structure; fed = p.fed; cells = p.cells }

module _ (shape : List ℕ) where
  -- n, and the figures: runs, joins as runs - n, and how many cells fed are nonzero
  unfoldable pub groups_of : State → ℕ
  groups_of p = group_count shape p.structure p.cells

  unfoldable pub figures : State → Figures
  figures p =
      record {
        runs = runs shape p.structure p.cells;
        joins = runs shape p.structure p.cells - groups_of p;
        cells = nonzero_cells p.cells;
      }

  -- each call's cause: 6 never comes
  unfoldable pub cause : State → Call → ℕ
  cause p (feed k cells) = feed_cause true (lines shape - p.fed) k (width shape) (length (flags cells))
  cause p (read kind out) = read_cause true (length out) (size shape) (holds kind (groups_of p))
  cause p (sizes out) = sizes_cause true (length out) (groups_of p)
  cause p (widen structure) = widen_cause true (length shape) p.structure structure

  -- what is answered, and written, where there is no cause
  unfoldable pub answer : State → Call → Answer
  answer p (feed k cells) = fed (p.fed + k) (figures (feeds p k (flags cells)))
  answer p (read kind out) = counted (groups_of p) (figures p)
  answer p (sizes out) = counted (groups_of p) (figures p)
  answer p (widen structure) = fed p.fed (figures (widens p structure))

  unfoldable pub written : State → Call → Written
  written p (feed k cells) = nothing
  written p (read kind out) = numbers kind (kept (cause p (read kind out)) out (map (write kind) (labels shape p.structure p.cells)))
  written p (sizes out) = counts (kept (cause p (sizes out)) out (sizes_of shape p.structure p.cells))
  written p (widen structure) = nothing

  -- so of a call
  abbrev pub answered : State → Call → Answered
  answered p c = record { said = unless (cause p c) (answer p c); written = written p c }

  -- the session after an accepted call: readings and size calls change nothing
  unfoldable pub changed : State → Call → State
  changed p (feed k cells) = feeds p k (flags cells)
  changed p (read kind out) = p
  changed p (sizes out) = p
  changed p (widen structure) = widens p structure

  -- nor do refusals
  unfoldable pub next : State → Call → State
  next p c = kept (cause p c) p (changed p c)

  -- the answers to a list of calls, and the session after it
  unfoldable pub plain : State → List Call → List Answered
  plain p [] = []
  plain p (c ∷ cs) = answered p c ∷ plain (next p c) cs

  unfoldable pub after : State → List Call → State
  after p [] = p
  after p (c ∷ cs) = after (next p c) cs

-- a list of calls from its opening on, where `memory` is the count of words: an opening that is refused has its number only
unfoldable pub session : List ℕ → List ℕ → ℕ → List Call → List Answered
session shape structure memory calls =
    elim (open_cause shape structure memory) [
      | zero ↦ plain shape (opened structure) calls
      | suc c ↦ record { said = refused (suc c); written = nothing } ∷ []
    ]
