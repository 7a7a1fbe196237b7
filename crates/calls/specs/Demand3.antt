-- What demand 3 asks of every list of calls from an accepted opening, clause by clause, and what document 01 says of the parents then, and
-- document 02 of the fifth words.
-- proofs/Demand3.antt proves it.
-- Assumes nothing.
use Rattle.std.specs.Prelude.{◌≡◌, ◌≢◌, ◌↔◌, true, List, [], ◌∷◌, ℕ, ◌+◌, ◌-◌, ◌≤◌, ◌<◌, eqb, length, get_or}
use Rattle.groups.specs.Groups.{Chain, count}
use Rattle.frame.specs.Shape.{size, lines}
use Rattle.frame.specs.ChainRule.{nonzero, Step, Labelled, group_count}
use Rattle.frame.specs.Scipy.{ScipyLabelled}
use Rattle.frame.specs.Runs.{runs, nonzero_cells, run_of, SmallestRun}
use Rattle.frame.specs.Kinds.{Number, largest, Value, write, value}
use Rattle.frame.specs.declared.Figures.{Figures}
use Rattle.frame.specs.Plain.{Call, Answer, fed, counted, refused, Answered, State, opened, next, plain, after}
use Rattle.frame.specs.Words.{parent_of, size_word}
use Rattle.forest.specs.Forest.{root_of}
use Rattle.label.specs.declared.Session.{Session}
use Rattle.label.specs.Reading.{ReadPromise, SizesPromise}

-- p is a state of the plain session: its structure, and the lines fed by then
module _ (shape : List ℕ) where
  -- document 01's n for those lines
  abbrev groups_in : State → ℕ
  groups_in p = group_count shape p.structure p.cells

  -- ---- every answer of the list

  -- "In every accepted answer runs = n + joins, runs and n being those document 01 defines for the lines fed by then"
  pub record Balanced (p : State) (f : Figures) : Type 0 where
    pub runs_defined : f.runs ≡ runs shape p.structure p.cells
    pub balance : f.runs ≡ groups_in p + f.joins
    -- document 02, F-1: "the nonzero cells so far"
    pub total : f.cells ≡ nonzero_cells p.cells

  -- so of a feed's answer, which has the lines fed, and of a reading's or size call's, which has n. Of a refusal: 6 never comes
  abbrev pub Right : State → Answer → Type 0
  Right p (fed l f) = (l ≡ p.fed) × Balanced p f
  Right p (counted n f) = (n ≡ groups_in p) × Balanced p f
  Right p (refused c) = c ≢ 6

  -- each answer, with the lines fed by then
  abbrev pub AllRight : State → List Call → List Answered → Type 0
  AllRight p [] [] = Unit {0}
  AllRight p [] (a ∷ az) = ⊥
  AllRight p (c ∷ cs) [] = ⊥
  AllRight p (c ∷ cs) (a ∷ az) = Right (next shape p c) a.said × AllRight (next shape p c) cs az

  -- ---- a reading, and a size call, after the list

  module _ (p : State) where
    abbrev n : ℕ
    n = groups_in p

    -- "a reading of exact length into a kind that holds n is accepted and gives 0 to zero and unfed cells. It gives one number to two
    -- fed nonzero cells exactly when a chain of fed nonzero cells joins them, each step a backward structure offset taken either way.
    -- Its numbers run 1 to n by first appearance in C order": it answers a, and its output then holds out'
    pub record Reads (kind : Number) (a : Answer) (out' : List (Value kind)) : Type 0 where
      pub figures : Figures
      pub accepted : a ≡ counted n figures
      pub balanced : Balanced p figures
      pub long : length out' ≡ size shape
      pub labelled : Labelled shape p.structure p.cells n (λ q. value kind (get_or out' q (write kind 0)))
      -- demand 2's "SciPy's description of label settles what connected means": n and these numbers are those of that description
      pub described : ScipyLabelled shape p.structure p.cells n (λ q. value kind (get_or out' q (write kind 0)))

    -- document 02, F-3: "A list of calls that stops anywhere also finds each number's size equal to its cells". The numbers are those of
    -- any reading: ν is right, and there is one such ν alone
    pub record Sizes (a : Answer) (out' : List ℕ) : Type 0 where
      pub figures : Figures
      pub accepted : a ≡ counted n figures
      pub balanced : Balanced p figures
      pub long : length out' ≡ n
      pub counts : (ν : ℕ → ℕ) → Labelled shape p.structure p.cells n ν → (g : ℕ) → 0 < g → g ≤ n
          → get_or out' (g - 1) 0 ≡ count (λ q. eqb (ν q) g) (size shape)

    -- whatever the promises allow after the list, on the record and the words that it left. `size shape` is L × w
    pub record Afterwards (s : Session) (ws : List ℕ) : Type 0 where
      pub reads : (kind : Number) (out : List (Value kind)) → length out ≡ size shape → n ≤ largest kind
          → (a : Answer) (s' : Session) (ws' : List ℕ) (out' : List (Value kind))
          → ReadPromise kind s ws out a s' ws' out' → Reads kind a out'
      pub sizes : (out : List ℕ) → length out ≡ n
          → (a : Answer) (s' : Session) (ws' out' : List ℕ) → SizesPromise s ws out a s' ws' out' → Sizes a out'

  -- ---- the parents and the roots' fifth words after the list

  -- in the words ws, where the lines of p are fed
  module _ (p : State) (ws : List ℕ) where
    -- run r's parent, and the root of the run that cell a is of
    abbrev parent : ℕ → ℕ
    parent r = parent_of (lines shape) ws r

    abbrev pub root_at : ℕ → ℕ
    root_at a = root_of parent (run_of shape p.structure p.cells a)

    -- "Parents are the one free part: each is at most its own run number, they give the chain rule's grouping, and a group's root is its
    -- smallest run"
    pub record Grouped : Type 0 where
      pub at_most : (r : ℕ) → r < runs shape p.structure p.cells → parent r ≤ r
      -- the runs of two fed nonzero cells have one root exactly when a chain joins the cells
      pub one_root : (a b : ℕ) → nonzero p.cells a ≡ true → nonzero p.cells b ≡ true
          → (root_at a ≡ root_at b) ↔ Chain (Step shape p.structure p.cells) a b
      -- and it is the smallest run of the cell's group
      pub smallest : (a : ℕ) → nonzero p.cells a ≡ true → SmallestRun shape p.structure p.cells a (root_at a)
      -- document 02, F-3: "a fifth word, its group's cell count, true at every root in a session from an accepted opening"
      pub sized : (ν : ℕ → ℕ) → Labelled shape p.structure p.cells (groups_in p) ν → (a : ℕ) → nonzero p.cells a ≡ true
          → size_word (lines shape) ws (root_at a) ≡ count (λ q. eqb (ν q) (ν a)) (size shape)

  -- ---- the demand

  -- of calls that were answered so, from an opening with that structure on, and led to the record s and the words ws
  pub record Demand3 (structure : List ℕ) (calls : List Call) (answers : List Answered) (s : Session) (ws : List ℕ) : Type 0 where
    -- "The record aside, all these calls give the same answers, refusal numbers included, and write the same to their outputs as
    -- the plain session in document 01"
    pub same : answers ≡ plain shape (opened structure) calls
    -- "In every accepted answer runs = n + joins"
    pub right : AllRight (opened structure) calls answers
    -- "After every such list, a reading .."
    pub afterwards : Afterwards (after shape (opened structure) calls) s ws
    -- "Parents are the one free part .."
    pub grouped : Grouped (after shape (opened structure) calls) ws
