-- What labelling a whole frame promises: opening, feeding and reading in one call. The block count stands in no promise.
-- Assumes nothing.
use Rattle.std.specs.Prelude.{◌≡◌, Bool, true, cond, List, [], ◌∷◌, ◌++◌, map, ℕ, zero, suc, ◌+◌, ◌-◌, ◌*◌, ◌/◌, min, max, ◌<◌, leb, length}
use Rattle.frame.specs.Shape.{lines}
use Rattle.frame.specs.ChainRule.{labels}
use Rattle.frame.specs.Kinds.{Number, holds, Value, write}
use Rattle.frame.specs.Causes.{frame_cause}
use Rattle.frame.specs.Plain.{Answer, counted, unless, kept, State, opened, feeds, groups_of, figures}
use Rattle.label.specs.declared.Session.{Session}
use Rattle.label.specs.Opening.{open_record, open_words}
use Rattle.label.specs.Feeding.{FeedPromise}
use Rattle.label.specs.Reading.{with_names}

-- ---- blocks

-- L lines in blocks of b, the last perhaps shorter; at most m of b lines
unfoldable pub chop : ℕ → ℕ → ℕ → List ℕ
chop zero b L = L ∷ []
chop (suc m) b L = let rest = chop m b (L - b) in cond (leb L b) (L ∷ []) (b ∷ rest)

-- ⌈L/B⌉ for a block count B, where 0 counts as 1 and above L as L
unfoldable pub block_lines : ℕ → ℕ → ℕ
block_lines L B = let c = min (max B 1) L in (L + c - 1) / c

-- the blocks: each of so many lines
unfoldable pub blocks : ℕ → ℕ → List ℕ
blocks L B = chop L (block_lines L B) L

-- feeds of so many lines each, one after the other, every one what a feed promises
pub data Fills (w : ℕ) : Session → List ℕ → List ℕ → List Bool → Session → List ℕ → Type 0 where
  no_more : {s : Session} {ws : List ℕ} → Fills w s ws [] [] s ws
  block : {s s' s'' : Session} {ws ws' ws'' : List ℕ} {k : ℕ} {ks : List ℕ} {cells rest : List Bool} {a : Answer}
      → length cells ≡ k * w → FeedPromise s ws k cells a s' ws' → Fills w s' ws' ks rest s'' ws''
      → Fills w s ws (k ∷ ks) (cells ++ rest) s'' ws''

-- ---- the promise

-- the plain session with all lines of the frame fed
abbrev pub all_fed : List ℕ → List ℕ → List Bool → State
all_fed shape structure cells = feeds (opened structure) (lines shape) cells

-- an opening's cause, 8, 9, or 0: what is known before anything is written, where `out` is the count of output places
unfoldable pub early_cause_of : List ℕ → List ℕ → List ℕ → List Bool → ℕ → ℕ
early_cause_of shape structure ws cells out = frame_cause shape structure (length ws) (length cells) out true

module _ (kind : Number) (shape structure ws : List ℕ) (cells : List Bool) (out : List (Value kind)) where
  abbrev n : ℕ
  n = groups_of shape (all_fed shape structure cells)

  -- then also 10
  unfoldable pub frame_cause_of : ℕ
  frame_cause_of = frame_cause shape structure (length ws) (length cells) (length out) (holds kind n)

  -- the words as those calls leave them: an opening, a feed of all lines, and, where the kind holds n, a reading
  pub record FrameWords (ws' : List ℕ) : Type 0 where
    pub answer : Answer
    pub session : Session
    pub fed_words : List ℕ
    pub lines_fed : FeedPromise (open_record shape structure) (open_words ws) (lines shape) cells answer session fed_words
    pub names : ws' ≡ kept frame_cause_of fed_words (with_names session fed_words)

  -- the answer, and the words and the output afterwards
  pub record FramePromise (a : Answer) (ws' : List ℕ) (out' : List (Value kind)) : Type 0 where
    pub said : a ≡ unless frame_cause_of (counted n (figures shape (all_fed shape structure cells)))
    pub output : out' ≡ kept frame_cause_of out (map (write kind) (labels shape structure cells))
    pub refusal : 0 < early_cause_of shape structure ws cells (length out) → ws' ≡ ws
    pub accepted : early_cause_of shape structure ws cells (length out) ≡ 0 → FrameWords ws'
