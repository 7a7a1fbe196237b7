-- Lists of calls, each with the record and the words as the call before it left them.
-- Assumes nothing.
use Rattle.std.specs.Prelude.{List, [], ◌∷◌, ℕ}
use Rattle.frame.specs.Kinds.{Cells, flags, Number, Value}
use Rattle.frame.specs.Plain.{Call, feed, read, sizes, widen, Answer, nothing, numbers, counts, Answered}
use Rattle.label.specs.declared.Session.{Session}
use Rattle.label.specs.Feeding.{FeedPromise}
use Rattle.label.specs.Widening.{WidenPromise}
use Rattle.label.specs.Reading.{ReadPromise, SizesPromise}

-- The calls lead from a record and words to a record and words, and are answered so. Of each call exactly what it promises is known,
-- by the name that its contract will have. `Call` (crate frame) has the arguments, of any kind, length and content
pub data Trace : Session → List ℕ → List Call → List Answered → Session → List ℕ → Type 0 where
  stop : {s : Session} {ws : List ℕ} → Trace s ws [] [] s ws
  by_feed : {s s' s'' : Session} {ws ws' ws'' : List ℕ} {k : ℕ} {cells : Cells} {a : Answer} {cs : List Call} {az : List Answered}
      → FeedPromise s ws k (flags cells) a s' ws'
      → Trace s' ws' cs az s'' ws''
      → Trace s ws (feed k cells ∷ cs) (record { said = a; written = nothing } ∷ az) s'' ws''
  by_read : {s s' s'' : Session} {ws ws' ws'' : List ℕ} {kind : Number} {out out' : List (Value kind)}
      {a : Answer} {cs : List Call} {az : List Answered}
      → ReadPromise kind s ws out a s' ws' out'
      → Trace s' ws' cs az s'' ws''
      → Trace s ws (read kind out ∷ cs) (record { said = a; written = numbers kind out' } ∷ az) s'' ws''
  by_sizes : {s s' s'' : Session} {ws ws' ws'' out out' : List ℕ} {a : Answer} {cs : List Call} {az : List Answered}
      → SizesPromise s ws out a s' ws' out'
      → Trace s' ws' cs az s'' ws''
      → Trace s ws (sizes out ∷ cs) (record { said = a; written = counts out' } ∷ az) s'' ws''
  by_widen : {s s' s'' : Session} {ws ws' ws'' structure : List ℕ} {a : Answer} {cs : List Call} {az : List Answered}
      → WidenPromise s ws structure a s' ws'
      → Trace s' ws' cs az s'' ws''
      → Trace s ws (widen structure ∷ cs) (record { said = a; written = nothing } ∷ az) s'' ws''
