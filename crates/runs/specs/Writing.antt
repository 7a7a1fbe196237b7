-- Writing boundaries through the struct that holds the words.
-- Assumes nothing.
use Rattle.std.specs.Prelude.{◌≡◌, List, [], ◌∷◌, ℕ, ◌<◌, length}
use denote.Ref.{at_last}
use Rattle.runs.specs.declared.Boundaries.{Boundaries}
use Rattle.runs.specs.Boundaries.{boundary_at, BoundaryRoom, Put, places}

-- what writing the boundaries es from column x on asks
abbrev pub Fits : Boundaries → ℕ → List ℕ → Type 0
Fits b x es = BoundaryRoom b.words.now b.at b.count x es

-- what writing one asks
abbrev pub FitsNext : Boundaries → Type 0
FitsNext b = boundary_at b.at b.count < length b.words.now

-- the boundaries es are written as the next ones, and the struct still holds the same slice
pub record Writes (es : List ℕ) (before after : Boundaries) : Type 0 where
  pub put : Put before.words.now after.words.now before.at before.count after.count es
  pub same : after.at ≡ before.at
  pub held : after.words ≡ at_last before.words after.words.now

-- the place of e's lowest set bit is written, where bit 0 stands at x: e' is e without that bit
pub record Took (before after : Boundaries) (e x e' : ℕ) : Type 0 where
  pub place : ℕ
  pub lowest : places 64 e x ≡ place ∷ places 64 e' x
  pub writes : Writes (place ∷ []) before after
  pub less : e' < e
