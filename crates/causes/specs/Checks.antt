-- What a check finds beside a cause's number: the geometry. And what the checks of a sound record's calls ask.
-- Assumes nothing.
use Rattle.std.specs.Prelude.{◌≡◌, List, ℕ, ◌*◌, ◌≤◌, ◌<◌, length, Result, Ok}
use Rattle.frame.specs.Lists.{padded}
use Rattle.geo.specs.declared.Geo.{Geo}
use Rattle.geo.specs.Geometry.{GeoOf}
use Rattle.causes.specs.declared.Cause.{Cause}
use Rattle.causes.specs.Cases.{check_number}

-- that cause, or the geometry of a record's arrays
pub record Found (rank : ℕ) (shape structure : List ℕ) (cause : ℕ) (r : Result Geo Cause) : Type 0 where
  pub number : check_number r ≡ cause
  pub geometry : (g : Geo) → r ≡ Ok g → GeoOf rank shape structure g

-- so of a lent shape and structure
abbrev pub LentFound : List ℕ → List ℕ → ℕ → Result Geo Cause → Type 0
LentFound shape structure cause r = Found (length shape) (padded 4 shape) structure cause r

-- lines fed are lines of the frame, whose cells can be counted
pub record FeedAsked (g : Geo) (fed : ℕ) : Type 0 where
  pub within : fed ≤ g.lines
  pub cells : g.lines * g.width < 4294967293
