-- A sound record is ready to have the sizes of its groups copied; and what is copied is what a size call promises.
-- Assumes nothing.
use mathlib.Core.Path.{◌≡◌, refl, ap}
use mathlib.Core.List.{List}
use Prim.Native.Nat.{ℕ, ◌-◌, ◌≤◌}
use lib.ListN.{length}
use Rattle.std.proofs.Common.{Result, Ok}
use Rattle.frame.specs.Plain.{counted}
use Rattle.geo.specs.declared.Geo.{Geo}
use Rattle.causes.specs.declared.Cause.{Cause}
use Rattle.write.specs.Writes.{SizesReady, SizesWritten}
use Rattle.label.specs.declared.Counted.{Counted}
use Rattle.label.specs.declared.Session.{Session}
use Rattle.label.specs.Record.{lines_of}
use Rattle.label.specs.Sound.{Sound}
use Rattle.label.specs.Held.{root_count, sizes_held}
use Rattle.label.specs.Reading.{with_names, sizes_cause_of, SizesPromise}
use Rattle.label.specs.Steps.{RecordFound}
use Rattle.label.proofs.RecordGeometry.{geo_lines}
use Rattle.label.proofs.CheckLaws.{passed_cause, passed_geometry}
use Rattle.label.proofs.AcceptedLaws.{cause_sizes, sizes_promise}
use Rattle.label.proofs.FitLaws.{joins_fit}
use Rattle.label.proofs.WrittenNumbers.{names_ready}

module _ (s : Session) (ws : List ℕ) (S : Sound s ws) where
  sizes_ready : (n : ℕ) → n ≡ root_count s ws → SizesReady (lines_of s) s.figures.runs ws n
  unfolding root_count
  sizes_ready n e = record { runs = names_ready s ws S; groups = e }

  written_sizes : (ws' out' : List ℕ) → SizesWritten (lines_of s) s.figures.runs ws ws' out'
      → (ws' ≡ with_names s ws) × (out' ≡ sizes_held s ws)
  unfolding with_names sizes_held
  written_sizes ws' out' W = (W.names, W.sizes)

-- ---- where the check of a size call passed

module _ (s : Session) (ws : List ℕ) (places : ℕ) {r : Result Geo Cause} (F : RecordFound s (sizes_cause_of s ws places) r)
    {g : Geo} (is : r ≡ Ok g) where
  given : Sound s ws × (places ≡ root_count s ws)
  given = cause_sizes s ws places (passed_cause s F is)

  -- n is a difference
  pub sizes_joins : s.figures.joins ≤ s.figures.runs
  sizes_joins = joins_fit s ws given.0

  lines_are : g.lines ≡ lines_of s
  lines_are = geo_lines s ws g (passed_geometry s F is)

  pub passed_counts : SizesReady g.lines s.figures.runs ws places
  passed_counts = rw lines_are (sizes_ready s ws given.0 places given.1)

  written : {ws' out' : List ℕ} → SizesWritten g.lines s.figures.runs ws ws' out'
      → SizesWritten (lines_of s) s.figures.runs ws ws' out'
  written W = rw (← lines_are) W

pub passed_sizes : {s : Session} {ws out : List ℕ} {r : Result Geo Cause} → RecordFound s (sizes_cause_of s ws (length out)) r
    → {g : Geo} → r ≡ Ok g → {ws' out' : List ℕ} → SizesWritten g.lines s.figures.runs ws ws' out'
    → {n : Counted} → n ≡ record { n = s.figures.runs - s.figures.joins; figures = s.figures }
    → SizesPromise s ws out (counted n.n n.figures) s ws' out'
passed_sizes {s} {ws} {out} F is {ws'} {out'} W said =
    let counts = written_sizes s ws (given s ws (length out) F is).0 ws' out' (written s ws (length out) F is W) in
    sizes_promise s ws out (passed_cause s F is) ws' out' counts _ (ap (λ (n : Counted). counted n.n n.figures) said) s refl
