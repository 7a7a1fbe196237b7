-- What is tested before the passes, and that they then have what they ask.
-- Assumes nothing.
use Rattle.std.proofs.Common.{◌≡◌, ℕ, ◌*◌, ◌<◌, ◌≤◌, Bool, false, not, ◌||◌, eqb, ltb, List, ap, mul-le-mul_right, mul-le-mul, arith, ltb-false, eqb-true}
use borrow.Author.Tests.{not-false}
use Rattle.groups.proofs.BoolLaws.{or_false}
use Rattle.frame.specs.Memory.{most_runs}
use Rattle.frame.specs.Words.{line_start}
use Rattle.frame.proofs.LineLaws.{most_runs_le}
use Rattle.sound.specs.Stored.{PassReady}
use Rattle.sound.specs.Passes.{LinesReady, RunsReady}

-- with the most runs of a line as the code has it
module _ (L w : ℕ) (left : Bool) (fed : ℕ) (ws : List ℕ) {most : ℕ} (is-most : most ≡ most_runs left w) (P : PassReady L w left fed ws) where
  pub product_small : fed * most < 4294967296
  product_small = omega (arith, ap (λ (x : ℕ). fed * x) is-most, mul-le-mul P.within (most_runs_le left w), P.small)

  module _ (runs : ℕ) (h : (not (eqb (line_start ws 0) 0) || ltb (fed * most) runs) ≡ false) where
    begins : line_start ws 0 ≡ 0
    begins = eqb-true (line_start ws 0) 0 (not-false _ (or_false (not (eqb (line_start ws 0) 0)) (ltb (fed * most) runs) h).0)

    few : runs ≤ fed * most
    few = ltb-false (fed * most) runs (or_false (not (eqb (line_start ws 0) 0)) (ltb (fed * most) runs) h).1

    pub runs_ready : RunsReady L runs ws
    runs_ready = record {
      memory = omega (arith, few, ap (λ (x : ℕ). fed * x) is-most, mul-le-mul_right (most_runs left w) P.within, P.memory);
      few = omega (arith, few, product_small);
    }

    pub lines_ready : LinesReady L fed runs ws
    lines_ready = record { within = P.within; memory = runs_ready.memory; first = begins }
