-- The figures of some lines and of more: what adding them asks, and what it gives.
-- Assumes nothing.
use Rattle.std.specs.Prelude.{◌+◌, ◌<◌}
use Rattle.frame.specs.declared.Figures.{Figures}

abbrev pub plus_figures : Figures → Figures → Figures
plus_figures f g = record { runs = f.runs + g.runs; joins = f.joins + g.joins; cells = f.cells + g.cells }

-- each sum is below 2^32
pub record FiguresFit (f g : Figures) : Type 0 where
  pub runs_fit : f.runs + g.runs < 4294967296
  pub joins_fit : f.joins + g.joins < 4294967296
  pub cells_fit : f.cells + g.cells < 4294967296
