-- A record's shape and structure, and a record with other figures or another structure.
-- Assumes nothing.
use Rattle.std.specs.Prelude.{List, ℕ, ◌^◌}
use Rattle.frame.specs.Shape.{lines}
use Rattle.frame.specs.Lists.{entries, padded}
use Rattle.frame.specs.declared.Figures.{Figures}
use Rattle.label.specs.declared.Session.{Session}

-- the record's arrays: of the shape the first rank entries, of the structure the first 3^rank

unfoldable pub shape_of : Session → List ℕ
shape_of s = entries s.rank s.shape

unfoldable pub structure_of : Session → List ℕ
structure_of s = entries (3 ^ s.rank) s.structure

-- the record's L
abbrev pub lines_of : Session → ℕ
lines_of s = lines (shape_of s)

-- the record with other lines fed and other figures
abbrev pub with_figures : Session → ℕ → Figures → Session
with_figures s fed f = record { rank = s.rank; shape = s.shape; structure = s.structure; fed = fed; figures = f }

-- the record with another structure, under which its lines have other joins. The array past it is as an opening leaves it
abbrev pub with_structure : Session → List ℕ → ℕ → Session
with_structure s structure joins =
    record {
      rank = s.rank;
      shape = s.shape;
      structure = padded 81 structure;
      fed = s.fed;
      figures = record { runs = s.figures.runs; joins = joins; cells = s.figures.cells };
    }
