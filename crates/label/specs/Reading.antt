-- What a reading and a size call promise.
-- Assumes nothing.
use Rattle.std.specs.Prelude.{◌≡◌, List, ℕ, length}
use Rattle.frame.specs.Shape.{size}
use Rattle.frame.specs.Kinds.{Number, holds, Value}
use Rattle.frame.specs.Causes.{read_cause, sizes_cause}
use Rattle.frame.specs.Plain.{Answer, counted, unless, kept}
use Rattle.frame.specs.Words.{name_place, parent_of}
use Rattle.frame.specs.Lists.{set_all}
use Rattle.forest.specs.Forest.{number_in}
use Rattle.label.specs.declared.Session.{Session}
use Rattle.label.specs.Record.{shape_of, lines_of}
use Rattle.label.specs.Sound.{sound}
use Rattle.label.specs.Held.{root_count, numbers_held, sizes_held}

-- each run's name word becomes its number, and every other word stands
unfoldable pub with_names : Session → List ℕ → List ℕ
with_names s ws = set_all (name_place (lines_of s)) (number_in (parent_of (lines_of s) ws)) s.figures.runs ws

-- n and the figures
abbrev pub counted_of : Session → List ℕ → Answer
counted_of s ws = counted (root_count s ws) s.figures

-- 6, 9, 10, or 0
unfoldable pub read_cause_of : Number → Session → List ℕ → ℕ → ℕ
read_cause_of kind s ws out = read_cause (sound s ws) out (size (shape_of s)) (holds kind (root_count s ws))

-- the record, the words and the output at entry; the answer, and the three afterwards
pub record ReadPromise (kind : Number) (s : Session) (ws : List ℕ) (out : List (Value kind))
    (a : Answer) (s' : Session) (ws' : List ℕ) (out' : List (Value kind)) : Type 0 where
  pub said : a ≡ unless (read_cause_of kind s ws (length out)) (counted_of s ws)
  pub session : s' ≡ s
  pub words : ws' ≡ kept (read_cause_of kind s ws (length out)) ws (with_names s ws)
  pub output : out' ≡ kept (read_cause_of kind s ws (length out)) out (numbers_held s ws kind)

-- 6, 9, or 0
unfoldable pub sizes_cause_of : Session → List ℕ → ℕ → ℕ
sizes_cause_of s ws out = sizes_cause (sound s ws) out (root_count s ws)

pub record SizesPromise (s : Session) (ws out : List ℕ) (a : Answer) (s' : Session) (ws' out' : List ℕ) : Type 0 where
  pub said : a ≡ unless (sizes_cause_of s ws (length out)) (counted_of s ws)
  pub session : s' ≡ s
  pub words : ws' ≡ kept (sizes_cause_of s ws (length out)) ws (with_names s ws)
  pub output : out' ≡ kept (sizes_cause_of s ws (length out)) out (sizes_held s ws)
