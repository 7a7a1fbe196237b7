-- Sound: no clause of document 01's "Unsound, exactly" holds, nor of those that document 02 adds. Clause by clause in their order, and the
-- test that decides it.
-- Assumes nothing.
use Rattle.std.specs.Prelude.{Bool, List, [], ◌∷◌, ℕ, length}
use Rattle.frame.specs.Shape.{width}
use Rattle.frame.specs.Structure.{left_on}
use Rattle.frame.specs.Lists.{every}
use Rattle.geo.specs.Geometry.{ShapeSound, shape_sound}
use Rattle.sound.specs.Stored.{WordsSound, words_sound}
use Rattle.label.specs.declared.Session.{Session}
use Rattle.label.specs.Record.{shape_of, structure_of, lines_of}

module _ (s : Session) (ws : List ℕ) where
  -- of the record: its shape, its structure, L, w, and whether its left byte is nonzero
  abbrev dims : List ℕ
  dims = shape_of s

  abbrev bytes : List ℕ
  bytes = structure_of s

  abbrev L : ℕ
  L = lines_of s

  abbrev w : ℕ
  w = width (shape_of s)

  abbrev left : Bool
  left = left_on (shape_of s) (structure_of s)

  -- The last clause, "a derived field that differs from shape and
  -- structure", has nothing to compare: the record has no such field
  pub record Sound : Type 0 where
    -- the clauses about shape, memory and lines fed: they stand in crate geo, with the code that tests them
    pub shape : ShapeSound dims bytes (length ws) s.fed
    -- the clauses about the words, from word 0 to the total: they stand in crate sound, with the pass that decides them
    pub words : WordsSound L w left s.fed s.figures ws

  -- computed: that it decides `Sound` is proved in proofs/SoundLaws.antt
  unfoldable pub sound : Bool
  sound =
      every (shape_sound dims bytes (length ws) s.fed
      ∷ words_sound L w left s.fed s.figures ws
      ∷ [])
