-- What the work of a call asks, once its check has found no cause, and what it leaves.
-- Assumes nothing.
use Rattle.std.specs.Prelude.{◌≡◌, Bool, false, cond, List, ℕ, ◌-◌, ◌*◌, ◌^◌, ◌≤◌, length, Result}
use Rattle.frame.specs.Shape.{size, width}
use Rattle.frame.specs.Structure.{left_on}
use Rattle.frame.specs.Kinds.{Number, largest}
use Rattle.frame.specs.Causes.{lopsided, not_wider}
use Rattle.geo.specs.declared.Geo.{Geo}
use Rattle.geo.specs.Geometry.{GeoOf}
use Rattle.causes.specs.declared.Cause.{Cause}
use Rattle.causes.specs.Checks.{Found}
use Rattle.runs.specs.declared.Counts.{Counts}
use Rattle.block.specs.Blocks.{Block}
use Rattle.label.specs.declared.Session.{Session}
use Rattle.label.specs.Record.{shape_of, structure_of, lines_of}
use Rattle.label.specs.Sound.{Sound, sound}
use Rattle.label.specs.Held.{root_count}
use Rattle.label.specs.Feeding.{feed_record, FeedWords}

-- ---- checks

-- 6, or 0
abbrev pub sound_cause_of : Session → List ℕ → ℕ
sound_cause_of s ws = cond (sound s ws) 0 6

-- what a check finds: that cause, and where there is none the record's geometry
abbrev pub RecordFound : Session → ℕ → Result Geo Cause → Type 0
RecordFound s cause r = Found s.rank s.shape s.structure cause r

-- ---- feed

module _ (s : Session) (ws : List ℕ) (k : ℕ) (cells : List Bool) where
  -- a sound record, lines that the frame still has, and their cells
  pub record FeedAccepted : Type 0 where
    pub is_sound : Sound s ws
    pub few : k ≤ lines_of s - s.fed
    pub whole : length cells ≡ k * width (shape_of s)

  -- the words once the new lines' runs are extracted, and how many runs and nonzero cells those have
  pub record FeedExtracted (g : Geo) (ws' : List ℕ) (c : Counts) : Type 0 where
    pub given : FeedAccepted
    pub geometry : GeoOf s.rank s.shape s.structure g
    pub block : Block (left_on (shape_of s) (structure_of s)) (width (shape_of s)) (lines_of s) s.fed s.figures.runs k cells ws ws' c

  -- the record and the words after the feed
  pub record FeedDone (s' : Session) (ws' : List ℕ) : Type 0 where
    pub session : s' ≡ feed_record s ws k cells
    pub words : FeedWords s ws k cells ws'

-- the words are those of some feed whose lines are extracted
pub record SomeExtracted (s : Session) (g : Geo) (k : ℕ) (ws' : List ℕ) (c : Counts) : Type 0 where
  pub words : List ℕ
  pub cells : List Bool
  pub extracted : FeedExtracted s words k cells g ws' c

-- ---- structure change

-- a sound record, and a structure that may follow its own
pub record WidenAccepted (s : Session) (ws structure : List ℕ) : Type 0 where
  pub is_sound : Sound s ws
  pub bytes : length structure ≡ 3 ^ length (shape_of s)
  pub not_lopsided : lopsided (length (shape_of s)) structure ≡ false
  pub wider : not_wider (length (shape_of s)) (structure_of s) structure ≡ false

-- ---- reading

-- a sound record, an output of exact length, which is `out`, and a kind that holds n
pub record ReadAccepted (kind : Number) (s : Session) (ws : List ℕ) (out : ℕ) : Type 0 where
  pub is_sound : Sound s ws
  pub places : out ≡ size (shape_of s)
  pub fits : root_count s ws ≤ largest kind
