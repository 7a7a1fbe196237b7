-- What a frame's check and the feed of all its lines promise, and what numbering its cells then asks and promises. Numbering is told no
-- shape: it holds for every record with that geometry.
-- Assumes nothing.
use Rattle.std.specs.Prelude.{◌≡◌, Bool, List, ℕ, ◌<◌, length, Result, Ok}
use Rattle.frame.specs.Shape.{size, lines}
use Rattle.frame.specs.Kinds.{Number, Value}
use Rattle.frame.specs.Plain.{Answer}
use Rattle.frame.specs.Lists.{padded}
use Rattle.geo.specs.Geometry.{GeoOf}
use Rattle.causes.specs.declared.Cause.{Cause}
use Rattle.causes.specs.Cases.{check_number}
use Rattle.label.specs.declared.Session.{Session}
use Rattle.label.specs.Record.{shape_of, with_figures}
use Rattle.label.specs.Sound.{Sound}
use Rattle.label.specs.Opening.{open_record, open_words}
use Rattle.label.specs.Reading.{ReadPromise}
use Rattle.label.specs.Steps.{FeedDone}
use Rattle.label.specs.WholeFrame.{early_cause_of}
use Rattle.whole.specs.declared.FedFrame.{FedFrame}

-- a record with all lines fed, and the frame's figures
abbrev pub fed_record : Session → FedFrame → Session
fed_record s f = with_figures s f.geo.lines f.figures

-- ---- causes and feeding

module _ (shape structure ws : List ℕ) (cells : List Bool) (places : ℕ) where
  abbrev cause : ℕ
  cause = early_cause_of shape structure ws cells places

  -- the record of the opening
  abbrev session : Session
  session = open_record shape structure

  -- the cause that is known before anything is written; where there is none, geometry, figures and words are those of an opening and a
  -- feed of all lines
  pub record FeedsFrame (r : Result FedFrame Cause) (ws' : List ℕ) : Type 0 where
    pub number : check_number r ≡ cause
    pub geometry : (f : FedFrame) → r ≡ Ok f → GeoOf (length shape) (padded 4 shape) structure f.geo
    pub refusal : 0 < cause → ws' ≡ ws
    pub accepted : (f : FedFrame) → r ≡ Ok f → FeedDone session (open_words ws) (lines shape) cells (fed_record session f) ws'

-- ---- numbering

-- the record with those figures is sound, and the output, of `out` places, is of exact length
pub record FrameFed (s : Session) (f : FedFrame) (ws : List ℕ) (out : ℕ) : Type 0 where
  pub geometry : GeoOf s.rank s.shape s.structure f.geo
  pub is_sound : Sound (fed_record s f) ws
  pub places : out ≡ size (shape_of s)

-- so it is of some record
pub record SomeFed (f : FedFrame) (ws : List ℕ) (out : ℕ) : Type 0 where
  pub session : Session
  pub fed : FrameFed session f ws out

-- it is a reading of each such record
abbrev pub Numbers : (kind : Number) → FedFrame → List ℕ → List (Value kind) → Answer → List ℕ → List (Value kind) → Type 0
Numbers kind f ws out a ws' out' =
    (s : Session) → FrameFed s f ws (length out) → ReadPromise kind (fed_record s f) ws out a (fed_record s f) ws' out'
