-- A plain function for each call: its promise's right-hand sides, with each group's smallest run as its runs' parent, and the sum of what
-- its group's runs bring as each run's size.
-- Assumes nothing.
use mathlib.Core.Bool.{Bool}
use mathlib.Core.List.{List, map}
use Prim.Native.Nat.{ℕ, zero, suc, ◌+◌}
use lib.ListN.{length}
use Rattle.groups.specs.Groups.{Edge, rep}
use Rattle.frame.specs.Shape.{lines}
use Rattle.frame.specs.ChainRule.{labels}
use Rattle.frame.specs.Kinds.{Number, Value, write}
use Rattle.frame.specs.Causes.{open_cause}
use Rattle.frame.specs.Plain.{Answer, fed, counted, unless, kept, groups_of, figures}
use Rattle.frame.specs.Words.{parent_place, size_place}
use Rattle.frame.specs.Lists.{set_all}
use Rattle.label.specs.declared.Session.{Session}
use Rattle.label.specs.Record.{lines_of}
use Rattle.label.specs.Held.{numbers_held, sizes_held}
use Rattle.label.specs.Opening.{open_record, open_words, blank}
use Rattle.label.specs.Feeding.{runs_after, feed_edges, size_after, feed_record, with_runs, feed_cause_of}
use Rattle.label.specs.Widening.{widen_cause_of, widen_edges, widen_size, widen_record}
use Rattle.label.specs.Reading.{with_names, counted_of, read_cause_of, sizes_cause_of}
use Rattle.label.specs.WholeFrame.{all_fed, early_cause_of, frame_cause_of}

-- ---- what comes back

-- of an opening: it answers a number only
pub record OpenResult : Type 0 where
  pub number : ℕ
  pub session : Session
  pub words : List ℕ

-- of a feed or a structure change
pub record FeedResult : Type 0 where
  pub said : Answer
  pub session : Session
  pub words : List ℕ

-- of a reading, a size call or a whole frame. The first two hand back the record that they were given
pub record ReadResult (A : Type 0) : Type 0 where
  pub said : Answer
  pub words : List ℕ
  pub out : List A

-- ---- opening

unfoldable pub do_open : List ℕ → List ℕ → List ℕ → OpenResult
do_open shape structure ws =
    let cause = open_cause shape structure (length ws) in
    record { number = cause; session = kept cause blank (open_record shape structure); words = kept cause ws (open_words ws) }

-- ---- feeding

-- each of n runs has its group's smallest run as its parent, and a size, in words for L lines
unfoldable pub regrouped : ℕ → ℕ → List Edge → (ℕ → ℕ) → List ℕ → List ℕ
regrouped L n es size ws = set_all (size_place L) size n (set_all (parent_place L) (rep es) n ws)

-- a feed of no lines changes nothing
unfoldable pub feed_words : Session → List ℕ → ℕ → List Bool → List ℕ
feed_words s ws zero cells = ws
feed_words s ws (suc k) cells =
    regrouped (lines_of s) (runs_after s cells) (feed_edges s ws (suc k) cells) (size_after s ws (suc k) cells) (with_runs s ws (suc k) cells)

unfoldable pub do_feed : Session → List ℕ → ℕ → List Bool → FeedResult
do_feed s ws k cells =
    let cause = feed_cause_of s ws k cells in
    record {
      said = unless cause (fed (s.fed + k) (feed_record s ws k cells).figures);
      session = kept cause s (feed_record s ws k cells);
      words = kept cause ws (feed_words s ws k cells);
    }

-- ---- structure change

unfoldable pub do_widen : Session → List ℕ → List ℕ → FeedResult
do_widen s ws structure =
    let cause = widen_cause_of s ws structure in
    record {
      said = unless cause (fed s.fed (widen_record s ws structure).figures);
      session = kept cause s (widen_record s ws structure);
      words = kept cause ws (regrouped (lines_of s) s.figures.runs (widen_edges s ws structure) (widen_size s ws structure) ws);
    }

-- ---- reading, sizes

unfoldable pub do_read : (kind : Number) → Session → List ℕ → List (Value kind) → ReadResult (Value kind)
do_read kind s ws out =
    let cause = read_cause_of kind s ws (length out) in
    record {
      said = unless cause (counted_of s ws);
      words = kept cause ws (with_names s ws);
      out = kept cause out (numbers_held s ws kind);
    }

unfoldable pub do_sizes : Session → List ℕ → List ℕ → ReadResult ℕ
do_sizes s ws out =
    let cause = sizes_cause_of s ws (length out) in
    record {
      said = unless cause (counted_of s ws);
      words = kept cause ws (with_names s ws);
      out = kept cause out (sizes_held s ws);
    }

-- ---- a whole frame

-- the feed of all lines, after an opening
unfoldable pub frame_feed : List ℕ → List ℕ → List ℕ → List Bool → FeedResult
frame_feed shape structure ws cells = do_feed (open_record shape structure) (open_words ws) (lines shape) cells

unfoldable pub do_frame : (kind : Number) → List ℕ → List ℕ → List ℕ → List Bool → List (Value kind) → ReadResult (Value kind)
do_frame kind shape structure ws cells out =
    let early = early_cause_of shape structure ws cells (length out) in
    let cause = frame_cause_of kind shape structure ws cells out in
    let all = all_fed shape structure cells in
    let after = frame_feed shape structure ws cells in
    record {
      said = unless cause (counted (groups_of shape all) (figures shape all));
      words = kept early ws (kept cause after.words (with_names after.session after.words));
      out = kept cause out (map (write kind) (labels shape structure cells));
    }
