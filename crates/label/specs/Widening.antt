-- What a structure change promises (document 02, F-12): the session goes on under the new structure, as if opened with it.
-- Assumes nothing.
use Rattle.std.specs.Prelude.{◌≡◌, List, [], ℕ, ◌≤◌, ◌<◌, length, get_or}
use Rattle.groups.specs.Groups.{Edge, rep, group_sum, joins, visit}
use Rattle.frame.specs.Shape.{leading}
use Rattle.frame.specs.Runs.{run_length}
use Rattle.frame.specs.Touches.{touches}
use Rattle.frame.specs.Causes.{widen_cause}
use Rattle.frame.specs.Plain.{Answer, fed, unless, kept}
use Rattle.frame.specs.Words.{line_start, parent_of, size_word, stored_run, NoGroupWord}
use Rattle.forest.specs.Forest.{root_of}
use Rattle.label.specs.declared.Session.{Session}
use Rattle.label.specs.Record.{shape_of, structure_of, lines_of, with_structure}
use Rattle.label.specs.Sound.{sound}

module _ (s : Session) (ws structure : List ℕ) where
  -- 6, 2, 12, 19, or 0
  unfoldable pub widen_cause_of : ℕ
  widen_cause_of = widen_cause (sound s ws) (length (shape_of s)) (structure_of s) structure

  -- "Its stored lines are united again": the touches of all of them under the new structure, from the first line on, and nothing before
  -- them, since "a grouping held before, of any origin, is dropped"
  unfoldable pub widen_touches : List Edge
  widen_touches = touches (leading (shape_of s)) structure (line_start ws) (stored_run (lines_of s) ws) 0 s.fed

  unfoldable pub widen_edges : List Edge
  widen_edges = visit widen_touches []

  -- the size of each group afterwards: the sum of its runs' lengths
  unfoldable pub widen_size : ℕ → ℕ
  widen_size r = group_sum (rep widen_edges) (λ q. run_length (stored_run (lines_of s) ws q)) s.figures.runs r

  -- the record afterwards: "joins count from the first line"
  unfoldable pub widen_record : Session
  widen_record = with_structure s structure (joins widen_edges)

  -- "writes only parents and fifth words of the stored runs. Name words stand"
  pub record WidenWords (ws' : List ℕ) : Type 0 where
    pub long : length ws' ≡ length ws
    pub others : (j : ℕ) → NoGroupWord (lines_of s) s.figures.runs j → get_or ws' j 0 ≡ get_or ws j 0
    -- of parents and fifth words as a feed: none is above its run, they give the grouping, and a root's word is its group's size
    pub parents : (r : ℕ) → r < s.figures.runs → parent_of (lines_of s) ws' r ≤ r
    pub grouped : (r : ℕ) → r < s.figures.runs → root_of (parent_of (lines_of s) ws') r ≡ rep widen_edges r
    pub sized : (r : ℕ) → r < s.figures.runs → rep widen_edges r ≡ r → size_word (lines_of s) ws' r ≡ widen_size r

  -- the answer, as a feed's, and the record and the words afterwards
  pub record WidenPromise (a : Answer) (s' : Session) (ws' : List ℕ) : Type 0 where
    pub said : a ≡ unless widen_cause_of (fed s.fed widen_record.figures)
    pub session : s' ≡ kept widen_cause_of s widen_record
    pub refusal : 0 < widen_cause_of → ws' ≡ ws
    pub accepted : widen_cause_of ≡ 0 → WidenWords ws'
