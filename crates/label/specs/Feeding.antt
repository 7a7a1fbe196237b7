-- What a feed promises, whatever the kind of its cells: `cells` says of each whether it is nonzero.
-- Assumes nothing.
use Rattle.std.specs.Prelude.{◌≡◌, Bool, cond, List, ℕ, suc, ◌+◌, ◌-◌, ◌≤◌, ◌<◌, ltb, leb, length, get_or}
use Rattle.groups.specs.Groups.{Edge, rep, group_sum, joins, visit}
use Rattle.frame.specs.Shape.{width, leading}
use Rattle.frame.specs.Runs.{runs, nonzero_cells, Run, run_length, runs_before, frame_run}
use Rattle.frame.specs.Touches.{touches}
use Rattle.frame.specs.Causes.{feed_cause}
use Rattle.frame.specs.declared.Figures.{Figures}
use Rattle.frame.specs.Plain.{Answer, fed, unless, kept}
use Rattle.frame.specs.Words.{line_place, start_place, end_place, line_start, parent_of, size_word, stored_run, NoGroupWord}
use Rattle.frame.specs.Lists.{set_all}
use Rattle.forest.specs.Forest.{root_of, brought}
use Rattle.label.specs.declared.Session.{Session}
use Rattle.label.specs.Record.{shape_of, structure_of, lines_of, with_figures}
use Rattle.label.specs.Sound.{sound}
use Rattle.label.specs.Held.{grouping_of}

-- ---- the runs afterwards: those that the words hold, then those of the new cells

unfoldable pub runs_after : Session → List Bool → ℕ
runs_after s cells = s.figures.runs + runs (shape_of s) (structure_of s) cells

-- how many stand before line ℓ, and run r
unfoldable pub start_after : Session → List ℕ → List Bool → ℕ → ℕ
start_after s ws cells ℓ =
    cond (leb ℓ s.fed) (line_start ws ℓ) (s.figures.runs + runs_before (shape_of s) (structure_of s) cells (ℓ - s.fed))

unfoldable pub run_after : Session → List ℕ → List Bool → ℕ → Run
run_after s ws cells r =
    cond (ltb r s.figures.runs) (stored_run (lines_of s) ws r)
    (frame_run (shape_of s) (structure_of s) cells (r - s.figures.runs))

-- what run r brings to its group: a root that the words hold its fifth word, a new run its length
unfoldable pub feed_brings : Session → List ℕ → List Bool → ℕ → ℕ
feed_brings s ws cells r =
    brought s.figures.runs (parent_of (lines_of s) ws) (size_word (lines_of s) ws) (λ q. run_length (run_after s ws cells q)) r

module _ (s : Session) (ws : List ℕ) (k : ℕ) (cells : List Bool) where
  -- ---- the grouping afterwards

  -- the touches of the new lines, in the order in which they are visited
  unfoldable pub feed_touches : List Edge
  feed_touches = touches (leading (shape_of s)) (structure_of s) (start_after s ws cells) (run_after s ws cells) s.fed k

  -- the grouping held before, and then these
  unfoldable pub feed_edges : List Edge
  feed_edges = visit feed_touches (grouping_of s ws)

  -- ---- the size of each group afterwards: the sum of what its runs bring

  unfoldable pub size_after : ℕ → ℕ
  size_after r = group_sum (rep feed_edges) (feed_brings s ws cells) (runs_after s cells) r

  -- ---- the record afterwards

  abbrev pub figures_after : Figures
  figures_after = record { runs = runs_after s cells; joins = joins feed_edges; cells = s.figures.cells + nonzero_cells cells }

  unfoldable pub feed_record : Session
  feed_record = with_figures s (s.fed + k) figures_after

  -- ---- the words afterwards, group words aside: the new line starts, and the new runs' starts and ends, are written

  unfoldable pub with_lines : List ℕ
  with_lines = set_all (λ i. line_place (s.fed + suc i)) (λ i. start_after s ws cells (s.fed + suc i)) k ws

  unfoldable pub with_runs : List ℕ
  with_runs =
      set_all (λ i. end_place (lines_of s) (s.figures.runs + i)) (λ i. (run_after s ws cells (s.figures.runs + i)).end)
      (runs (shape_of s) (structure_of s) cells)
      (set_all (λ i. start_place (lines_of s) (s.figures.runs + i)) (λ i. (run_after s ws cells (s.figures.runs + i)).start)
      (runs (shape_of s) (structure_of s) cells)
      with_lines)

  -- 6, 7, 8, or 0
  unfoldable pub feed_cause_of : ℕ
  feed_cause_of = feed_cause (sound s ws) (lines_of s - s.fed) k (width (shape_of s)) (length cells)

  pub record FeedWords (ws' : List ℕ) : Type 0 where
    pub long : length ws' ≡ length ws
    -- every word that is no run's parent and no run's fifth
    pub others : (j : ℕ) → NoGroupWord (lines_of s) (runs_after s cells) j → get_or ws' j 0 ≡ get_or with_runs j 0
    -- of the parents only: none is above its run, and they give the grouping, a group's root being its smallest run
    pub parents : (r : ℕ) → r < runs_after s cells → parent_of (lines_of s) ws' r ≤ r
    pub grouped : (r : ℕ) → r < runs_after s cells → root_of (parent_of (lines_of s) ws') r ≡ rep feed_edges r
    -- of the fifth words only those of roots: the sum of what the group's runs bring
    pub sized : (r : ℕ) → r < runs_after s cells → rep feed_edges r ≡ r → size_word (lines_of s) ws' r ≡ size_after r
    -- with k = 0 nothing changes
    pub no_lines : k ≡ 0 → ws' ≡ ws

  -- the answer, and the record and the words afterwards
  pub record FeedPromise (a : Answer) (s' : Session) (ws' : List ℕ) : Type 0 where
    pub said : a ≡ unless feed_cause_of (fed (s.fed + k) feed_record.figures)
    pub session : s' ≡ kept feed_cause_of s feed_record
    pub refusal : 0 < feed_cause_of → ws' ≡ ws
    pub accepted : feed_cause_of ≡ 0 → FeedWords ws'
