-- The frames to prove, worked out: what is answered and written, the order of the causes, and touches.
-- Assumes nothing.
use mathlib.Core.Path.{◌≡◌, refl}
use mathlib.Core.Bool.{Bool, true, false}
use mathlib.Core.List.{List, [], ◌∷◌, ◌++◌, map, zip_with}
use Prim.Native.Nat.{ℕ}
use lib.ListN.{replicate}
use Rattle.groups.specs.Groups.{Edge, merge, rep, is_root, count, groups, gather, pairs}
use Rattle.groups.specs.Numbers.{number}
use Rattle.frame.specs.Shape.{size, width, leading, coords}
use Rattle.frame.specs.Structure.{offset, backward, on, left_on}
use Rattle.frame.specs.ChainRule.{nonzero, same_list, any, leads_by, edges_by, edges, group_count, label, range, labels, size_of, sizes_of}
use Rattle.frame.specs.Scipy.{connecting, scipy_edges, scipy_count, scipy_labels}
use Rattle.frame.specs.Runs.{goes_on, begins_run, runs, nonzero_cells, Run, stretches, singles, line_runs, line_of, frame_runs}
use Rattle.frame.specs.Runs.{all_runs, runs_before, frame_run}
use Rattle.frame.specs.Touches.{reaches, used, has_nbr, nbr_line, touches_by, touches_of, touches, frame_touches, touch_count}
use Rattle.frame.specs.Kinds.{nz, nzℤ, nz_f, flags, u8, u16, u32, largest, holds}
use Rattle.frame.specs.Memory.{per_line, words_needed}
use Rattle.frame.specs.Causes.{bad_rank, has_zero, too_large, unlike, lopsided, first_cause, open_tests, open_cause, feed_tests, feed_cause}
use Rattle.frame.specs.Causes.{read_tests, read_cause, sizes_tests, sizes_cause, left_differs, dropped, not_wider, widen_tests, widen_cause}
use Rattle.frame.specs.Causes.{frame_tests, frame_cause}
use Rattle.frame.specs.Plain.{unless, kept, feeds, widens, groups_of, figures, cause, answer, written, changed, next, plain, session}
use Rattle.frame.specs.Dearest.{alternate, alternating, middles_on, most_touches, touches_per_line}
use Rattle.frame.specs.Lists.{all}
use Rattle.frame.specs.Frames.{asked, nine, slips, refusals, changes, frames}

-- what the computation of a session opens
computed : Unit {0}
unfolding merge rep is_root count groups gather pairs number size width leading coords offset backward on left_on nonzero same_list any
    leads_by edges_by edges group_count label range labels size_of sizes_of goes_on begins_run runs nonzero_cells nz nzℤ nz_f flags largest holds
    per_line words_needed bad_rank has_zero too_large unlike lopsided first_cause open_tests open_cause feed_tests feed_cause read_tests read_cause
    sizes_tests sizes_cause left_differs dropped not_wider widen_tests widen_cause unless kept feeds widens groups_of figures cause answer
    written changed next plain session zip_with
computed = tt

-- ---- the fact: every session of the list is answered as it stands there

pub frames_right : map asked frames ≡ map (λ f. f.answers) frames
unfolding asked frames nine slips refusals changes computed
frames_right = refl

-- ---- causes: of each call, what is wrong is mended one cause at a time

order : List ℕ
order =
    feed_cause false 1 2 3 5
    ∷ feed_cause true 1 2 3 5
    ∷ feed_cause true 2 2 3 5
    ∷ feed_cause true 2 2 3 6
    ∷ read_cause false 8 9 (holds u8 256)
    ∷ read_cause true 8 9 (holds u8 256)
    ∷ read_cause true 9 9 (holds u8 256)
    ∷ read_cause true 9 9 (holds u8 255)
    ∷ read_cause true 9 9 (holds u16 65536)
    ∷ read_cause true 9 9 (holds u16 65535)
    ∷ read_cause true 9 9 (holds u32 4294967296)
    ∷ read_cause true 9 9 (holds u32 4294967295)
    ∷ sizes_cause false 3 2
    ∷ sizes_cause true 3 2
    ∷ sizes_cause true 2 2
    ∷ widen_cause false 2 (replicate 9 1) (replicate 8 0)
    ∷ widen_cause true 2 (replicate 9 1) (replicate 8 0)
    ∷ widen_cause true 2 (replicate 9 1) (0 ∷ replicate 8 1)
    ∷ widen_cause true 2 (replicate 9 1) (0 ∷ replicate 7 1 ++ 0 ∷ [])
    ∷ widen_cause true 2 (replicate 9 1) (replicate 9 2)
    ∷ frame_cause (0 ∷ 3 ∷ []) (1 ∷ []) 33 8 8 (holds u8 256)
    ∷ frame_cause (0 ∷ 3 ∷ []) (0 ∷ replicate 8 1) 33 8 8 (holds u8 256)
    ∷ frame_cause (0 ∷ 3 ∷ []) (2 ∷ replicate 8 1) 33 8 8 (holds u8 256)
    ∷ frame_cause (3 ∷ 3 ∷ []) (replicate 9 1) 33 8 8 (holds u8 256)
    ∷ frame_cause (3 ∷ 3 ∷ []) (replicate 9 1) 34 8 8 (holds u8 256)
    ∷ frame_cause (3 ∷ 3 ∷ []) (replicate 9 1) 34 9 8 (holds u8 256)
    ∷ frame_cause (3 ∷ 3 ∷ []) (replicate 9 1) 34 9 9 (holds u8 256)
    ∷ frame_cause (3 ∷ 3 ∷ []) (replicate 9 1) 34 9 9 (holds u8 255)
    ∷ []

order_right : order
    ≡ 6 ∷ 7 ∷ 8 ∷ 0 ∷ 6 ∷ 9 ∷ 10 ∷ 0 ∷ 10 ∷ 0 ∷ 10 ∷ 0 ∷ 6 ∷ 9 ∷ 0 ∷ 6 ∷ 2 ∷ 12 ∷ 19 ∷ 0 ∷ 2 ∷ 12 ∷ 3 ∷ 5 ∷ 8 ∷ 9 ∷ 10 ∷ 0 ∷ []
unfolding order frame_tests frame_cause computed
order_right = refl

-- ---- touches: the runs of a frame's lines, and which touch, by offset in C order

record Worked : Type 0 where
  shape : List ℕ
  structure : List ℕ
  cells : List ℕ
  runs : List Run
  touching : List Edge

work : Worked → Worked
work f =
    let cells = map nz f.cells in
    let L = size (leading f.shape) in
    record {
      shape = f.shape;
      structure = f.structure;
      cells = f.cells;
      runs = all_runs f.shape f.structure cells L;
      touching = frame_touches f.shape f.structure cells 0 L;
    }

abbrev r : ℕ → ℕ → Run
r s e = record { start = s; end = e }

abbrev t : ℕ → ℕ → Edge
t a b = record { from = a; to = b }

worked : List Worked
worked =
    -- frame 1
    record {
      shape = 3 ∷ 3 ∷ [];
      structure = 0 ∷ 1 ∷ 0 ∷ 1 ∷ 1 ∷ 1 ∷ 0 ∷ 1 ∷ 0 ∷ [];
      cells = 1 ∷ 0 ∷ 1 ∷ 1 ∷ 0 ∷ 1 ∷ 1 ∷ 1 ∷ 1 ∷ [];
      runs = r 0 1 ∷ r 2 3 ∷ r 0 1 ∷ r 2 3 ∷ r 0 3 ∷ [];
      touching = t 2 0 ∷ t 3 1 ∷ t 4 2 ∷ t 4 3 ∷ [];
    }
    -- frame 4: by bytes -1 and +1, the middle byte 0
    ∷ record {
      shape = 2 ∷ 3 ∷ [];
      structure = 1 ∷ 0 ∷ 1 ∷ 0 ∷ 0 ∷ 0 ∷ 1 ∷ 0 ∷ 1 ∷ [];
      cells = replicate 6 1;
      runs = r 0 1 ∷ r 1 2 ∷ r 2 3 ∷ r 0 1 ∷ r 1 2 ∷ r 2 3 ∷ [];
      touching = t 3 1 ∷ t 4 0 ∷ t 4 2 ∷ t 5 1 ∷ [];
    }
    -- the middle byte alone reaches no further than the run
    ∷ record {
      shape = 2 ∷ 4 ∷ [];
      structure = 0 ∷ 1 ∷ 0 ∷ 1 ∷ 0 ∷ 1 ∷ 0 ∷ 1 ∷ 0 ∷ [];
      cells = 0 ∷ 1 ∷ 0 ∷ 1 ∷ 1 ∷ 0 ∷ 1 ∷ 0 ∷ [];
      runs = r 1 2 ∷ r 3 4 ∷ r 0 1 ∷ r 2 3 ∷ [];
      touching = [];
    }
    -- both sides, the middle byte 0: one touch for one offset
    ∷ record {
      shape = 2 ∷ 3 ∷ [];
      structure = 1 ∷ 0 ∷ 1 ∷ 1 ∷ 0 ∷ 1 ∷ 1 ∷ 0 ∷ 1 ∷ [];
      cells = replicate 6 1;
      runs = r 0 3 ∷ r 0 3 ∷ [];
      touching = t 1 0 ∷ [];
    }
    -- offset -1,-1,0 of rank 3: two lines and a column of lines back, and no neighbour at the border
    ∷ record {
      shape = 2 ∷ 2 ∷ 1 ∷ [];
      structure = replicate 1 0 ++ 1 ∷ replicate 23 0 ++ 1 ∷ 0 ∷ [];
      cells = replicate 4 1;
      runs = r 0 1 ∷ r 0 1 ∷ r 0 1 ∷ r 0 1 ∷ [];
      touching = t 3 0 ∷ [];
    }
    -- offset -1,+1,+1 of rank 3, its last byte alone: the neighbour's line is the one before
    ∷ record {
      shape = 2 ∷ 2 ∷ 2 ∷ [];
      structure = replicate 8 0 ++ 1 ∷ replicate 9 0 ++ 1 ∷ replicate 8 0;
      cells = replicate 8 1;
      runs = r 0 1 ∷ r 1 2 ∷ r 0 1 ∷ r 1 2 ∷ r 0 1 ∷ r 1 2 ∷ r 0 1 ∷ r 1 2 ∷ [];
      touching = t 4 3 ∷ [];
    }
    -- offset +1,-1 alone: it is not backward, so no run touches. No session has this structure, as it is lopsided
    ∷ record {
      shape = 2 ∷ 2 ∷ [];
      structure = replicate 6 0 ++ 1 ∷ 0 ∷ 0 ∷ [];
      cells = 0 ∷ 1 ∷ 1 ∷ 0 ∷ [];
      runs = r 1 2 ∷ r 0 1 ∷ [];
      touching = [];
    }
    ∷ []

touches_right : map work worked ≡ worked
unfolding work worked stretches singles line_runs line_of frame_runs all_runs runs_before frame_run reaches used has_nbr nbr_line touches_by
    touches_of touches computed
touches_right = refl

-- nor does the chain rule join its cells
forward_right : labels (2 ∷ 2 ∷ []) (replicate 6 0 ++ 1 ∷ 0 ∷ 0 ∷ []) (false ∷ true ∷ true ∷ false ∷ []) ≡ 0 ∷ 1 ∷ 2 ∷ 0 ∷ []
unfolding computed
forward_right = refl

-- ---- SciPy's own examples, of its description: features by the cross, and with diagonals

scipy_cells : List Bool
scipy_cells =
    map nz (0 ∷ 0 ∷ 1 ∷ 1 ∷ 0 ∷ 0
    ∷ 0 ∷ 0 ∷ 0 ∷ 1 ∷ 0 ∷ 0
    ∷ 1 ∷ 1 ∷ 0 ∷ 0 ∷ 1 ∷ 0
    ∷ 0 ∷ 0 ∷ 0 ∷ 1 ∷ 0 ∷ 0 ∷ [])

cross : List ℕ
cross = 0 ∷ 1 ∷ 0 ∷ 1 ∷ 1 ∷ 1 ∷ 0 ∷ 1 ∷ 0 ∷ []

four_features : scipy_count (4 ∷ 6 ∷ []) cross scipy_cells ∷ scipy_labels (4 ∷ 6 ∷ []) cross scipy_cells
    ≡ 4
    ∷ 0 ∷ 0 ∷ 1 ∷ 1 ∷ 0 ∷ 0
    ∷ 0 ∷ 0 ∷ 0 ∷ 1 ∷ 0 ∷ 0
    ∷ 2 ∷ 2 ∷ 0 ∷ 0 ∷ 3 ∷ 0
    ∷ 0 ∷ 0 ∷ 0 ∷ 4 ∷ 0 ∷ 0 ∷ []
unfolding scipy_cells cross connecting scipy_edges scipy_count scipy_labels computed
four_features = refl

two_features : scipy_count (4 ∷ 6 ∷ []) (replicate 9 1) scipy_cells ∷ scipy_labels (4 ∷ 6 ∷ []) (replicate 9 1) scipy_cells
    ≡ 2
    ∷ 0 ∷ 0 ∷ 1 ∷ 1 ∷ 0 ∷ 0
    ∷ 0 ∷ 0 ∷ 0 ∷ 1 ∷ 0 ∷ 0
    ∷ 2 ∷ 2 ∷ 0 ∷ 0 ∷ 1 ∷ 0
    ∷ 0 ∷ 0 ∷ 0 ∷ 1 ∷ 0 ∷ 0 ∷ []
unfolding scipy_cells connecting scipy_edges scipy_count scipy_labels computed
two_features = refl

-- its note on a structure that is not symmetric, 010 110 000, with the input 12 03: entry 2 is connected to 1, but 1 is not connected to 2
one_way : leads_by (2 ∷ 2 ∷ []) (connecting (2 ∷ 2 ∷ []) (0 ∷ 1 ∷ 0 ∷ 1 ∷ 1 ∷ 0 ∷ 0 ∷ 0 ∷ 0 ∷ [])) 1 0
    ∷ leads_by (2 ∷ 2 ∷ []) (connecting (2 ∷ 2 ∷ []) (0 ∷ 1 ∷ 0 ∷ 1 ∷ 1 ∷ 0 ∷ 0 ∷ 0 ∷ 0 ∷ [])) 0 1 ∷ [] ≡ true ∷ false ∷ []
unfolding connecting computed
one_way = refl

-- ---- the most runs, and the most touches

nine_ones : List ℕ
nine_ones = replicate 9 1

dearest_right : alternating (2 ∷ 3 ∷ []) ≡ map nz (1 ∷ 0 ∷ 1 ∷ 1 ∷ 0 ∷ 1 ∷ [])
unfolding alternate alternating computed
dearest_right = refl

-- 3 lines 10101: 9 runs, and 3 touches for each line but the first
costs_right : runs (3 ∷ 5 ∷ []) nine_ones (alternating (3 ∷ 5 ∷ [])) ∷ touch_count (3 ∷ 5 ∷ []) nine_ones (alternating (3 ∷ 5 ∷ [])) 0 3 ∷ []
    ≡ 9 ∷ 6 ∷ []
unfolding nine_ones alternate alternating stretches singles line_runs line_of frame_runs all_runs runs_before frame_run reaches used
    has_nbr nbr_line touches_by touches_of touches touch_count computed
costs_right = refl

-- two lines under one offset: 4 and 3 runs with 6 touches, and 4 and 4 with 7, the most that there can be. With the left byte zero 3 and 3
-- runs can have 7, more than they are together
bounds_right : touch_count (2 ∷ 7 ∷ []) nine_ones (map nz (1 ∷ 0 ∷ 1 ∷ 0 ∷ 1 ∷ 0 ∷ 1 ∷ 0 ∷ 1 ∷ 0 ∷ 1 ∷ 0 ∷ 1 ∷ 0 ∷ [])) 0 2
    ∷ touch_count (2 ∷ 8 ∷ []) nine_ones (map nz (1 ∷ 0 ∷ 1 ∷ 0 ∷ 1 ∷ 0 ∷ 1 ∷ 0 ∷ 0 ∷ 1 ∷ 0 ∷ 1 ∷ 0 ∷ 1 ∷ 0 ∷ 1 ∷ [])) 0 2
    ∷ touches_per_line (2 ∷ 8 ∷ []) nine_ones
    ∷ touch_count (2 ∷ 3 ∷ []) (1 ∷ 1 ∷ 1 ∷ 0 ∷ 1 ∷ 0 ∷ 1 ∷ 1 ∷ 1 ∷ []) (replicate 6 true) 0 2
    ∷ touches_per_line (2 ∷ 3 ∷ []) (1 ∷ 1 ∷ 1 ∷ 0 ∷ 1 ∷ 0 ∷ 1 ∷ 1 ∷ 1 ∷ [])
    ∷ touches_per_line (2 ∷ 3 ∷ 4 ∷ 5 ∷ []) (replicate 81 1)
    ∷ []
    ≡ 6 ∷ 7 ∷ 7 ∷ 7 ∷ 7 ∷ 65 ∷ []
unfolding nine_ones most_touches touches_per_line stretches singles line_runs line_of frame_runs all_runs runs_before frame_run reaches used
    has_nbr nbr_line touches_by touches_of touches touch_count computed
bounds_right = refl

-- nine ones, the cross, no offset used; the middle byte zero, and the last byte alone
middles_right : map (middles_on (3 ∷ 3 ∷ []))
    (nine_ones ∷ cross ∷ replicate 9 0 ∷ (1 ∷ 0 ∷ 1 ∷ 1 ∷ 1 ∷ 1 ∷ 1 ∷ 0 ∷ 1 ∷ []) ∷ (0 ∷ 0 ∷ 1 ∷ 0 ∷ 0 ∷ 0 ∷ 1 ∷ 0 ∷ 0 ∷ []) ∷ [])
    ≡ true ∷ true ∷ true ∷ false ∷ false ∷ []
unfolding nine_ones cross used all middles_on computed
middles_right = refl
