-- Document 01's frame 1 worked out by the plain functions, and what a computation opens.
-- Assumes nothing.
use mathlib.Core.Bool.{Bool, true, false}
use mathlib.Core.List.{List, [], ◌∷◌, ◌++◌, zip_with}
use Prim.Native.Nat.{ℕ, suc}
use lib.ListN.{set, replicate}
use Rattle.groups.specs.Groups.{merge, rep, is_root, count, sum_over, group_sum, groups, joins, gather, pairs, visit}
use Rattle.groups.specs.Numbers.{number}
use Rattle.frame.specs.Shape.{size, width, leading, coords}
use Rattle.frame.specs.Structure.{offset, backward, on, left_on}
use Rattle.frame.specs.ChainRule.{nonzero, same_list, any, leads_by, edges_by, edges, group_count, label, range, labels}
use Rattle.frame.specs.Runs.{goes_on, begins_run, runs, nonzero_cells, run_lengths, stretches, singles, line_runs, gap_of, line_of, frame_runs}
use Rattle.frame.specs.Runs.{all_runs, runs_before, frame_run}
use Rattle.frame.specs.Touches.{reaches, used, has_nbr, nbr_line, touches_by, touches_of, touches}
use Rattle.frame.specs.Kinds.{largest, holds}
use Rattle.frame.specs.Memory.{per_line, words_needed}
use Rattle.frame.specs.Words.{parent_place, size_place}
use Rattle.frame.specs.Causes.{bad_rank, has_zero, too_large, unlike, lopsided, first_cause, open_tests, open_cause, feed_tests, feed_cause}
use Rattle.frame.specs.Causes.{read_tests, read_cause, sizes_tests, sizes_cause, left_differs, dropped, not_wider, widen_tests, widen_cause}
use Rattle.frame.specs.Causes.{frame_tests, frame_cause}
use Rattle.frame.specs.declared.Figures.{Figures}
use Rattle.frame.specs.Plain.{unless, kept, feeds, groups_of, figures}
use Rattle.frame.specs.Lists.{all, every, last_below, entries, padded, set_all}
use Rattle.forest.specs.Forest.{up, root_of, own, roots, non_roots, number_in, grouping, root_sizes, size_list, brought}
use Rattle.geo.specs.Geometry.{shape_sound}
use Rattle.sound.specs.Stored.{words_sound}
use Rattle.label.specs.declared.Session.{Session}
use Rattle.label.specs.Record.{shape_of, structure_of}
use Rattle.label.specs.Sound.{sound}
use Rattle.label.specs.Held.{holds_cell, cells_of, holder_of, root_count, number_at, sizes_held}
use Rattle.label.specs.Feeding.{runs_after, start_after, run_after, feed_brings, feed_touches, feed_edges, size_after, feed_record}
use Rattle.label.specs.Feeding.{with_lines, with_runs, feed_cause_of}
use Rattle.label.specs.Widening.{widen_cause_of, widen_touches, widen_edges, widen_size, widen_record}
use Rattle.label.specs.Reading.{with_names, read_cause_of, sizes_cause_of}
use Rattle.label.specs.WholeFrame.{early_cause_of, frame_cause_of}
use Rattle.label.proofs.CallFunctions.{OpenResult, FeedResult, do_open, regrouped, feed_words, do_feed, do_widen, do_read, do_sizes}
use Rattle.label.proofs.CallFunctions.{frame_feed, do_frame}

-- what a computation opens
unfoldable pub computed : Unit {0}
unfolding merge rep is_root count sum_over group_sum groups joins gather pairs visit number size width leading coords offset backward on
    left_on nonzero same_list any leads_by edges_by edges group_count label range labels goes_on begins_run runs nonzero_cells run_lengths stretches
    singles line_runs gap_of line_of frame_runs all_runs runs_before frame_run reaches used has_nbr nbr_line touches_by touches_of touches largest
    holds per_line words_needed bad_rank has_zero too_large unlike lopsided first_cause open_tests open_cause feed_tests feed_cause read_tests
    read_cause sizes_tests sizes_cause left_differs dropped not_wider widen_tests widen_cause frame_tests frame_cause unless kept feeds groups_of
    figures entries shape_of structure_of set_all up root_of own roots non_roots number_in grouping root_sizes size_list brought all every
    shape_sound words_sound sound last_below holds_cell cells_of holder_of root_count number_at sizes_held padded runs_after start_after run_after
    feed_brings feed_touches feed_edges size_after feed_record with_lines with_runs feed_cause_of widen_cause_of widen_touches widen_edges widen_size
    widen_record with_names read_cause_of sizes_cause_of early_cause_of frame_cause_of do_open regrouped feed_words do_feed do_widen do_read do_sizes
    frame_feed do_frame zip_with
computed = tt

-- ---- document 01's frame 1, fed line by line

abbrev pub frame : List ℕ
frame = 3 ∷ 3 ∷ []

abbrev pub cross : List ℕ
cross = 0 ∷ 1 ∷ 0 ∷ 1 ∷ 1 ∷ 1 ∷ 0 ∷ 1 ∷ 0 ∷ []

-- the memory holds anything
abbrev pub memory : List ℕ
memory = replicate 34 7

abbrev pub line : List Bool
line = true ∷ false ∷ true ∷ []

abbrev pub whole : List Bool
whole = true ∷ true ∷ true ∷ []

abbrev pub f : ℕ → ℕ → ℕ → Figures
f r j c = record { runs = r; joins = j; cells = c }

unfoldable pub begun : OpenResult
begun = do_open frame cross memory

unfoldable pub one : FeedResult
one = do_feed begun.session begun.words 1 line

unfoldable pub two : FeedResult
two = do_feed one.session one.words 1 line

unfoldable pub three : FeedResult
three = do_feed two.session two.words 1 whole

-- nine ones; and two lines of which the cross makes two groups, and they one
abbrev pub ones : List ℕ
ones = replicate 9 1

unfoldable pub bud : FeedResult
bud = do_feed begun.session begun.words 2 (true ∷ false ∷ false ∷ false ∷ true ∷ false ∷ [])

-- what an output holds before
abbrev pub junk : List ℕ
junk = replicate 9 5

-- a run's words: start, end, parent, name, size
abbrev pub row : ℕ → ℕ → ℕ → ℕ → ℕ → List ℕ
row s e p n z = s ∷ e ∷ p ∷ n ∷ z ∷ []

-- 256 cells, each a group of its own: more than u8 holds
abbrev pub wide : Session
wide = record { rank = 1; shape = 256 ∷ 0 ∷ 0 ∷ 0 ∷ []; structure = replicate 81 0; fed = 1; figures = f 256 0 256 }

abbrev pub wide_words : List ℕ
wide_words = 0 ∷ 256 ∷ gather (λ r. row r (suc r) r 7 1) 0 256

-- the words after two lines, with v at place i
abbrev pub put : ℕ → ℕ → List ℕ
put i v = set two.words i v

-- those words where the roots, which are runs 0 and 1, have the sizes y and z
abbrev pub sized : ℕ → ℕ → List ℕ
sized y z = set (put (size_place 3 0) y) (size_place 3 1) z

-- those words where runs 0 and 1 are in one group, which no chain joins
abbrev pub together : List ℕ
together = set (put (parent_place 3 1) 0) (size_place 3 0) 4

-- records of the frame, with other figures
abbrev pub held : ℕ → ℕ → ℕ → ℕ → Session
held l r j c = record { rank = 2; shape = 3 ∷ 3 ∷ 0 ∷ 0 ∷ []; structure = cross ++ replicate 72 0; fed = l; figures = f r j c }
