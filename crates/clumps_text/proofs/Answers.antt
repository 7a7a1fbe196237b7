-- Document 01's example and others, worked out: what is printed for a text, and which texts are refused.
-- Assumes nothing.
use mathlib.Core.Path.{◌≡◌, refl}
use mathlib.Core.List.{List, [], ◌∷◌, ◌++◌, map, zip_with}
use Prim.Native.Nat.{ℕ, zero, suc, ◌+◌, ◌/◌, ◌%◌}
use lib.ListN.{replicate}
use Rattle.groups.specs.Groups.{merge, rep, is_root, count, groups, gather, pairs}
use Rattle.groups.specs.Numbers.{number}
use Rattle.frame.specs.Shape.{size, width, leading, coords}
use Rattle.frame.specs.Structure.{offset, backward, on, left_on}
use Rattle.frame.specs.ChainRule.{nonzero, same_list, any, leads_by, edges_by, edges, group_count, label, range, labels}
use Rattle.frame.specs.Runs.{goes_on, begins_run, runs, nonzero_cells}
use Rattle.frame.specs.Causes.{unlike, lopsided}
use Rattle.frame.specs.declared.Figures.{Figures}
use Rattle.frame.specs.Plain.{feeds, groups_of, figures}
use Rattle.clumps_text.specs.Text.{line, digits, decimal, blank_before, decimals, flag_character, width_name, lines_name, structure_name}
use Rattle.clumps_text.specs.Text.{cells_name, runs_name, joins_name, objects_name, labels_name, refused_name}
use Rattle.clumps_text.specs.Input.{and_then, parse_exactly, digits_value, parse_number, parse_flags, flags_given, last_lines, parse}
use Rattle.clumps_text.specs.Output.{structure_bytes, refusal_text, labelled_text, output_to, printed, clumps_of}

-- what the computation of an output opens
computed : Unit {0}
unfolding merge rep is_root count groups gather pairs number size width leading coords offset backward on left_on nonzero same_list any
    leads_by edges_by edges group_count label range labels goes_on begins_run runs nonzero_cells unlike lopsided feeds groups_of figures zip_with
    digits decimal blank_before decimals flag_character width_name lines_name structure_name cells_name runs_name joins_name objects_name labels_name
    refused_name and_then parse_exactly digits_value parse_number parse_flags flags_given last_lines parse structure_bytes refusal_text labelled_text
    output_to printed clumps_of
computed = tt

-- ---- document 01's example, byte by byte

-- width=3, lines=3, structure=010111010, cells=101101111
example : List ℕ
example =
    119 ∷ 105 ∷ 100 ∷ 116 ∷ 104 ∷ 61 ∷ 51 ∷ 10 ∷
    108 ∷ 105 ∷ 110 ∷ 101 ∷ 115 ∷ 61 ∷ 51 ∷ 10 ∷
    115 ∷ 116 ∷ 114 ∷ 117 ∷ 99 ∷ 116 ∷ 117 ∷ 114 ∷ 101 ∷ 61 ∷ 48 ∷ 49 ∷ 48 ∷ 49 ∷ 49 ∷ 49 ∷ 48 ∷ 49 ∷ 48 ∷ 10 ∷
    99 ∷ 101 ∷ 108 ∷ 108 ∷ 115 ∷ 61 ∷ 49 ∷ 48 ∷ 49 ∷ 49 ∷ 48 ∷ 49 ∷ 49 ∷ 49 ∷ 49 ∷ 10 ∷ []

-- runs=5, joins=4, cells=7, objects=1, labels=1 0 1 1 0 1 1 1 1
example_output : List ℕ
example_output =
    114 ∷ 117 ∷ 110 ∷ 115 ∷ 61 ∷ 53 ∷ 10 ∷
    106 ∷ 111 ∷ 105 ∷ 110 ∷ 115 ∷ 61 ∷ 52 ∷ 10 ∷
    99 ∷ 101 ∷ 108 ∷ 108 ∷ 115 ∷ 61 ∷ 55 ∷ 10 ∷
    111 ∷ 98 ∷ 106 ∷ 101 ∷ 99 ∷ 116 ∷ 115 ∷ 61 ∷ 49 ∷ 10 ∷
    108 ∷ 97 ∷ 98 ∷ 101 ∷ 108 ∷ 115 ∷ 61 ∷ 49 ∷ 32 ∷ 48 ∷ 32 ∷ 49 ∷ 32 ∷ 49 ∷ 32 ∷ 48 ∷ 32 ∷ 49 ∷ 32 ∷ 49 ∷ 32 ∷ 49 ∷ 32 ∷ 49 ∷ 10 ∷ []

example_right : clumps_of example ≡ example_output
unfolding example example_output computed
example_right = refl

-- ---- other texts

-- the k characters of a number's last digits: c 3 101 is 101
characters : ℕ → ℕ → List ℕ → List ℕ
characters zero v r = r
characters (suc k) v r = characters k (v / 10) ((48 + v % 10) ∷ r)

abbrev c : ℕ → ℕ → List ℕ
unfolding characters
c k v = characters k v []

-- four lines with these values, and bytes past them
text : List ℕ → List ℕ → List ℕ → List ℕ → List ℕ → List ℕ
text w l s cells past = line width_name w (line lines_name l (line structure_name s (line cells_name cells past)))

abbrev f : ℕ → ℕ → ℕ → Figures
f r j c = record { runs = r; joins = j; cells = c }

-- 10/01, two cells that touch at a corner: one clump under an empty structure line as under nine ones, and two under the cross
corner : List ℕ → List ℕ
corner structure = text (c 1 2) (c 1 2) structure (c 4 1001) []

corner_right : map clumps_of (corner [] ∷ corner (c 9 111111111) ∷ corner (c 9 10111010) ∷ [])
    ≡ labelled_text 1 (f 2 1 2) (1 ∷ 0 ∷ 0 ∷ 1 ∷ []) ∷ labelled_text 1 (f 2 1 2) (1 ∷ 0 ∷ 0 ∷ 1 ∷ [])
    ∷ labelled_text 2 (f 2 0 2) (1 ∷ 0 ∷ 0 ∷ 2 ∷ []) ∷ []
unfolding corner text characters computed
corner_right = refl

-- the example's cells under an empty structure line get the same labels
example_empty : clumps_of (text (c 1 3) (c 1 3) [] (c 9 101101111) []) ≡ example_output
unfolding example_output text characters computed
example_empty = refl

-- the shape is lines, width: two cells in a line are one run, one below the other they are two
shape_right : map clumps_of (text (c 1 2) (c 1 1) [] (c 2 11) [] ∷ text (c 1 1) (c 1 2) [] (c 2 11) [] ∷ [])
    ≡ labelled_text 1 (f 1 0 2) (1 ∷ 1 ∷ []) ∷ labelled_text 1 (f 2 1 2) (1 ∷ 1 ∷ []) ∷ []
unfolding text characters computed
shape_right = refl

-- twelve lone cells: numbers of two digits
twelve_right : clumps_of (text (c 2 23) (c 1 1) [] (c 23 10101010101010101010101) [])
    ≡ line runs_name (c 2 12) (line joins_name (c 1 0) (line cells_name (c 2 12)
    (line objects_name (c 2 12) (line labels_name
    (decimals (1 ∷ 0 ∷ 2 ∷ 0 ∷ 3 ∷ 0 ∷ 4 ∷ 0 ∷ 5 ∷ 0 ∷ 6 ∷ 0 ∷ 7 ∷ 0 ∷ 8 ∷ 0 ∷ 9 ∷ 0 ∷ 10 ∷ 0 ∷ 11 ∷ 0 ∷ 12 ∷ [])) []))))
unfolding text characters computed
twelve_right = refl

-- ---- texts that are refused

-- refused=12: a structure with one arm missing, and one that has one alone. 11 comes first, here for a cell too few
twelve : List ℕ
twelve = 114 ∷ 101 ∷ 102 ∷ 117 ∷ 115 ∷ 101 ∷ 100 ∷ 61 ∷ 49 ∷ 50 ∷ 10 ∷ []

lopsided_right : map clumps_of (text (c 1 2) (c 1 2) (c 9 10111000) (c 4 1001) [] ∷ text (c 1 2) (c 1 2) (c 9 1) (c 4 1001) []
    ∷ text (c 1 2) (c 1 2) (c 9 1) (c 3 100) [] ∷ []) ≡ twelve ∷ twelve ∷ refusal_text 11 ∷ []
unfolding twelve text characters computed
lopsided_right = refl

refused_texts : List (List ℕ)
refused_texts =
    -- a leading zero; 0; 49; no digit; a third digit; a character that is none
    text (c 2 2) (c 1 1) [] (c 2 11) []
    ∷ text (c 1 2) (c 2 1) [] (c 2 11) []
    ∷ text (c 1 0) (c 1 1) [] [] []
    ∷ text (c 2 49) (c 1 1) [] (replicate 49 49) []
    ∷ text (c 1 1) (c 2 49) [] (replicate 49 49) []
    ∷ text [] (c 1 1) [] (c 2 11) []
    ∷ text (c 3 110) (c 1 1) [] (c 2 11) []
    ∷ text (50 ∷ 32 ∷ []) (c 1 1) [] (c 2 11) []
    -- eight and ten structure characters; one that is no flag
    ∷ text (c 1 2) (c 1 1) (c 8 11) (c 2 11) []
    ∷ text (c 1 2) (c 1 1) (c 10 11) (c 2 11) []
    ∷ text (c 1 2) (c 1 1) (c 9 12) (c 2 11) []
    -- a cell too few; one too many; one that is no flag
    ∷ text (c 1 2) (c 1 1) [] (c 1 1) []
    ∷ text (c 1 2) (c 1 1) [] (c 3 111) []
    ∷ text (c 1 2) (c 1 1) [] (c 2 12) []
    -- a byte past the fourth line; a fifth line; no last byte 10; nothing
    ∷ text (c 1 2) (c 1 1) [] (c 2 11) (10 ∷ [])
    ∷ text (c 1 2) (c 1 1) [] (c 2 11) (line cells_name (c 2 11) [])
    ∷ line width_name (c 1 2) (line lines_name (c 1 1) (line structure_name [] (cells_name ++ c 2 11)))
    ∷ []
    -- lines in another order; byte 13 before byte 10
    ∷ line lines_name (c 1 1) (line width_name (c 1 2) (line structure_name [] (line cells_name (c 2 11) [])))
    ∷ text (50 ∷ 13 ∷ []) (c 1 1) [] (c 2 11) []
    ∷ []

-- refused=11
eleven : List ℕ
eleven = 114 ∷ 101 ∷ 102 ∷ 117 ∷ 115 ∷ 101 ∷ 100 ∷ 61 ∷ 49 ∷ 49 ∷ 10 ∷ []

refused_right : map clumps_of refused_texts ≡ map (λ _. eleven) refused_texts
unfolding refused_texts eleven text characters computed
refused_right = refl
