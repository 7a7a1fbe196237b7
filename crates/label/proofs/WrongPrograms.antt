-- Programs that a promise refuses: the cheats of document 01's "For whoever tests it", and more. What is not spoilt is left open.
-- Assumes nothing.
use mathlib.Core.Path.{◌≡◌, refl, ap}
use mathlib.Core.Bool.{true, false}
use mathlib.Core.List.{List, [], ◌∷◌, ◌++◌}
use Prim.Native.Nat.{ℕ, suc, ◌≤◌, ◌<◌}
use native.Mathlib.Omega.{arith}
use lib.ListN.{length, get_or, set, replicate}
use Rattle.frame.specs.Kinds.{u8}
use Rattle.frame.specs.declared.Figures.{Figures}
use Rattle.frame.specs.Plain.{Answer, fed, counted, refused}
use Rattle.frame.specs.Words.{parent_place, name_place, size_place, parent_of}
use Rattle.frame.proofs.SetLaws.{set_all_other, set_all_at}
use Rattle.forest.specs.Forest.{number_in}
use Rattle.label.specs.declared.Session.{Session}
use Rattle.label.specs.Opening.{OpenPromise}
use Rattle.label.specs.Feeding.{FeedPromise}
use Rattle.label.specs.Widening.{WidenPromise}
use Rattle.label.specs.Reading.{with_names, ReadPromise, SizesPromise}
use Rattle.label.specs.WholeFrame.{FramePromise}
use Rattle.label.proofs.CallFunctions.{do_open}
use Rattle.label.proofs.Worked.{computed, frame, cross, memory, line, whole, f, begun, one, two, junk, wide, wide_words, put, held}
use Rattle.label.proofs.Worked.{ones, bud, sized, together}

-- word j
abbrev word : ℕ → List ℕ → ℕ
word j ws = get_or ws j 0

abbrev joins_said : Answer → ℕ
joins_said (fed l g) = g.joins
joins_said (counted n g) = g.joins
joins_said (refused c) = 0

abbrev cells_said : Answer → ℕ
cells_said (fed l g) = g.cells
cells_said (counted n g) = g.cells
cells_said (refused c) = 0

abbrev number_said : Answer → ℕ
number_said (fed l g) = 0
number_said (counted n g) = 0
number_said (refused c) = c

-- openings

-- it always refuses
always_refuses : (n : ℕ) (s : Session) (ws : List ℕ) → OpenPromise frame cross memory (suc n) s ws → ⊥
unfolding computed
always_refuses n s ws P = let z : suc n ≡ 0 = P.said in omega arith

-- it clears all words
clears : (n : ℕ) (s : Session) → OpenPromise frame cross memory n s (replicate 34 0) → ⊥
unfolding computed
clears n s P = let z : ◌≡◌ {A = ℕ} 0 7 = ap (word 1) P.words in omega arith

-- refused, it writes word 0
opens_anyway : (n : ℕ) (s : Session) → OpenPromise frame cross (replicate 33 7) n s (0 ∷ replicate 32 7) → ⊥
unfolding computed
opens_anyway n s P = let z : ◌≡◌ {A = ℕ} 0 7 = ap (word 0) P.words in omega arith

-- it takes a structure with one arm missing; it looks for that after the count of words
armless : List ℕ
armless = set cross 7 0

takes_lopsided : (s : Session) (ws : List ℕ) → OpenPromise frame armless memory 0 s ws → ⊥
unfolding armless computed
takes_lopsided s ws P = let z : ◌≡◌ {A = ℕ} 0 12 = P.said in omega arith

words_before_structure : (s : Session) (ws : List ℕ) → OpenPromise frame armless (replicate 33 7) 5 s ws → ⊥
unfolding armless computed
words_before_structure s ws P = let z : ◌≡◌ {A = ℕ} 5 12 = P.said in omega arith

-- feeds: the second line, and the third

abbrev Second : Answer → Session → List ℕ → Type 0
Second = FeedPromise one.session one.words 1 line

abbrev Third : Answer → Session → List ℕ → Type 0
Third = FeedPromise two.session two.words 1 whole

-- it unites lines only in the first call: the second's runs stay apart
first_only : (a : Answer) (s : Session) → Second a s (set (put (parent_place 3 2) 2) (parent_place 3 3) 3) → ⊥
unfolding begun one two computed
first_only a s P = let z : ◌≡◌ {A = ℕ} 2 0 = (P.accepted refl).grouped 2 (omega arith) in omega arith

-- it unites all
unites_all : (a : Answer) (s : Session) → Second a s (set (put (parent_place 3 1) 0) (parent_place 3 3) 0) → ⊥
unfolding begun one two computed
unites_all a s P = let z : ◌≡◌ {A = ℕ} 0 1 = (P.accepted refl).grouped 1 (omega arith) in omega arith

-- it feeds a record that holds a lopsided structure; it answers that one's feed by 12
abbrev Armless : Answer → Session → List ℕ → Type 0
Armless = FeedPromise (record {
  rank = one.session.rank;
  shape = one.session.shape;
  structure = set one.session.structure 7 0;
  fed = one.session.fed;
  figures = one.session.figures;
}) one.words 1 line

feeds_lopsided : (l : ℕ) (g : Figures) (s : Session) (ws : List ℕ) → Armless (fed l g) s ws → ⊥
unfolding begun one computed
feeds_lopsided l g s ws P = let z : ◌≡◌ {A = ℕ} 0 6 = ap number_said P.said in omega arith

twelve_of_a_feed : (s : Session) (ws : List ℕ) → Armless (refused 12) s ws → ⊥
unfolding begun one computed
twelve_of_a_feed s ws P = let z : ◌≡◌ {A = ℕ} 12 6 = ap number_said P.said in omega arith

-- it stores nothing in the record; nothing in the words
stores_nothing : (a : Answer) (ws : List ℕ) → Second a one.session ws → ⊥
unfolding begun one computed
stores_nothing a ws P = let z : ◌≡◌ {A = ℕ} 1 2 = ap (λ (x : Session). x.fed) P.session in omega arith

stores_no_words : (a : Answer) (s : Session) → Second a s one.words → ⊥
unfolding begun one computed
stores_no_words a s P = let z : ◌≡◌ {A = ℕ} 7 4 = (P.accepted refl).others 2 (λ r h. (omega arith, omega arith)) in omega arith

-- joins invented, or padded with idle unions: in the record, in the answer
padded_joins : (a : Answer) (ws : List ℕ) → Third a (held 3 5 5 7) ws → ⊥
unfolding begun one two computed
padded_joins a ws P = let z : ◌≡◌ {A = ℕ} 5 4 = ap (λ (x : Session). x.figures.joins) P.session in omega arith

told_wrong : (s : Session) (ws : List ℕ) → Third (fed 3 (f 5 5 7)) s ws → ⊥
unfolding begun one two computed
told_wrong s ws P = let z : ◌≡◌ {A = ℕ} 5 4 = ap joins_said P.said in omega arith

-- the cells of the last run are forgotten; runs are told for cells; the record keeps the total of the feed before
last_forgotten : (s : Session) (ws : List ℕ) → Third (fed 3 (f 5 4 4)) s ws → ⊥
unfolding begun one two computed
last_forgotten s ws P = let z : ◌≡◌ {A = ℕ} 4 7 = ap cells_said P.said in omega arith

runs_for_cells : (s : Session) (ws : List ℕ) → Third (fed 3 (f 5 4 5)) s ws → ⊥
unfolding begun one two computed
runs_for_cells s ws P = let z : ◌≡◌ {A = ℕ} 5 7 = ap cells_said P.said in omega arith

total_kept : (a : Answer) (ws : List ℕ) → Third a (held 3 5 4 4) ws → ⊥
unfolding begun one two computed
total_kept a ws P = let z : ◌≡◌ {A = ℕ} 4 7 = ap (λ (x : Session). x.figures.cells) P.session in omega arith

-- a record whose total is not the sum of its run lengths is fed
feeds_any_total : (l : ℕ) (g : Figures) (s : Session) (ws : List ℕ) → FeedPromise (held 2 4 2 5) (sized 2 3) 1 whole (fed l g) s ws → ⊥
unfolding begun one two computed
feeds_any_total l g s ws P = let z : ◌≡◌ {A = ℕ} 0 6 = ap number_said P.said in omega arith

-- 7 with a line still to come
early_seven : (s : Session) (ws : List ℕ) → Third (refused 7) s ws → ⊥
unfolding begun one two computed
early_seven s ws P = let z : ◌≡◌ {A = ℕ} 7 0 = ap number_said P.said in omega arith

-- it changes a name; the end of a run that was there
changes_name : (a : Answer) (s : Session) (ws : List ℕ) → Third a s ws → word 7 ws ≡ 1 → ⊥
unfolding begun one two computed
changes_name a s ws P e = let z : word 7 ws ≡ 7 = (P.accepted refl).others 7 (λ r h. (omega arith, omega arith)) in omega arith

changes_run : (a : Answer) (s : Session) (ws : List ℕ) → Third a s ws → word 5 ws ≡ 2 → ⊥
unfolding begun one two computed
changes_run a s ws P e = let z : word 5 ws ≡ 1 = (P.accepted refl).others 5 (λ r h. (omega arith, omega arith)) in omega arith

-- run 1's parent is run 4
parent_above : (a : Answer) (s : Session) (ws : List ℕ) → Third a s ws → word (parent_place 3 1) ws ≡ 4 → ⊥
unfolding begun one two computed
parent_above a s ws P e = let z : word (parent_place 3 1) ws ≤ 1 = (P.accepted refl).parents 1 (omega arith) in omega arith

-- run 2 is the root of runs 0 and 2
larger_root : (a : Answer) (s : Session) → Second a s (set (put (parent_place 3 0) 2) (parent_place 3 2) 2) → ⊥
unfolding begun one two computed
larger_root a s P = let z : ◌≡◌ {A = ℕ} 2 0 = (P.accepted refl).grouped 2 (omega arith) in omega arith

-- a feed of no lines halves the way from run 3 over run 1 to run 0: the grouping stands, but a word changes
halves : (a : Answer) (s : Session) → FeedPromise (held 2 4 3 4) together 0 [] a s (set together (parent_place 3 3) 0) → ⊥
unfolding begun one two computed
halves a s P = let z : ◌≡◌ {A = ℕ} 0 1 = ap (word (parent_place 3 3)) ((P.accepted refl).no_lines refl) in omega arith

-- fifth words. The third line joins the groups of runs 0 and 1, which have 2 cells each, with its own 3: a join overwrites the root's word;
-- the new run gets 1; the larger root gets the sum
overwrites : (a : Answer) (s : Session) (ws : List ℕ) → Third a s ws → word (size_place 3 0) ws ≡ 2 → ⊥
unfolding begun one two computed
overwrites a s ws P e = let z : word (size_place 3 0) ws ≡ 7 = (P.accepted refl).sized 0 (omega arith) refl in omega arith

new_run_is_one : (a : Answer) (s : Session) (ws : List ℕ) → Third a s ws → word (size_place 3 0) ws ≡ 5 → ⊥
unfolding begun one two computed
new_run_is_one a s ws P e = let z : word (size_place 3 0) ws ≡ 7 = (P.accepted refl).sized 0 (omega arith) refl in omega arith

-- of a record of other origin it counts cells, where the words are to be added
abbrev Other : Answer → Session → List ℕ → Type 0
Other = FeedPromise two.session (sized 3 1) 1 (true ∷ false ∷ false ∷ [])

counts_cells : (a : Answer) (s : Session) (ws : List ℕ) → Other a s ws → word (size_place 3 0) ws ≡ 3 → ⊥
unfolding begun one two computed
counts_cells a s ws P e = let z : word (size_place 3 0) ws ≡ 4 = (P.accepted refl).sized 0 (omega arith) refl in omega arith

changes_other_root : (a : Answer) (s : Session) (ws : List ℕ) → Other a s ws → word (size_place 3 1) ws ≡ 2 → ⊥
unfolding begun one two computed
changes_other_root a s ws P e = let z : word (size_place 3 1) ws ≡ 1 = (P.accepted refl).sized 1 (omega arith) refl in omega arith

-- it feeds a record whose roots' words do not add up to the total; whose sum is the total in 32 bits alone
feeds_any_sizes : (l : ℕ) (g : Figures) (s : Session) (ws : List ℕ) → FeedPromise two.session (sized 3 2) 1 whole (fed l g) s ws → ⊥
unfolding begun one two computed
feeds_any_sizes l g s ws P = let z : ◌≡◌ {A = ℕ} 0 6 = ap number_said P.said in omega arith

feeds_wrapped_sizes : (l : ℕ) (g : Figures) (s : Session) (ws : List ℕ)
    → FeedPromise two.session (sized 2147483650 2147483650) 1 whole (fed l g) s ws → ⊥
unfolding begun one two computed
feeds_wrapped_sizes l g s ws P = let z : ◌≡◌ {A = ℕ} 0 6 = ap number_said P.said in omega arith

-- two lines where one is left: refused, it writes a line's start; it stores the lines
writes_refused : (a : Answer) (s : Session) (ws : List ℕ) → FeedPromise two.session two.words 2 (line ++ line) a s ws → word 3 ws ≡ 6
    → ⊥
unfolding begun one two computed
writes_refused a s ws P e = let h : 0 < 7 = omega arith in let z : word 3 ws ≡ 7 = ap (word 3) (P.refusal h) in omega arith

stores_refused : (a : Answer) (ws : List ℕ) → FeedPromise two.session two.words 2 (line ++ line) a (held 4 8 6 8) ws → ⊥
unfolding begun one two computed
stores_refused a ws P = let z : ◌≡◌ {A = ℕ} 4 2 = ap (λ (x : Session). x.fed) P.session in omega arith

-- an unsound record is fed
feeds_unsound : (l : ℕ) (g : Figures) (s : Session) (ws : List ℕ) → FeedPromise two.session (put 0 1) 1 whole (fed l g) s ws → ⊥
unfolding begun one two computed
feeds_unsound l g s ws P = let z : ◌≡◌ {A = ℕ} 0 6 = ap number_said P.said in omega arith

-- structure changes: from the cross to nine ones, of two runs that touch at a corner

abbrev Widening : Answer → Session → List ℕ → Type 0
Widening = WidenPromise bud.session bud.words ones

-- it unites nothing
unites_nothing : (a : Answer) (s : Session) → Widening a s bud.words → ⊥
unfolding begun bud computed
unites_nothing a s P = let z : ◌≡◌ {A = ℕ} 1 0 = (P.accepted refl).grouped 1 (omega arith) in omega arith

-- it keeps the old structure in the record; it writes the old figures there, and in the answer
keeps_structure : (a : Answer) (ws : List ℕ) → Widening a (held 2 2 1 2) ws → ⊥
unfolding begun bud computed
keeps_structure a ws P = let z : ◌≡◌ {A = ℕ} 0 1 = ap (λ (x : Session). word 0 x.structure) P.session in omega arith

keeps_figures : (s : Session) (a : Answer) (ws : List ℕ) → Widening a s ws → s.figures.joins ≡ 0 → ⊥
unfolding begun bud computed
keeps_figures s a ws P e = let z : s.figures.joins ≡ 1 = ap (λ (x : Session). x.figures.joins) P.session in omega arith

tells_old_joins : (s : Session) (ws : List ℕ) → Widening (fed 2 (f 2 0 2)) s ws → ⊥
unfolding begun bud computed
tells_old_joins s ws P = let z : ◌≡◌ {A = ℕ} 0 1 = ap joins_said P.said in omega arith

-- the root's fifth word is left; a name is changed
leaves_size : (a : Answer) (s : Session) (ws : List ℕ) → Widening a s ws → word (size_place 3 0) ws ≡ 1 → ⊥
unfolding begun bud computed
leaves_size a s ws P e = let z : word (size_place 3 0) ws ≡ 2 = (P.accepted refl).sized 0 (omega arith) refl in omega arith

renames : (a : Answer) (s : Session) (ws : List ℕ) → Widening a s ws → word (name_place 3 1) ws ≡ 1 → ⊥
unfolding begun bud computed
renames a s ws P e =
    let z : word (name_place 3 1) ws ≡ 7 = (P.accepted refl).others (name_place 3 1) (λ r h. (omega arith, omega arith)) in omega arith

-- of a record of other origin it unites over the grouping held; it adds to the joins; it adds to the sizes
abbrev Dropping : Answer → Session → List ℕ → Type 0
Dropping = WidenPromise (held 2 4 3 4) together cross

keeps_groups : (a : Answer) (s : Session) → Dropping a s together → ⊥
unfolding begun one two computed
keeps_groups a s P = let z : ◌≡◌ {A = ℕ} 0 1 = (P.accepted refl).grouped 1 (omega arith) in omega arith

adds_joins : (s : Session) (ws : List ℕ) → Dropping (fed 2 (f 4 5 4)) s ws → ⊥
unfolding begun one two computed
adds_joins s ws P = let z : ◌≡◌ {A = ℕ} 5 2 = ap joins_said P.said in omega arith

adds_sizes : (a : Answer) (s : Session) (ws : List ℕ) → Dropping a s ws → word (size_place 3 0) ws ≡ 4 → ⊥
unfolding begun one two computed
adds_sizes a s ws P e = let z : word (size_place 3 0) ws ≡ 2 = (P.accepted refl).sized 0 (omega arith) refl in omega arith

-- it takes a structure without an arm; one with other bytes to the sides; it answers 19 where the structure is lopsided too; refused, it
-- has the new structure
takes_narrower : (l : ℕ) (g : Figures) (s : Session) (ws : List ℕ)
    → WidenPromise bud.session bud.words (set (set cross 1 0) 7 0) (fed l g) s ws → ⊥
unfolding begun bud computed
takes_narrower l g s ws P = let z : ◌≡◌ {A = ℕ} 0 19 = ap number_said P.said in omega arith

abbrev column : List ℕ
column = set (set cross 3 0) 5 0

takes_other_left : (l : ℕ) (g : Figures) (s : Session) (ws : List ℕ)
    → WidenPromise (do_open frame column (replicate 49 7)).session (do_open frame column (replicate 49 7)).words ones (fed l g) s ws → ⊥
unfolding computed
takes_other_left l g s ws P = let z : ◌≡◌ {A = ℕ} 0 19 = ap number_said P.said in omega arith

nineteen_first : (s : Session) (ws : List ℕ) → WidenPromise bud.session bud.words (set cross 7 0) (refused 19) s ws → ⊥
unfolding begun bud computed
nineteen_first s ws P = let z : ◌≡◌ {A = ℕ} 19 12 = ap number_said P.said in omega arith

widens_refused : (a : Answer) (s : Session) (ws : List ℕ) → WidenPromise bud.session bud.words (set cross 4 0) a s ws
    → word 4 s.structure ≡ 0 → ⊥
unfolding begun bud computed
widens_refused a s ws P e = let z : word 4 s.structure ≡ 1 = ap (λ (x : Session). word 4 x.structure) P.session in omega arith

-- readings after two lines

abbrev Reading : Answer → Session → List ℕ → List ℕ → Type 0
Reading = ReadPromise u8 two.session two.words junk

-- it numbers all nonzero cells 1; each run apart; unfed cells are left as they were
all_one : (a : Answer) (s : Session) (ws : List ℕ) → Reading a s ws (1 ∷ 0 ∷ 1 ∷ 1 ∷ 0 ∷ 1 ∷ 0 ∷ 0 ∷ 0 ∷ []) → ⊥
unfolding begun one two computed
all_one a s ws P = let z : ◌≡◌ {A = ℕ} 1 2 = ap (word 2) P.output in omega arith

each_apart : (a : Answer) (s : Session) (ws : List ℕ) → Reading a s ws (1 ∷ 0 ∷ 2 ∷ 3 ∷ 0 ∷ 4 ∷ 0 ∷ 0 ∷ 0 ∷ []) → ⊥
unfolding begun one two computed
each_apart a s ws P = let z : ◌≡◌ {A = ℕ} 3 1 = ap (word 3) P.output in omega arith

leaves_unfed : (a : Answer) (s : Session) (ws : List ℕ) → Reading a s ws (1 ∷ 0 ∷ 2 ∷ 1 ∷ 0 ∷ 2 ∷ 5 ∷ 5 ∷ 5 ∷ []) → ⊥
unfolding begun one two computed
leaves_unfed a s ws P = let z : ◌≡◌ {A = ℕ} 5 0 = ap (word 6) P.output in omega arith

-- the cells are told of the lines that are not fed too
all_cells_told : (s : Session) (ws out : List ℕ) → Reading (counted 2 (f 4 2 9)) s ws out → ⊥
unfolding begun one two computed
all_cells_told s ws out P = let z : ◌≡◌ {A = ℕ} 9 4 = ap cells_said P.said in omega arith

-- 10 before n is compared
early_ten : (s : Session) (ws out : List ℕ) → Reading (refused 10) s ws out → ⊥
unfolding begun one two computed
early_ten s ws out P = let z : ◌≡◌ {A = ℕ} 10 0 = ap number_said P.said in omega arith

-- the name of run 2 is its own number, from 1; its parent changes; another record comes back
names_runs : (a : Answer) (s : Session) (ws out : List ℕ) → Reading a s ws out → word 15 ws ≡ 3 → ⊥
unfolding begun one two computed
names_runs a s ws out P e = let z : word 15 ws ≡ 1 = ap (word 15) P.words in omega arith

changes_parent : (a : Answer) (s : Session) (ws out : List ℕ) → Reading a s ws out → word 14 ws ≡ 2 → ⊥
unfolding begun one two computed
changes_parent a s ws out P e = let z : word 14 ws ≡ 0 = ap (word 14) P.words in omega arith

another_record : (a : Answer) (ws out : List ℕ) → Reading a (held 2 4 3 4) ws out → ⊥
unfolding begun one two computed
another_record a ws out P = let z : ◌≡◌ {A = ℕ} 3 2 = ap (λ (x : Session). x.figures.joins) P.session in omega arith

-- refused with 9, it writes the output; with 10, it names runs
writes_nine : (a : Answer) (s : Session) (ws : List ℕ)
    → ReadPromise u8 two.session two.words (replicate 8 5) a s ws (1 ∷ 0 ∷ 2 ∷ 1 ∷ 0 ∷ 2 ∷ 0 ∷ 0 ∷ []) → ⊥
unfolding begun one two computed
writes_nine a s ws P = let z : ◌≡◌ {A = ℕ} 1 5 = ap (word 0) P.output in omega arith

names_ten : (a : Answer) (s : Session) (ws out : List ℕ) → ReadPromise u8 wide wide_words (replicate 256 5) a s ws out → word 5 ws ≡ 1 → ⊥
unfolding computed
names_ten a s ws out P e = let z : word 5 ws ≡ 7 = ap (word 5) P.words in omega arith

-- size calls after two lines

abbrev Sizing : Answer → Session → List ℕ → List ℕ → Type 0
Sizing = SizesPromise two.session two.words (5 ∷ 5 ∷ [])

-- the sizes of numbers 0 and 1, in place of 1 and 2; no names are written
shifted : (a : Answer) (s : Session) (ws : List ℕ) → Sizing a s ws (5 ∷ 2 ∷ []) → ⊥
unfolding begun one two computed
shifted a s ws P = let z : ◌≡◌ {A = ℕ} 5 2 = ap (word 0) P.output in omega arith

-- no cells are told
no_cells_told : (s : Session) (ws out : List ℕ) → Sizing (counted 2 (f 4 2 0)) s ws out → ⊥
unfolding begun one two computed
no_cells_told s ws out P = let z : ◌≡◌ {A = ℕ} 0 4 = ap cells_said P.said in omega arith

-- of a record of other origin: the larger number's size first; the cells are counted
abbrev OtherSizing : Answer → Session → List ℕ → List ℕ → Type 0
OtherSizing = SizesPromise two.session (sized 3 1) (5 ∷ 5 ∷ [])

sizes_turned : (a : Answer) (s : Session) (ws : List ℕ) → OtherSizing a s ws (1 ∷ 3 ∷ []) → ⊥
unfolding begun one two computed
sizes_turned a s ws P = let z : ◌≡◌ {A = ℕ} 1 3 = ap (word 0) P.output in omega arith

sizes_counted : (a : Answer) (s : Session) (ws : List ℕ) → OtherSizing a s ws (2 ∷ 2 ∷ []) → ⊥
unfolding begun one two computed
sizes_counted a s ws P = let z : ◌≡◌ {A = ℕ} 2 3 = ap (word 0) P.output in omega arith

names_none : (a : Answer) (s : Session) (out : List ℕ) → Sizing a s two.words out → ⊥
unfolding begun one two computed
names_none a s out P = let z : ◌≡◌ {A = ℕ} 7 1 = ap (word 7) P.words in omega arith

-- whole frames

abbrev Labels : List ℕ → Answer → List ℕ → List ℕ → Type 0
Labels out = FramePromise u8 frame cross memory (line ++ line ++ whole) out

-- each run is numbered apart; a join too many is answered
whole_apart : (a : Answer) (ws : List ℕ) → Labels junk a ws (1 ∷ 0 ∷ 2 ∷ 3 ∷ 0 ∷ 4 ∷ 5 ∷ 5 ∷ 5 ∷ []) → ⊥
unfolding computed
whole_apart a ws P = let z : ◌≡◌ {A = ℕ} 2 1 = ap (word 2) P.output in omega arith

whole_told : (ws out : List ℕ) → Labels junk (counted 1 (f 5 5 7)) ws out → ⊥
unfolding computed
whole_told ws out P = let z : ◌≡◌ {A = ℕ} 5 4 = ap joins_said P.said in omega arith

-- the cells of the last line alone are answered
whole_last_cells : (ws out : List ℕ) → Labels junk (counted 1 (f 5 4 3)) ws out → ⊥
unfolding computed
whole_last_cells ws out P = let z : ◌≡◌ {A = ℕ} 3 7 = ap cells_said P.said in omega arith

-- accepted, it stores no line's start; it names no run
whole_stores : (a : Answer) (ws out : List ℕ) → Labels junk a ws out → word 1 ws ≡ 7 → ⊥
unfolding computed
whole_stores a ws out P e =
    let F = P.accepted refl in
    let v = F.fed_words in
    let s : F.session ≡ held 3 5 4 7 = F.lines_fed.session in
    let n : ws ≡ with_names (held 3 5 4 7) v = rw s at F.names in
    let names : word 1 (with_names (held 3 5 4 7) v) ≡ word 1 v = set_all_other (name_place 3) (number_in (parent_of 3 v)) 5 v 1
    (λ r h q. omega arith) in
    let z : word 1 v ≡ 2 = (F.lines_fed.accepted refl).others 1 (λ r h. (omega arith, omega arith)) in
    omega (arith, ap (word 1) n)

whole_names : (a : Answer) (ws out : List ℕ) → Labels junk a ws out → word 7 ws ≡ 7 → ⊥
unfolding computed
whole_names a ws out P e =
    let F = P.accepted refl in
    let v = F.fed_words in
    let s : F.session ≡ held 3 5 4 7 = F.lines_fed.session in
    let n : ws ≡ with_names (held 3 5 4 7) v = rw s at F.names in
    let long : length v ≡ 34 = (F.lines_fed.accepted refl).long in
    let low : word 6 v ≤ 0 = (F.lines_fed.accepted refl).parents 0 (omega arith) in
    let root : word 6 v ≡ 0 = omega arith in
    let names : word 7 (with_names (held 3 5 4 7) v) ≡ number_in (parent_of 3 v) 0 = set_all_at (name_place 3) (number_in (parent_of 3 v)) 5 v
    (λ i j a b q. omega arith) 0 (omega arith) (omega arith) in
    let z : number_in (parent_of 3 v) 0 ≡ 1 = rw root in
    omega (arith, ap (word 7) n)

-- it labels by a structure with one arm missing; it looks for that after the count of cells
whole_lopsided : (n : ℕ) (g : Figures) (ws out : List ℕ)
    → FramePromise u8 frame armless memory (line ++ line ++ whole) junk (counted n g) ws out → ⊥
unfolding armless computed
whole_lopsided n g ws out P = let z : ◌≡◌ {A = ℕ} 0 12 = ap number_said P.said in omega arith

cells_before_structure : (ws out : List ℕ) → FramePromise u8 frame armless memory line junk (refused 8) ws out → ⊥
unfolding armless computed
cells_before_structure ws out P = let z : ◌≡◌ {A = ℕ} 8 12 = ap number_said P.said in omega arith

-- refused with 9, it has opened: word 0 is written
whole_nine : (a : Answer) (out : List ℕ) → Labels (5 ∷ []) a (set memory 0 0) out → ⊥
unfolding computed
whole_nine a out P = let h : 0 < 9 = omega arith in let z : ◌≡◌ {A = ℕ} 0 7 = ap (word 0) (P.refusal h) in omega arith
