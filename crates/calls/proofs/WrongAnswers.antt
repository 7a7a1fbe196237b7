-- Answers, outputs, parents and sizes that demand 3's clauses refuse: those cheats of document 01's "For whoever tests it" that show there.
-- Assumes nothing.
use mathlib.Core.Path.{◌≡◌, refl}
use mathlib.Core.List.{List, [], ◌∷◌, ◌++◌}
use Prim.Native.Nat.{ℕ, ◌≤◌}
use native.Mathlib.Omega.{arith}
use lib.ListN.{replicate}
use Rattle.groups.specs.Groups.{one}
use Rattle.frame.specs.ChainRule.{label, size_of}
use Rattle.frame.specs.Runs.{run_of}
use Rattle.frame.specs.Kinds.{u8}
use Rattle.frame.specs.Plain.{Answer, fed, counted, refused, State}
use Rattle.frame.proofs.ChainRuleLaws.{label_right, label_group}
use Rattle.label.proofs.Worked.{computed, frame, cross, line, f, row}
use Rattle.calls.specs.Demand3.{Right, Reads, Sizes, Grouped}
use Rattle.calls.proofs.AfterLaws.{number_is}

-- after two lines of document 01's frame 1
abbrev two : State
two = record { structure = cross; fed = 2; cells = line ++ line }

-- joins padded with idle unions; runs invented with them; runs counted as n; the total of the feed before; 6
padded_joins : Right frame two (fed 2 (f 4 3 4)) → ⊥
unfolding computed
padded_joins P = let z : ◌≡◌ {A = ℕ} 4 5 = P.1.balance in omega arith

invented_runs : Right frame two (fed 2 (f 5 3 4)) → ⊥
unfolding computed
invented_runs P = let z : ◌≡◌ {A = ℕ} 5 4 = P.1.runs_defined in omega arith

runs_as_n : Right frame two (counted 4 (f 4 0 4)) → ⊥
unfolding computed
runs_as_n P = let z : ◌≡◌ {A = ℕ} 4 2 = P.0 in omega arith

total_kept : Right frame two (fed 2 (f 4 2 2)) → ⊥
unfolding computed
total_kept P = let z : ◌≡◌ {A = ℕ} 2 4 = P.1.total in omega arith

six : Right frame two (refused 6) → ⊥
six P = P refl

-- all nonzero cells are numbered 1; each run apart; numbers do not come by first appearance; unfed cells are left as they were
all_one : (a : Answer) → Reads frame two u8 a (1 ∷ 0 ∷ 1 ∷ 1 ∷ 0 ∷ 1 ∷ 0 ∷ 0 ∷ 0 ∷ []) → ⊥
unfolding computed
all_one a R = let z : ◌≡◌ {A = ℕ} 1 2 = number_is frame two u8 a _ R 2 (omega arith) in omega arith

each_apart : (a : Answer) → Reads frame two u8 a (1 ∷ 0 ∷ 2 ∷ 3 ∷ 0 ∷ 4 ∷ 0 ∷ 0 ∷ 0 ∷ []) → ⊥
unfolding computed
each_apart a R = let z : ◌≡◌ {A = ℕ} 3 1 = number_is frame two u8 a _ R 3 (omega arith) in omega arith

out_of_order : (a : Answer) → Reads frame two u8 a (2 ∷ 0 ∷ 1 ∷ 2 ∷ 0 ∷ 1 ∷ 0 ∷ 0 ∷ 0 ∷ []) → ⊥
unfolding computed
out_of_order a R = let z : ◌≡◌ {A = ℕ} 2 1 = number_is frame two u8 a _ R 0 (omega arith) in omega arith

leaves_unfed : (a : Answer) → Reads frame two u8 a (1 ∷ 0 ∷ 2 ∷ 1 ∷ 0 ∷ 2 ∷ 5 ∷ 5 ∷ 5 ∷ []) → ⊥
unfolding computed
leaves_unfed a R = let z : ◌≡◌ {A = ℕ} 5 0 = number_is frame two u8 a _ R 6 (omega arith) in omega arith

-- the sizes of numbers 0 and 1, in place of 1 and 2
shifted : (a : Answer) → Sizes frame two a (5 ∷ 2 ∷ []) → ⊥
unfolding computed
shifted a S =
    let z : ◌≡◌ {A = ℕ} 5 2 = S.counts (label frame cross (line ++ line)) (label_right frame cross (line ++ line)) 1 (omega arith)
    (omega arith) in
    omega arith

-- the words after those two lines, with any parents of their four runs, and y and z as the sizes of the first two. Cells 0 and 3 are of
-- runs 0 and 2, and make one group; cells 2 and 5 are of runs 1 and 3, and make another
abbrev words : ℕ → ℕ → ℕ → ℕ → ℕ → ℕ → List ℕ
words a b c d y z = 0 ∷ 2 ∷ 4 ∷ 7 ∷ row 0 1 a 7 y ++ row 2 3 b 7 z ++ row 0 1 c 7 0 ++ row 2 3 d 7 0 ++ replicate 10 7

abbrev parents : ℕ → ℕ → ℕ → ℕ → List ℕ
parents a b c d = words a b c d 2 2

-- all runs have one root; each run is its own; run 3 is the root of runs 1 and 3, by a parent that is above its run
one_group : Grouped frame two (parents 0 0 0 0) → ⊥
unfolding computed run_of
one_group G =
    let C = (G.one_root 0 2 refl refl).0 refl in
    let z : ◌≡◌ {A = ℕ} 1 2 = (label_group frame cross (line ++ line) 0 2 (omega arith) (omega arith) refl refl).1 (refl, C) in
    omega arith

own_roots : Grouped frame two (parents 0 1 2 3) → ⊥
unfolding computed run_of
own_roots G =
    let C = (label_group frame cross (line ++ line) 0 3 (omega arith) (omega arith) refl refl).0 refl in
    let z : ◌≡◌ {A = ℕ} 0 2 = (G.one_root 0 3 refl refl).1 C.1 in
    omega arith

larger_root : Grouped frame two (parents 0 3 0 3) → ⊥
unfolding computed run_of
larger_root G = let z : 3 ≤ 1 = (G.smallest 2 refl).least 2 (refl, one) in omega arith

parent_above : Grouped frame two (parents 0 3 0 3) → ⊥
unfolding computed
parent_above G = let z : 3 ≤ 1 = G.at_most 1 (omega arith) in omega arith

-- a root's fifth word is its run's length alone; it is the sum of both groups
own_length : Grouped frame two (words 0 1 0 1 1 2) → ⊥
unfolding computed run_of size_of
own_length G =
    let z : ◌≡◌ {A = ℕ} 1 2 = G.sized (label frame cross (line ++ line)) (label_right frame cross (line ++ line)) 0 refl in
    omega arith

both_groups : Grouped frame two (words 0 1 0 1 2 4) → ⊥
unfolding computed run_of size_of
both_groups G =
    let z : ◌≡◌ {A = ℕ} 4 2 = G.sized (label frame cross (line ++ line)) (label_right frame cross (line ++ line)) 2 refl in
    omega arith
