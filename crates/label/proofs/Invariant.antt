-- What holds of a record and its words after every list of calls from an accepted opening, and what follows from it.
-- Assumes nothing.
use mathlib.Core.Path.{◌≡◌, refl, sym, ap, ◌∙◌, subst}
use mathlib.Core.Bool.{Bool, true, false, cond}
use mathlib.Core.List.{List, [], map}
use Prim.Native.Nat.{ℕ, suc, ◌+◌, ◌-◌, ◌<◌}
use native.Mathlib.Nat.{le_refl}
use native.Mathlib.Omega.{arith}
use borrow.Author.Tests.{eqb-true, eq-eqb}
use lib.Dec.{eqb}
use lib.ListN.{length, get_or, length-map}
use lib.Seq.{ext_get_or}
use Rattle.groups.specs.Groups.{Edge, rep, group_sum, groups, visit}
use Rattle.groups.specs.Numbers.{number}
use Rattle.groups.proofs.CountLaws.{count_same, count_on, place, place_right}
use Rattle.groups.proofs.SumLaws.{sum_same}
use Rattle.frame.specs.Shape.{size}
use Rattle.frame.specs.ChainRule.{nonzero, group_count, label, range, labels, size_of, sizes_of}
use Rattle.frame.specs.Runs.{runs, run_of, run_length}
use Rattle.frame.specs.Touches.{frame_touches}
use Rattle.frame.specs.Kinds.{Number, write}
use Rattle.frame.specs.Plain.{State, groups_of, figures}
use Rattle.frame.specs.Words.{parent_of, size_word, stored_run}
use Rattle.frame.proofs.RunGroupLaws.{groups_visited, number_visited}
use Rattle.frame.proofs.ChainRuleLaws.{length_range}
use Rattle.frame.proofs.ListLaws.{same_map, map_twice, listed_from}
use Rattle.frame.proofs.PlainLaws.{figures_same}
use Rattle.forest.specs.Forest.{root_of, own, roots, number_in, size_list, Sums}
use Rattle.forest.proofs.ForestLaws.{root_stays, number_root, roots_groups, number_groups}
use Rattle.forest.proofs.SizeListLaws.{length_list, list_at}
use Rattle.label.specs.declared.Session.{Session}
use Rattle.label.specs.Record.{shape_of, structure_of, lines_of}
use Rattle.label.specs.Sound.{Sound}
use Rattle.label.specs.Held.{cells_of, holder_of, root_count, number_at, numbers_held, sizes_held}
use Rattle.label.proofs.SoundLaws.{n_joins}
use Rattle.label.proofs.StoreLaws.{Stores, stores_below, stores_holder}
use Rattle.label.proofs.SoundCells.{sound_stores, runs_held, cells_held}
use Rattle.label.proofs.SizeLaws.{cells_numbered}

-- a root's number is one more than the roots before it
root_number : (p : ℕ → ℕ) (r : ℕ) → p r ≡ r → number_in p r ≡ suc (roots p r)
unfolding number_in roots own
root_number p r e = ap (λ (x : ℕ). roots p (suc x)) (root_stays p r e) ∙ count_on (own p) r (eq-eqb (p r) r e)

-- the plain session's state that a record and its words hold
abbrev pub state_of : Session → List ℕ → State
state_of s ws = record { structure = structure_of s; fed = s.fed; cells = cells_of s ws }

-- the touches of the lines fed, visited one after the other
abbrev pub visited : Session → List ℕ → List Edge
visited s ws = visit (frame_touches (shape_of s) (structure_of s) (cells_of s ws) 0 s.fed) []

-- run r's length
abbrev pub length_of : Session → List ℕ → ℕ → ℕ
length_of s ws r = run_length (stored_run (lines_of s) ws r)

-- the record is sound, the grouping that it holds is that of the touches, and a root's fifth word is the sum of its group's run lengths,
-- which is the group's count of cells (`inv_count`)
pub record Inv (s : Session) (ws : List ℕ) : Type 0 where
  pub is_sound : Sound s ws
  pub grouped : (r : ℕ) → r < s.figures.runs → root_of (parent_of (lines_of s) ws) r ≡ rep (visited s ws) r
  pub sized : Sums (root_of (parent_of (lines_of s) ws)) (size_word (lines_of s) ws) (length_of s ws) s.figures.runs

module _ (s : Session) (ws : List ℕ) (I : Inv s ws) where
  abbrev shape : List ℕ
  shape = shape_of s

  abbrev structure : List ℕ
  structure = structure_of s

  abbrev cells : List Bool
  cells = cells_of s ws

  abbrev parent : ℕ → ℕ
  parent = parent_of (lines_of s) ws

  H : Stores s ws cells
  H = sound_stores s ws I.is_sound

  pub inv_runs : s.figures.runs ≡ runs shape structure cells
  inv_runs = runs_held s ws I.is_sound

  -- n is the plain session's
  pub inv_n : root_count s ws ≡ groups_of shape (state_of s ws)
  unfolding root_count groups_of
  inv_n =
      roots_groups parent s.figures.runs I.is_sound.words.parents (visited s ws) I.grouped s.figures.runs
      (le_refl s.figures.runs)
      ∙ ap (groups (λ r. true) (visited s ws)) inv_runs
      ∙ groups_visited shape structure cells s.fed H.fits

  -- and so are the figures
  pub inv_figures : s.figures ≡ figures shape (state_of s ws)
  unfolding figures
  inv_figures =
      let j : s.figures.joins ≡ runs shape structure cells - groups_of shape (state_of s ws) = omega (
        arith,
        n_joins s ws I.is_sound,
        inv_n,
        inv_runs,
      ) in
      figures_same inv_runs j (cells_held s ws I.is_sound)

  -- each cell's number
  pub inv_number : (p : ℕ) → p < size shape → number_at s ws p ≡ label shape structure cells p
  unfolding number_at
  inv_number p h = go (nonzero cells p) refl
    where
      by_run : cond (nonzero cells p) (number (λ r. true) (visited s ws) (run_of shape structure cells p)) 0 ≡ label shape structure cells p
      by_run = number_visited shape structure cells s.fed H.fits p h

      in_run : nonzero cells p ≡ true
          → number_in parent (holder_of s ws p) ≡ number (λ r. true) (visited s ws) (run_of shape structure cells p)
      in_run e =
          ap (number_in parent) (stores_holder s ws cells H p e)
          ∙ number_groups parent s.figures.runs I.is_sound.words.parents (visited s ws) I.grouped
          (run_of shape structure cells p) (stores_below s ws cells H p e)

      go : (b : Bool) → nonzero cells p ≡ b → cond (nonzero cells p) (number_in parent (holder_of s ws p)) 0 ≡ label shape structure cells p
      go true e = rw (e, in_run e) (rw e at by_run)
      go false e = rw e (rw e at by_run)

  -- what a reading writes
  pub inv_numbers : (kind : Number) → numbers_held s ws kind ≡ map (write kind) (labels shape structure cells)
  unfolding labels
  inv_numbers kind =
      same_map _ _ 0 (size shape) (λ p h. ap (write kind) (inv_number p (omega arith)))
      ∙ sym (map_twice (write kind) (label shape structure cells) (range 0 (size shape)))

  -- ---- sizes

  -- a root's fifth word is the count of the cells with its number
  pub inv_count : (r : ℕ) → r < s.figures.runs → parent r ≡ r
      → size_word (lines_of s) ws r ≡ size_of shape structure cells (number_in parent r)
  unfolding group_sum size_of
  inv_count r h e =
      I.sized r h (root_stays parent r e)
      ∙ sum_same _ _ (length_of s ws) s.figures.runs
      (λ q l. sym (number_root parent s.figures.runs I.is_sound.words.parents r q h l e))
      ∙ sym (cells_numbered s ws I.is_sound (number_in parent r) some)
      ∙ count_same _ _ (size shape) (λ q l. ap (λ (x : ℕ). eqb x (number_in parent r)) (inv_number q l))
    where
      some : 0 < number_in parent r
      some = omega (arith, root_number parent r e)

  -- what a size call writes: the roots' words, in the order of their numbers
  pub inv_sizes : sizes_held s ws ≡ sizes_of shape structure cells
  unfolding sizes_held sizes_of
  inv_sizes =
      ext_get_or 0 (size_list parent (size_word (lines_of s) ws) s.figures.runs)
      (map (size_of shape structure cells) (range 1 (group_count shape structure cells)))
      (held ∙ n_is ∙ sym (length-map (range 1 (group_count shape structure cells)) (size_of shape structure cells)
      ∙ length_range 1 (group_count shape structure cells))) (λ g l. at g (rw held at l))
    where
      n_is : roots parent s.figures.runs ≡ group_count shape structure cells
      n_is = unfold root_count groups_of in inv_n

      held : length (size_list parent (size_word (lines_of s) ws) s.figures.runs) ≡ roots parent s.figures.runs
      held = length_list parent (size_word (lines_of s) ws) s.figures.runs

      at : (g : ℕ) → g < roots parent s.figures.runs
          → get_or (size_list parent (size_word (lines_of s) ws) s.figures.runs) g 0
          ≡ get_or (map (size_of shape structure cells) (range 1 (group_count shape structure cells))) g 0
      at g l =
          let P = place_right (own parent) s.figures.runs g (unfold roots in l) in
          let r = place (own parent) s.figures.runs g in
          let e : parent r ≡ r = unfold own in eqb-true (parent r) r P.passes in
          let is-g : roots parent r ≡ g = unfold roots in P.rank in
          let number : number_in parent r ≡ 1 + g = omega (arith, root_number parent r e, is-g) in
          subst (λ (x : ℕ). get_or (size_list parent (size_word (lines_of s) ws) s.figures.runs) x 0 ≡ size_word (lines_of s) ws r) is-g
          (list_at parent (size_word (lines_of s) ws) s.figures.runs r P.under P.passes)
          ∙ inv_count r P.under e ∙ ap (size_of shape structure cells) number
          ∙ sym (listed_from (size_of shape structure cells) 1 (group_count shape structure cells) g 0 (rw n_is at l))
