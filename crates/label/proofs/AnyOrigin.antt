-- A sound record of any origin is read by the grouping that it holds: its numbers are right for it, and n is the count of its roots.
-- Assumes nothing.
use mathlib.Core.Path.{◌≡◌, refl, sym, ◌∙◌, subst}
use mathlib.Core.Logic.{◌⊎◌, inl, inr}
use mathlib.Core.Bool.{Bool, true, false, cond}
use mathlib.Core.List.{List}
use Prim.Native.Nat.{ℕ, ◌<◌}
use Rattle.groups.specs.Groups.{Chain, one, more, Edge, Joined}
use Rattle.groups.specs.Numbers.{Numbered, number}
use Rattle.groups.proofs.RepLaws.{mem_ends}
use Rattle.groups.proofs.GroupLaws.{all_live}
use Rattle.groups.proofs.NumberLaws.{number_right, numbered_same}
use Rattle.groups.proofs.QuotientLaws.{Onto, by_runs}
use Rattle.frame.specs.Shape.{size}
use Rattle.frame.specs.ChainRule.{nonzero, Step}
use Rattle.frame.specs.Runs.{run_of}
use Rattle.frame.specs.Words.{parent_of}
use Rattle.frame.proofs.ShapeLaws.{fits_size}
use Rattle.frame.proofs.RunLaws.{start_of, RunStep, runs_onto}
use Rattle.forest.specs.Forest.{number_in}
use Rattle.forest.proofs.ForestLaws.{number_groups, grouping_ends, grouping_rep}
use Rattle.label.specs.declared.Session.{Session}
use Rattle.label.specs.Record.{shape_of, structure_of, lines_of}
use Rattle.label.specs.Sound.{Sound}
use Rattle.label.specs.Held.{cells_of, holder_of, grouping_of, HeldStep, root_count, number_at}
use Rattle.label.proofs.SoundLaws.{n_groups}
use Rattle.label.proofs.StoreLaws.{Stores, stores_below, stores_holder}
use Rattle.label.proofs.SoundCells.{sound_stores, runs_held}

module _ (s : Session) (ws : List ℕ) (S : Sound s ws) where
  abbrev shape : List ℕ
  shape = shape_of s

  abbrev structure : List ℕ
  structure = structure_of s

  abbrev cells : List Bool
  cells = cells_of s ws

  abbrev es : List Edge
  es = grouping_of s ws

  -- where a run starts
  abbrev start : ℕ → ℕ
  start = start_of (shape_of s) (structure_of s) (cells_of s ws)

  H : Stores s ws cells
  H = sound_stores s ws S

  -- the runs of the cells
  O : Onto (nonzero cells) (Step shape structure cells) (size shape) (RunStep shape structure cells) s.figures.runs
      (run_of shape structure cells) start
  O = subst (λ (n : ℕ). Onto (nonzero cells) (Step shape structure cells) (size shape) (RunStep shape structure cells) n
      (run_of shape structure cells) start) (sym (runs_held s ws S))
      (runs_onto shape structure cells (fits_size shape s.fed cells H.fits))

  -- the run that holds the cell where run r starts is r
  start_held : (r : ℕ) → r < s.figures.runs → holder_of s ws (start r) ≡ r
  start_held r h = stores_holder s ws cells H (start r) (O.start_live r h) ∙ O.run_start_lem r h

  ends : (r t : ℕ) → Joined es r t → (r < s.figures.runs) × (t < s.figures.runs)
  ends r t (inl m) =
      mem_ends (λ r. r < s.figures.runs) es (grouping_ends (parent_of (lines_of s) ws) s.figures.runs S.words.parents) _ m
  ends r t (inr m) =
      let e = mem_ends (λ r. r < s.figures.runs) es (grouping_ends (parent_of (lines_of s) ws) s.figures.runs S.words.parents) _
      m in
      (e.1, e.0)

  flip : (p q : ℕ) → HeldStep s ws p q → HeldStep s ws q p
  flip p q t = record { here = t.there; there = t.here; way = go t.way }
    where
      go : (holder_of s ws p ≡ holder_of s ws q) ⊎ Joined es (holder_of s ws p) (holder_of s ws q)
          → (holder_of s ws q ≡ holder_of s ws p) ⊎ Joined es (holder_of s ws q) (holder_of s ws p)
      go (inl e) = inl (sym e)
      go (inr (inl m)) = inr (inr m)
      go (inr (inr m)) = inr (inl m)

  down : (p q : ℕ) → HeldStep s ws p q → Chain (Joined es) (holder_of s ws p) (holder_of s ws q)
  down p q t = go t.way
    where
      go : (holder_of s ws p ≡ holder_of s ws q) ⊎ Joined es (holder_of s ws p) (holder_of s ws q)
          → Chain (Joined es) (holder_of s ws p) (holder_of s ws q)
      go (inl e) = subst (λ (r : ℕ). Chain (Joined es) (holder_of s ws p) r) e one
      go (inr j) = more j one

  lift : (r t : ℕ) → Joined es r t → Chain (HeldStep s ws) (start r) (start t)
  lift r t j =
      let e = ends r t j in
      let k : Joined es (holder_of s ws (start r)) (holder_of s ws (start t)) = rw (start_held r e.0, start_held t e.1) j in
      more (record { here = O.start_live r e.0; there = O.start_live t e.1; way = inr k }) one

  held_onto : Onto (nonzero cells) (HeldStep s ws) (size shape) (Joined es) s.figures.runs (holder_of s ws) start
  held_onto = record {
    flip = flip;
    run_below = λ p h a. rw (stores_holder s ws cells H p a) (stores_below s ws cells H p a);
    start_below = O.start_below;
    start_live = O.start_live;
    run_start_lem = start_held;
    start_first = λ p h a. rw (stores_holder s ws cells H p a) (O.start_first p h a);
    start_chain = λ p h a. more (record {
      here = a;
      there = O.start_live (holder_of s ws p) (below p a);
      way = inl
          (sym (start_held (holder_of s ws p) (below p a)));
    }) one;
    start_mono = O.start_mono;
    down = down;
    lift = lift;
    inside = λ r t j. (ends r t j).1;
  }
    where
      below : (p : ℕ) → nonzero cells p ≡ true → holder_of s ws p < s.figures.runs
      below p a = rw (stores_holder s ws cells H p a) (stores_below s ws cells H p a)

  number_held : (p : ℕ) → p < size shape → cond (nonzero cells p) (number (λ r. true) es (holder_of s ws p)) 0 ≡ number_at s ws p
  number_held p h = go (nonzero cells p) refl
    where
      by_root : nonzero cells p ≡ true → number (λ r. true) es (holder_of s ws p) ≡ number_in (parent_of (lines_of s) ws) (holder_of s ws p)
      by_root a = sym (number_groups (parent_of (lines_of s) ws) s.figures.runs S.words.parents es
          (λ r l. sym (grouping_rep (parent_of (lines_of s) ws) s.figures.runs S.words.parents r l)) (holder_of s ws p)
          (rw (stores_holder s ws cells H p a) (stores_below s ws cells H p a)))

      go : (b : Bool) → nonzero cells p ≡ b → cond (nonzero cells p) (number (λ r. true) es (holder_of s ws p)) 0 ≡ number_at s ws p
      go true a = unfold number_at in rw (a, by_root a) refl
      go false a = unfold number_at in rw a refl

  -- 0 to zero and unfed cells, one number to two cells exactly when the grouping held joins them, 1 to n by first cells
  pub any_numbered : Numbered (nonzero (cells_of s ws)) (HeldStep s ws) (size (shape_of s)) (root_count s ws) (number_at s ws)
  any_numbered =
      numbered_same _ (number_at s ws) number_held
      (subst (λ (n : ℕ). Numbered (nonzero cells) (HeldStep s ws) (size shape) n
      (λ p. cond (nonzero cells p) (number (λ r. true) es (holder_of s ws p)) 0)) (sym (n_groups s ws S))
      (by_runs held_onto _ _ (number_right (λ r. true) es (all_live es) s.figures.runs)))
