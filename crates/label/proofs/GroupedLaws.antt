-- The parents after a list of calls: they give the chain rule's grouping, and a group's root is its smallest run, whose fifth word is the
-- group's count of cells.
-- Assumes nothing.
use mathlib.Core.Path.{◌≡◌, sym, ap, ◌∙◌, subst}
use mathlib.Core.Logic.{◌↔◌}
use mathlib.Core.Bool.{Bool, true}
use mathlib.Core.List.{List}
use Prim.Native.Nat.{ℕ, suc, ◌≤◌, ◌<◌}
use native.Mathlib.Nat.{lt_of_le_of_lt, lt_of_lt_of_le}
use Rattle.groups.specs.Groups.{Chain, rep}
use Rattle.frame.specs.Shape.{size}
use Rattle.frame.specs.ChainRule.{nonzero, Step, label, size_of}
use Rattle.frame.specs.Runs.{runs, run_of, SmallestRun}
use Rattle.frame.specs.Words.{parent_of, size_word}
use Rattle.frame.proofs.ShapeLaws.{fits_size}
use Rattle.frame.proofs.ChainRuleLaws.{nonzero_below}
use Rattle.frame.proofs.RunGroupLaws.{chain_visited, smallest_visited}
use Rattle.forest.specs.Forest.{root_of, roots, number_in}
use Rattle.forest.proofs.ForestLaws.{root_stays, root_le, root_root}
use Rattle.label.specs.declared.Session.{Session}
use Rattle.label.specs.Record.{shape_of, structure_of, lines_of}
use Rattle.label.specs.Held.{cells_of, number_at}
use Rattle.label.proofs.StoreLaws.{Stores, stores_below, stores_holder}
use Rattle.label.proofs.SoundCells.{sound_stores}
use Rattle.label.proofs.Invariant.{visited, Inv, inv_runs, inv_number, inv_count}

module _ (s : Session) (ws : List ℕ) (I : Inv s ws) where
  abbrev shape : List ℕ
  shape = shape_of s

  abbrev structure : List ℕ
  structure = structure_of s

  abbrev cells : List Bool
  cells = cells_of s ws

  abbrev parent : ℕ → ℕ
  parent = parent_of (lines_of s) ws

  -- the root of a cell's run
  abbrev root : ℕ → ℕ
  root p = root_of parent (run_of shape structure cells p)

  H : Stores s ws cells
  H = sound_stores s ws I.is_sound

  -- no parent is above its run
  pub inv_parents : (r : ℕ) → r < runs shape structure cells → parent r ≤ r
  inv_parents r h = I.is_sound.words.parents r (subst (λ (n : ℕ). r < n) (sym (inv_runs s ws I)) h)

  root_rep : (p : ℕ) → nonzero cells p ≡ true → root p ≡ rep (visited s ws) (run_of shape structure cells p)
  root_rep p a = I.grouped (run_of shape structure cells p) (stores_below s ws cells H p a)

  -- the runs of two cells have one root exactly when a chain joins the cells
  pub inv_root : (p q : ℕ) → nonzero cells p ≡ true → nonzero cells q ≡ true
      → (root p ≡ root q) ↔ Chain (Step shape structure cells) p q
  inv_root p q a b =
      let C = chain_visited shape structure cells s.fed H.fits p q a b in
      (λ e. C.0 (sym (root_rep p a) ∙ e ∙ root_rep q b), λ h. root_rep p a ∙ C.1 h ∙ sym (root_rep q b))

  -- which is the smallest run of the cells' group
  pub inv_smallest : (p : ℕ) → nonzero cells p ≡ true → SmallestRun shape structure cells p (root p)
  inv_smallest p a =
      subst (SmallestRun shape structure cells p) (sym (root_rep p a))
      (smallest_visited shape structure cells s.fed H.fits p a)

  pub cell_below : (p : ℕ) → nonzero cells p ≡ true → p < size shape
  cell_below p a = lt_of_lt_of_le (nonzero_below cells p a) (fits_size shape s.fed cells H.fits)

  same_number : (r t : ℕ) → root_of parent t ≡ root_of parent r → number_in parent t ≡ number_in parent r
  unfolding number_in
  same_number r t e = ap (λ (x : ℕ). roots parent (suc x)) e

  at : (p : ℕ) → nonzero cells p ≡ true → number_in parent (run_of shape structure cells p) ≡ number_at s ws p
  unfolding number_at
  at p a = rw a (ap (number_in parent) (sym (stores_holder s ws cells H p a)))

  -- and its fifth word is the count of the cells with the cell's number
  pub inv_size : (p : ℕ) → nonzero cells p ≡ true
      → size_word (lines_of s) ws (root p) ≡ size_of shape structure cells (label shape structure cells p)
  inv_size p a =
      let low = I.is_sound.words.parents in
      let r = run_of shape structure cells p in
      let h : r < s.figures.runs = stores_below s ws cells H p a in
      let self : parent (root p) ≡ root p = root_root parent s.figures.runs low r h in
      let below : root p < s.figures.runs = lt_of_le_of_lt (root_le parent s.figures.runs low r h) h in
      inv_count s ws I (root p) below self
      ∙ ap (size_of shape structure cells) (same_number r (root p) (root_stays parent (root p) self) ∙ at p a
      ∙ inv_number s ws I p (cell_below p a))
