-- A reading, and a size call, of a record that holds a state of the plain session, and the parents that its words hold.
-- Assumes nothing.
use mathlib.Core.Path.{◌≡◌, refl, sym, ap, ◌∙◌, subst}
use mathlib.Core.Bool.{Bool, true}
use mathlib.Core.List.{List, map}
use Prim.Native.Nat.{ℕ, ◌+◌, ◌-◌, ◌≤◌, ◌<◌}
use native.Mathlib.Omega.{arith}
use borrow.Author.Tests.{le-leb}
use lib.Dec.{eqb, leb}
use lib.ListN.{length, get_or, length-map, get_or-map}
use Rattle.groups.specs.Groups.{count}
use Rattle.groups.proofs.CountLaws.{count_same}
use Rattle.groups.proofs.NumberLaws.{numbered_same}
use Rattle.frame.specs.Shape.{size}
use Rattle.frame.specs.Structure.{Symmetric}
use Rattle.frame.specs.ChainRule.{nonzero, Labelled, group_count, label, range, labels, size_of, sizes_of}
use Rattle.frame.specs.Kinds.{Number, largest, holds, Value, write, value}
use Rattle.frame.specs.Plain.{Answer, counted, State, groups_of, cause}
use Rattle.frame.proofs.ChainRuleLaws.{label_only, length_range, length_labels, labels_right}
use Rattle.frame.proofs.SymmetryLaws.{symmetric_test}
use Rattle.frame.proofs.ScipyLaws.{same_labelled}
use Rattle.frame.proofs.KindLaws.{value_write}
use Rattle.frame.proofs.CauseLaws.{accepted_read, accepted_sizes}
use Rattle.frame.proofs.PlainLaws.{unless_none, kept_new}
use Rattle.frame.proofs.ListLaws.{listed_from}
use Rattle.label.specs.declared.Session.{Session}
use Rattle.label.specs.Record.{shape_of, structure_of}
use Rattle.label.specs.Held.{cells_of, root_count, numbers_held, sizes_held}
use Rattle.label.specs.Reading.{counted_of, read_cause_of, ReadPromise, sizes_cause_of, SizesPromise}
use Rattle.label.proofs.Invariant.{state_of, Inv, inv_n, inv_figures, inv_numbers, inv_sizes}
use Rattle.label.proofs.GroupedLaws.{inv_parents, inv_root, inv_smallest, cell_below, inv_size}
use Rattle.label.proofs.KeepLaws.{read_cause_lem, sizes_cause_lem}
use Rattle.calls.specs.Demand3.{Balanced, Reads, Sizes, Afterwards, Grouped}
use Rattle.calls.proofs.RightLaws.{figures_right}

-- a reading that is right gives each cell the number that the chain rule does
pub number_is : (shape : List ℕ) (p : State) (kind : Number) (a : Answer) (out : List (Value kind)) → Reads shape p kind a out → (q : ℕ)
    → q < size shape
    → value kind (get_or out q (write kind 0)) ≡ label shape p.structure p.cells q
number_is shape p kind a out R = label_only shape p.structure p.cells (group_count shape p.structure p.cells)
    (λ q. value kind (get_or out q (write kind 0))) R.labelled

module _ (s : Session) (ws : List ℕ) (I : Inv s ws) where
  abbrev shape : List ℕ
  shape = shape_of s

  abbrev structure : List ℕ
  structure = structure_of s

  abbrev cells : List Bool
  cells = cells_of s ws

  abbrev n : ℕ
  n = group_count (shape_of s) (structure_of s) (cells_of s ws)

  -- a sound record's structure is symmetric
  symmetric : Symmetric (length shape) structure
  symmetric = (symmetric_test (length shape) structure).0 I.is_sound.shape.not_lopsided

  n_right : root_count s ws ≡ n
  n_right = inv_n s ws I ∙ (unfold groups_of in refl)

  -- the record's figures are right
  figures_held : Balanced shape (state_of s ws) s.figures
  figures_held = subst (Balanced shape (state_of s ws)) (sym (inv_figures s ws I)) (figures_right shape (state_of s ws))

  read_is_accepted : (kind : Number) (out : List (Value kind)) → length out ≡ size shape → n ≤ largest kind
      → read_cause_of kind s ws (length out) ≡ 0
  read_is_accepted kind out e h =
      read_cause_lem s ws I kind out
      ∙ (unfold cause groups_of holds in accepted_read (length out) (size shape) (leb n (largest kind)) e (le-leb n (largest kind) h))

  reads : (kind : Number) (out : List (Value kind)) → length out ≡ size shape → n ≤ largest kind
      → (a : Answer) (s' : Session) (ws' : List ℕ) (out' : List (Value kind)) → ReadPromise kind s ws out a s' ws' out' → Reads shape
      (state_of s ws) kind a out'
  reads kind out e h a s' ws' out' P = record {
    figures = s.figures;
    balanced = figures_held;
    accepted =
        P.said ∙ unless_none (read_cause_of kind s ws (length out)) (counted_of s ws) no_cause
        ∙ ap (λ (m : ℕ). counted m s.figures) n_right;
    long = ap length wrote ∙ length-map (labels shape structure cells) (write kind) ∙ length_labels shape structure cells;
    labelled = numbered;
    described = (same_labelled shape structure symmetric cells n _).1 numbered;
  }
    where
      no_cause : read_cause_of kind s ws (length out) ≡ 0
      no_cause = read_is_accepted kind out e h

      wrote : out' ≡ map (write kind) (labels shape structure cells)
      wrote = P.output ∙ kept_new out (numbers_held s ws kind) (read_cause_of kind s ws (length out)) no_cause ∙ inv_numbers s ws I kind

      numbered : Labelled shape structure cells n (λ q. value kind (get_or out' q (write kind 0)))
      numbered = numbered_same (λ q. get_or (labels shape structure cells) q 0) (λ q. value kind (get_or out' q (write kind 0)))
          (λ q l. sym (ap (λ (o : List (Value kind)). value kind (get_or o q (write kind 0))) wrote ∙ ap (value kind)
          (get_or-map (write kind) (labels shape structure cells) q 0) ∙ value_write kind (get_or (labels shape structure cells) q 0)))
          (labels_right shape structure cells)

  long : length (sizes_of shape structure cells) ≡ n
  unfolding sizes_of
  long = length-map (range 1 n) (size_of shape structure cells) ∙ length_range 1 n

  size_at_lem : (g : ℕ) → 0 < g → g ≤ n → get_or (sizes_of shape structure cells) (g - 1) 0 ≡ size_of shape structure cells g
  unfolding sizes_of
  size_at_lem g low high =
      let e : 1 + (g - 1) ≡ g = omega arith in
      listed_from (size_of shape structure cells) 1 n (g - 1) 0 (omega arith) ∙ ap (size_of shape structure cells) e

  same_size : (ν : ℕ → ℕ) → Labelled shape structure cells n ν → (g : ℕ)
      → size_of shape structure cells g ≡ count (λ q. eqb (ν q) g) (size shape)
  unfolding size_of
  same_size ν N g = count_same _ _ (size shape) (λ q l. ap (λ (m : ℕ). eqb m g) (sym (label_only shape structure cells n ν N q l)))

  sizes_is_accepted : (out : List ℕ) → length out ≡ n → sizes_cause_of s ws (length out) ≡ 0
  sizes_is_accepted out e = sizes_cause_lem s ws I out ∙ (unfold cause groups_of in accepted_sizes (length out) n e)

  sized : (out : List ℕ) → length out ≡ n → (a : Answer) (s' : Session) (ws' out' : List ℕ) → SizesPromise s ws out a s' ws' out'
      → Sizes shape (state_of s ws) a out'
  sized out e a s' ws' out' P = record {
    figures = s.figures;
    balanced = figures_held;
    accepted =
        P.said ∙ unless_none (sizes_cause_of s ws (length out)) (counted_of s ws) no_cause ∙ ap (λ (m : ℕ). counted m s.figures) n_right;
    long = ap length wrote ∙ long;
    counts = λ ν N g low high. ap (λ (l : List ℕ). get_or l (g - 1) 0) wrote ∙ size_at_lem g low high ∙ same_size ν N g;
  }
    where
      no_cause : sizes_cause_of s ws (length out) ≡ 0
      no_cause = sizes_is_accepted out e

      wrote : out' ≡ sizes_of shape structure cells
      wrote = P.output ∙ kept_new out (sizes_held s ws) (sizes_cause_of s ws (length out)) no_cause ∙ inv_sizes s ws I

  pub afterwards : Afterwards shape (state_of s ws) s ws
  afterwards = record { reads = reads; sizes = sized }

  pub parents_grouped : Grouped shape (state_of s ws) ws
  parents_grouped = record {
    at_most = inv_parents s ws I;
    one_root = inv_root s ws I;
    smallest = inv_smallest s ws I;
    sized = λ ν N a l. inv_size s ws I a l ∙ same_size ν N (label shape structure cells a) ∙ own_number ν N a l;
  }
    where
      -- ν gives the cell its number
      own_number : (ν : ℕ → ℕ) → Labelled shape structure cells n ν → (a : ℕ) → nonzero cells a ≡ true
          → count (λ q. eqb (ν q) (label shape structure cells a)) (size shape) ≡ count (λ q. eqb (ν q) (ν a)) (size shape)
      own_number ν N a l = ap (λ (g : ℕ). count (λ q. eqb (ν q) g) (size shape))
          (sym (label_only shape structure cells n ν N a (cell_below s ws I a l)))
