-- An accepted opening: its record is sound, and holds the plain session's first state.
-- Assumes nothing.
use mathlib.Core.Path.{◌≡◌, refl, sym, ap, ap₂, ◌∙◌, subst}
use mathlib.Core.Bool.{Bool}
use mathlib.Core.List.{List, []}
use Prim.Native.Nat.{ℕ, ◌<◌}
use native.Mathlib.Nat.{zero-mul, not-suc-le-zero}
use native.Mathlib.Omega.{arith}
use lib.ListN.{length, length-set}
use lib.Seq.{get_or-set_same}
use Rattle.groups.specs.Groups.{count, sum_over}
use Rattle.frame.specs.Shape.{width}
use Rattle.frame.specs.Memory.{words_needed}
use Rattle.frame.specs.Causes.{open_cause}
use Rattle.frame.specs.Plain.{opened}
use Rattle.frame.specs.Lists.{entries, padded}
use Rattle.frame.proofs.FrameRunLaws.{start_zero}
use Rattle.frame.proofs.CellLaws.{cells_none}
use Rattle.frame.proofs.CauseLaws.{rank_right, Allowed, open_accepted}
use Rattle.frame.proofs.PlainLaws.{kept_new}
use Rattle.frame.proofs.EntryLaws.{entries_padded}
use Rattle.geo.specs.Geometry.{ShapeSound}
use Rattle.forest.specs.Forest.{non_roots, root_sizes}
use Rattle.label.specs.declared.Session.{Session}
use Rattle.label.specs.Record.{shape_of, structure_of}
use Rattle.label.specs.Sound.{Sound}
use Rattle.label.specs.Opening.{open_record, open_words, blank, OpenPromise}
use Rattle.label.proofs.StoreLaws.{Stores, stores_cells}
use Rattle.label.proofs.StoredSound.{stores_sound}
use Rattle.label.proofs.Invariant.{state_of, Inv}

module _ (shape structure ws : List ℕ) (A : Allowed shape structure (length ws)) where
  -- the record and the words of an accepted opening
  abbrev s : Session
  s = open_record shape structure

  abbrev ws' : List ℕ
  ws' = open_words ws

  pub opened_shape : shape_of (open_record shape structure) ≡ shape
  unfolding shape_of
  opened_shape = entries_padded 4 shape

  pub opened_structure : structure_of (open_record shape structure) ≡ structure
  unfolding structure_of
  opened_structure = ap (λ (n : ℕ). entries n (padded 81 structure)) (sym A.bytes) ∙ entries_padded 81 structure

  opened_stores : Stores s ws' []
  opened_stores = record {
    fits = record {
      ranked = rw opened_shape (rank_right shape A.ranked).0;
      below = omega arith;
      whole =
          sym (zero-mul (width (shape_of s)));
    };
    starts = λ ℓ h. let z : ℓ ≡ 0 = omega arith in rw (z, start_zero (shape_of s) (structure_of s) []) (get_or-set_same ws 0 0 0 long);
    runs_are = sym (start_zero (shape_of s) (structure_of s) []);
    listed = λ r h. absurd (not-suc-le-zero h);
  }
    where
      long : 0 < length ws
      long = unfold words_needed in omega (arith, A.enough)

  opened_shaped : ShapeSound shape structure (length ws') 0
  opened_shaped = record {
    ranked = A.ranked;
    dimensions = A.dimensions;
    limits = A.limits;
    not_lopsided = A.not_lopsided;
    memory = rw (length-set ws 0 0) A.enough;
    within = omega arith;
  }

  opened_sound : Sound s ws'
  opened_sound =
      stores_sound s ws' [] opened_stores (rw (opened_shape, opened_structure) opened_shaped)
      (λ r h. absurd (not-suc-le-zero h)) (unfold non_roots count in refl) (sym cells_none) (unfold root_sizes sum_over in refl)

  pub opened_inv : Inv s ws'
  opened_inv = record {
    is_sound = opened_sound;
    grouped = λ r h. absurd (not-suc-le-zero h);
    sized = λ r h. absurd (not-suc-le-zero h);
  }

  pub opened_state : state_of s ws' ≡ opened structure
  opened_state =
      ap₂ (λ (bytes : List ℕ) (cells : List Bool). record { structure = bytes; fed = 0; cells = cells }) opened_structure
      (stores_cells s ws' [] opened_stores)

-- what an opening that answers 0 leaves
pub record Starts (shape structure : List ℕ) (s : Session) (ws : List ℕ) : Type 0 where
  pub keeps : Inv s ws
  pub shaped : shape_of s ≡ shape
  pub state : state_of s ws ≡ opened structure

pub open_starts : (shape structure ws : List ℕ) (number : ℕ) (s : Session) (ws' : List ℕ) → OpenPromise shape structure ws number s ws'
    → number ≡ 0
    → Starts shape structure s ws'
open_starts shape structure ws number s ws' O z =
    let no_cause : open_cause shape structure (length ws) ≡ 0 = sym O.said ∙ z in
    let A = open_accepted shape structure (length ws) no_cause in
    subst (λ (x : Session). Starts shape structure x ws')
    (sym (O.session ∙ kept_new blank (open_record shape structure) (open_cause shape structure (length ws)) no_cause))
    (subst (λ (vs : List ℕ). Starts shape structure (open_record shape structure) vs)
    (sym (O.words ∙ kept_new ws (open_words ws) (open_cause shape structure (length ws)) no_cause))
    (record {
      keeps = opened_inv shape structure ws A;
      shaped = opened_shape shape structure ws A;
      state = opened_state shape structure ws A;
    }))
