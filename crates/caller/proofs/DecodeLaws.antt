-- What numbers of the list are: of four numbers the code's call, where there is a part for it.
-- Assumes nothing.
use mathlib.Core.Path.{◌≡◌, refl, ap, ◌∙◌}
use mathlib.Core.Bool.{false, true}
use mathlib.Core.List.{List, [], ◌∷◌}
use Prim.Native.Nat.{ℕ, ◌+◌, ◌≤◌, ◌<◌}
use native.Mathlib.Omega.{arith}
use lib.Dec.{leb}
use lib.ListN.{length, get_or, take, drop, get_or-eq_default}
use Rattle.frame.specs.Kinds.{Cells}
use Rattle.frame.specs.Plain.{feed, widen}
use Rattle.caller.specs.CallList.{Lent, call, no_call, feed_entry, widen_entry, entry_of}
use Rattle.caller.specs.Making.{entry_at}

module _ (l : Lent) where
  entry_four : (xs : List ℕ) → 4 ≤ length xs → length xs < 5
      → entry_at l xs ≡ entry_of l (get_or xs 0 0) (get_or xs 1 0) (get_or xs 2 0) (get_or xs 3 0)
  entry_four [] h k = absurd (omega arith)
  entry_four (a ∷ []) h k = absurd (omega arith)
  entry_four (a ∷ b ∷ []) h k = absurd (omega arith)
  entry_four (a ∷ b ∷ c ∷ []) h k = absurd (omega arith)
  entry_four (a ∷ b ∷ c ∷ d ∷ []) h k = refl
  entry_four (a ∷ b ∷ c ∷ d ∷ e ∷ xs) h k = absurd (omega arith)

  module _ (xs : List ℕ) (h : 4 ≤ length xs) (k : length xs < 5) where
    pub at_code : {code : ℕ} → get_or xs 0 0 ≡ code
        → entry_at l xs ≡ entry_of l code (get_or xs 1 0) (get_or xs 2 0) (get_or xs 3 0)
    at_code e =
        entry_four xs h k ∙ ap (λ (code : ℕ). entry_of l code (get_or xs 1 0) (get_or xs 2 0) (get_or xs 3 0)) e

    pub at_none : 9 ≤ get_or xs 0 0 → entry_at l xs ≡ no_call
    unfolding entry_of
    at_none n = entry_four xs h k ∙ rw (get_or-eq_default _ no_call n) refl

-- a part of the cells, or none
module _ {A : Type 0} (kind : List A → Cells) (cells : List A) (lines from count : ℕ) where
  pub feed_out : leb (from + count) (length cells) ≡ false → feed_entry kind cells lines from count ≡ no_call
  unfolding feed_entry
  feed_out e = rw e refl

  pub feed_in : {part : List A} → (leb (from + count) (length cells) ≡ true) × (part ≡ take count (drop from cells))
      → feed_entry kind cells lines from count ≡ call (feed lines (kind part))
  unfolding feed_entry
  feed_in (e, is) = rw (e, is) refl

module _ (cells : List ℕ) (from count : ℕ) where
  pub widen_out : leb (from + count) (length cells) ≡ false → widen_entry cells from count ≡ no_call
  unfolding widen_entry
  widen_out e = rw e refl

  pub widen_in : {part : List ℕ} → (leb (from + count) (length cells) ≡ true) × (part ≡ take count (drop from cells))
      → widen_entry cells from count ≡ call (widen part)
  unfolding widen_entry
  widen_in (e, is) = rw (e, is) refl
