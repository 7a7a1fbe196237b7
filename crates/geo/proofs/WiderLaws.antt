-- A search of the bytes of an old and a new structure: left bytes that differ tell, and so does an offset that is dropped.
-- Assumes nothing.
use mathlib.Core.Path.{◌≡◌, refl, sym, ap}
use mathlib.Core.Bool.{Bool, true, false, not, ◌&&◌, beq}
use mathlib.Core.List.{List}
use Prim.Native.Nat.{ℕ, ◌^◌, ◌<◌}
use borrow.Author.Tests.{eq-eqb, ne_eqb}
use mathlib.Core.Logic.{◌≢◌}
use lib.Dec.{eqb}
use lib.ListN.{get_or}
use Rattle.groups.proofs.BoolLaws.{or_left, or_right}
use Rattle.frame.specs.Structure.{on, left_code}
use Rattle.frame.specs.ChainRule.{any}
use Rattle.frame.specs.Causes.{left_differs, dropped, not_wider}
use Rattle.frame.proofs.ChainRuleLaws.{any_at}

not_not : (b : Bool) → not (not b) ≡ b
not_not true = refl
not_not false = refl

-- the test of one byte
abbrev pub drops : List ℕ → List ℕ → ℕ → Bool
drops old new i = not (eqb (get_or old i 0) 0) && eqb (get_or new i 0) 0

pub drop_is : (old new : List ℕ) (i : ℕ) → drops old new i ≡ dropped old new i
unfolding dropped on
drop_is old new i = ap (λ (b : Bool). not (eqb (get_or old i 0) 0) && b) (sym (not_not (eqb (get_or new i 0) 0)))

module _ (rank : ℕ) (old new : List ℕ) where
  abbrev any_dropped : Bool
  any_dropped = any (dropped old new) (3 ^ rank)

  -- the test of the left bytes, by what is found of each
  pub left_test : (a b : Bool) → a ≡ on old (left_code rank) → b ≡ on new (left_code rank)
      → left_differs rank old new ≡ not (beq a b)
  unfolding left_differs
  left_test a b p q = rw (p, q) refl

  pub left_tells : left_differs rank old new ≡ true → true ≡ not_wider rank old new
  unfolding not_wider
  left_tells t = sym (or_left (left_differs rank old new) any_dropped t)

  module _ (i : ℕ) where
    is_dropped : get_or old i 0 ≢ 0 → get_or new i 0 ≡ 0 → dropped old new i ≡ true
    unfolding dropped on
    is_dropped t u = rw (ne_eqb (get_or old i 0) 0 t, eq-eqb (get_or new i 0) 0 u) refl

    pub drop_tells : i < 3 ^ rank → get_or old i 0 ≢ 0 → get_or new i 0 ≡ 0 → true ≡ not_wider rank old new
    unfolding not_wider
    drop_tells l t u =
        sym (or_right (left_differs rank old new) any_dropped (any_at (dropped old new) (3 ^ rank) i l (is_dropped t u)))

  -- where the left bytes are alike, a search of every byte decides
  pub all_kept : (n : ℕ) → n ≡ 3 ^ rank → left_differs rank old new ≡ false → any (dropped old new) n ≡ not_wider rank old new
  unfolding not_wider
  all_kept n e alike = rw (alike, e) refl
