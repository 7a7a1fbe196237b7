-- Words set one after the other.
-- Assumes nothing.
use mathlib.Core.Path.{◌≡◌, refl, ◌∙◌}
use mathlib.Core.Logic.{◌≢◌}
use mathlib.Core.Bool.{Bool, true, false}
use mathlib.Core.List.{List}
use Prim.Native.Nat.{ℕ, zero, suc, ◌<◌}
use native.Mathlib.Nat.{le_refl, not-suc-le-zero}
use native.Mathlib.Omega.{arith}
use borrow.Author.Tests.{eqb-true, eqb-false}
use lib.Dec.{eqb}
use lib.ListN.{length, get_or, set, length-set}
use lib.Seq.{get_or-set_same, get_or-set_other}
use Rattle.frame.specs.Lists.{set_all}

module _ (place value : ℕ → ℕ) where
  pub length_set_all : (n : ℕ) (ws : List ℕ) → length (set_all place value n ws) ≡ length ws
  unfolding set_all
  length_set_all zero ws = refl
  length_set_all (suc n) ws = length-set (set_all place value n ws) (place n) (value n) ∙ length_set_all n ws

  -- a word at none of the places stays
  pub set_all_other : (n : ℕ) (ws : List ℕ) (j : ℕ) → ((i : ℕ) → i < n → j ≢ place i) → get_or (set_all place value n ws) j 0 ≡ get_or ws j 0
  unfolding set_all
  set_all_other zero ws j h = refl
  set_all_other (suc n) ws j h =
      get_or-set_other (set_all place value n ws) (place n) j (value n) 0 (h n (le_refl (suc n)))
      ∙ set_all_other n ws j (λ i l. h i (omega arith))

  -- where no place is set twice, each has its value
  pub set_all_at : (n : ℕ) (ws : List ℕ) → ((i j : ℕ) → i < n → j < n → place i ≡ place j → i ≡ j) → (i : ℕ) → i < n → place i < length ws
      → get_or (set_all place value n ws) (place i) 0 ≡ value i
  unfolding set_all
  set_all_at zero ws once i h fits = absurd (not-suc-le-zero h)
  set_all_at (suc n) ws once i h fits = go (eqb i n) refl (λ l. set_all_at n ws (λ a b p q. once a b (omega arith) (omega arith)) i l fits)
    where
      go : (b : Bool) → eqb i n ≡ b → (i < n → get_or (set_all place value n ws) (place i) 0 ≡ value i)
          → get_or (set (set_all place value n ws) (place n) (value n)) (place i) 0 ≡ value i
      go true t below = rw (eqb-true i n t) (get_or-set_same (set_all place value n ws) (place n) (value n) 0 (rw (
        length_set_all n ws,
        ← eqb-true i n t,
      ) fits))
      go false t below =
          let ne = eqb-false i n t in
          get_or-set_other (set_all place value n ws) (place n) (place i) (value n) 0 (λ q. ne (once i n h (le_refl (suc n)) q))
          ∙ below (omega arith)
