-- A search of the pairs of a structure's bytes: one that differs tells, and those before the centre decide.
-- Assumes nothing.
use mathlib.Core.Path.{◌≡◌, refl, sym, ap, ◌∙◌}
use mathlib.Core.Bool.{Bool, true, false, not, beq}
use mathlib.Core.List.{List}
use Prim.Native.Nat.{ℕ, zero, suc, ◌+◌, ◌-◌, ◌*◌, ◌/◌, ◌≤◌, ◌^◌}
use native.Mathlib.Omega.{arith}
use Rattle.std.proofs.Common.{le_refl}
use Rattle.frame.specs.Structure.{on}
use Rattle.frame.specs.ChainRule.{any}
use Rattle.frame.specs.Causes.{unlike, lopsided}
use Rattle.frame.proofs.ChainRuleLaws.{any_found, any_at, any_same}
use Rattle.frame.proofs.SymmetryLaws.{half_decides}

-- bytes are odd in number, so the centre has no other opposite
power_odd : (rank : ℕ) → 1 ≤ rank → rank ≤ 4 → 3 ^ rank ≡ 2 * (3 ^ rank / 2) + 1
power_odd zero h k = absurd (omega arith)
power_odd (suc zero) h k = refl
power_odd (suc (suc zero)) h k = refl
power_odd (suc (suc (suc zero))) h k = refl
power_odd (suc (suc (suc (suc zero)))) h k = refl
power_odd (suc (suc (suc (suc (suc n))))) h k = absurd (omega arith)

centre_own : (n last i : ℕ) → last + 1 ≡ n → n ≡ 2 * (n / 2) + 1 → last / 2 ≤ i → n ≤ 2 * i + 1
centre_own n last i is odd h = omega arith

-- the test of one pair
abbrev pub differs : ℕ → List ℕ → ℕ → Bool
differs last structure i = not (beq (on structure i) (on structure (last - i)))

module _ (rank last : ℕ) (structure : List ℕ) (is : last + 1 ≡ 3 ^ rank) (i : ℕ) where
  unlike_is : unlike rank structure i ≡ differs last structure i
  unfolding unlike
  unlike_is =
      let e : 3 ^ rank - 1 - i ≡ last - i = omega arith in
      ap (λ (k : ℕ). not (beq (on structure i) (on structure k))) e

  pub pair_differs : i ≤ last → differs last structure i ≡ true → true ≡ lopsided rank structure
  unfolding lopsided
  pair_differs l t = sym (any_at (unlike rank structure) (3 ^ rank) i (omega arith) (unlike_is ∙ t))

  pub pairs_alike : any (unlike rank structure) i ≡ false → last - i ≤ i → false ≡ lopsided rank structure
  pairs_alike none l = sym (half_decides rank structure i none (omega arith))

-- so a search of those before half of the last decides
pub half_searched : (rank last : ℕ) (structure : List ℕ) → last + 1 ≡ 3 ^ rank → 1 ≤ rank → rank ≤ 4
    → any (differs last structure) (last / 2) ≡ lopsided rank structure
half_searched rank last structure is h k = go (any (differs last structure) (last / 2)) refl
  where
    alike : any (differs last structure) (last / 2) ≡ any (unlike rank structure) (last / 2)
    alike = any_same _ _ (last / 2) (λ i l. sym (unlike_is rank last structure is i))

    go : (b : Bool) → any (differs last structure) (last / 2) ≡ b → any (differs last structure) (last / 2) ≡ lopsided rank structure
    go true e =
        let f = any_found (differs last structure) (last / 2) e in
        e ∙ pair_differs rank last structure is f.0 (omega (arith, f.1)) f.2
    go false e =
        e ∙ pairs_alike rank last structure is (last / 2) (sym alike ∙ e)
        (omega (arith, centre_own (3 ^ rank) last (last / 2) is (power_odd rank h k) (le_refl (last / 2))))
