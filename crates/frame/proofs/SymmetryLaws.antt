-- Symmetric structures: the test decides them, half of the bytes suffice, and the opposite of an offset leads back.
-- Assumes nothing.
use mathlib.Core.Path.{◌≡◌, refl, sym, ap, ap₂, ◌∙◌, subst}
use mathlib.Core.Logic.{◌↔◌}
use mathlib.Core.Bool.{Bool, true, false, not, beq}
use mathlib.Core.List.{List, [], ◌∷◌, zip_with}
use Prim.Native.Nat.{ℕ, zero, suc, ◌+◌, ◌-◌, ◌*◌, ◌/◌, ◌%◌, ◌^◌, ◌≤◌, ◌<◌}
use native.Mathlib.Nat.{pow-succ', div-add-mod', mod-lt, suc-mul}
use native.Mathlib.Omega.{arith}
use borrow.Author.Tests.{ltb-true, ltb-false}
use lib.Dec.{ltb}
use lib.Arith.{digits_div, digits_mod}
use lib.ListN.{length}
use Rattle.groups.proofs.BoolLaws.{same_bits, bits_same}
use Rattle.frame.specs.Shape.{coords}
use Rattle.frame.specs.Lists.{entries}
use Rattle.frame.specs.Structure.{offset, Moved, on, opposite_code, Symmetric}
use Rattle.frame.specs.ChainRule.{any}
use Rattle.frame.specs.Causes.{unlike, lopsided}
use Rattle.frame.proofs.StructureLaws.{three_pos, offset_first, moved_cons, moved_head}
use Rattle.frame.proofs.EntryLaws.{on_entries}
use Rattle.frame.proofs.ChainRuleLaws.{any_none, none_any, any_same}

-- ---- the test

module _ (rank : ℕ) (structure : List ℕ) where
  pub symmetric_test : lopsided rank structure ≡ false ↔ Symmetric rank structure
  unfolding lopsided unlike
  symmetric_test = (
    λ h i l. same_bits _ _ (any_none (unlike rank structure) (3 ^ rank) h i l),
    λ s. none_any (unlike rank structure) (3 ^ rank) (λ k l. bits_same _ _ (s k l)),
  )

  -- the bytes before the centre decide, since each pair has one there
  pub half_decides : (i : ℕ) → any (unlike rank structure) i ≡ false → 3 ^ rank ≤ 2 * i + 1 → lopsided rank structure ≡ false
  unfolding unlike
  half_decides i h l = symmetric_test.1 (λ k m. go k m (ltb k i) refl)
    where
      below : (k : ℕ) → k < i → on structure k ≡ on structure (opposite_code rank k)
      below k m = same_bits _ _ (any_none (unlike rank structure) i h k m)

      -- k is not below i: its opposite is, or it is its own
      beyond : (k : ℕ) → k < 3 ^ rank → i ≤ k → (b : Bool) → ltb (opposite_code rank k) i ≡ b
          → on structure k ≡ on structure (opposite_code rank k)
      beyond k m u true e =
          let back : opposite_code rank (opposite_code rank k) ≡ k = omega arith in
          sym (below (opposite_code rank k) (ltb-true (opposite_code rank k) i e) ∙ ap (on structure) back)
      beyond k m u false e =
          let v = ltb-false (opposite_code rank k) i e in
          let own : k ≡ opposite_code rank k = omega arith in
          ap (on structure) own

      go : (k : ℕ) → k < 3 ^ rank → (b : Bool) → ltb k i ≡ b → on structure k ≡ on structure (opposite_code rank k)
      go k m true e = below k (ltb-true k i e)
      go k m false e = beyond k m (ltb-false k i e) (ltb (opposite_code rank k) i) refl

  -- of an array, the first 3^rank bytes decide
  pub lopsided_entries : lopsided rank (entries (3 ^ rank) structure) ≡ lopsided rank structure
  unfolding lopsided unlike
  lopsided_entries = any_same (unlike rank (entries (3 ^ rank) structure)) (unlike rank structure) (3 ^ rank) same
    where
      bit : (k : ℕ) → k < 3 ^ rank → on (entries (3 ^ rank) structure) k ≡ on structure k
      bit = on_entries (3 ^ rank) structure

      same : (k : ℕ) → k < 3 ^ rank → unlike rank (entries (3 ^ rank) structure) k ≡ unlike rank structure k
      same k m = ap₂ (λ (a b : Bool). not (beq a b)) (bit k m) (bit (opposite_code rank k) (omega (arith, three_pos rank)))

-- ---- opposite offsets

-- the opposite's first digit is 2 less the digit, and the rest is the opposite of the rest
opposite_first : (r c : ℕ) → c < 3 ^ suc r
    → (c / 3 ^ r ≤ 2) × (offset (suc r) (opposite_code (suc r) c) ≡ (2 - c / 3 ^ r) ∷ offset r (opposite_code r (c % 3 ^ r)))
opposite_first r c h = go (c / 3 ^ r) refl
  where
    rest : ℕ
    rest = opposite_code r (c % 3 ^ r)

    low : rest < 3 ^ r
    low = omega (arith, three_pos r)

    by : (d : ℕ) → opposite_code (suc r) c ≡ d * 3 ^ r + rest → offset (suc r) (opposite_code (suc r) c) ≡ d ∷ offset r rest
    by d e = offset_first r (opposite_code (suc r) c) ∙ rw e (rw (digits_div d low, digits_mod d low) refl)

    go : (d : ℕ) → c / 3 ^ r ≡ d → (c / 3 ^ r ≤ 2) × (offset (suc r) (opposite_code (suc r) c) ≡ (2 - c / 3 ^ r) ∷ offset r rest)
    go zero e =
        let s : 0 * 3 ^ r + c % 3 ^ r ≡ c = rw e at (div-add-mod' c (3 ^ r)) in
        (omega arith, rw e (by 2 (omega (arith, pow-succ' 3 r, mod-lt c (three_pos r)))))
    go (suc zero) e =
        let s : 1 * 3 ^ r + c % 3 ^ r ≡ c = rw e at (div-add-mod' c (3 ^ r)) in
        (omega arith, rw e (by 1 (omega (arith, pow-succ' 3 r, mod-lt c (three_pos r)))))
    go (suc (suc zero)) e =
        let s : 2 * 3 ^ r + c % 3 ^ r ≡ c = rw e at (div-add-mod' c (3 ^ r)) in
        (omega arith, rw e (by 0 (omega (arith, pow-succ' 3 r, mod-lt c (three_pos r)))))
    go (suc (suc (suc d))) e =
        let s : suc (suc (suc d)) * 3 ^ r + c % 3 ^ r ≡ c = rw e at (div-add-mod' c (3 ^ r)) in
        absurd (omega (arith, pow-succ' 3 r, suc-mul (suc (suc d)) (3 ^ r), suc-mul (suc d) (3 ^ r), suc-mul d (3 ^ r)))

-- where an offset leads from xs to ys, its opposite leads back
pub opposite_leads : (r c : ℕ) (xs ys : List ℕ) → c < 3 ^ r → length xs ≡ r → length ys ≡ r
    → Moved xs (offset r c) ys → Moved ys (offset r (opposite_code r c)) xs
opposite_leads zero c [] [] h a b m = unfold offset coords Moved zip_with in refl
opposite_leads zero c [] (y ∷ ys) h a b m = absurd (omega arith)
opposite_leads zero c (x ∷ xs) ys h a b m = absurd (omega arith)
opposite_leads (suc r) c [] ys h a b m = absurd (omega arith)
opposite_leads (suc r) c (x ∷ xs) [] h a b m = absurd (omega arith)
opposite_leads (suc r) c (x ∷ xs) (y ∷ ys) h a b m =
    let o = opposite_first r c h in
    let k = moved_head x (c / 3 ^ r) y xs (offset r (c % 3 ^ r)) ys
    (subst (λ (ts : List ℕ). Moved (x ∷ xs) ts (y ∷ ys)) (offset_first r c) m) in
    subst (λ (ts : List ℕ). Moved (y ∷ ys) ts (x ∷ xs)) (sym o.1)
    (moved_cons y (2 - c / 3 ^ r) x ys (offset r (opposite_code r (c % 3 ^ r))) xs (omega (arith, o.0, k.0))
    (opposite_leads r (c % 3 ^ r) xs ys (mod-lt c (three_pos r)) (omega arith) (omega arith) k.1))
