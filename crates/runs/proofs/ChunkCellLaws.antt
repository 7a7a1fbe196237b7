-- How many cells of a chunk are nonzero: the set bits of its mask, which without an edge are all or none.
-- Assumes nothing.
use mathlib.Core.Bool.{Bool, true, false, cond}
use mathlib.Core.Path.{◌≡◌, refl, sym, ap, ap₂, ◌∙◌}
use mathlib.Core.List.{List, [], ◌∷◌}
use mathlib.Core.Logic.{◌⊎◌, inl, inr}
use Prim.Native.Nat.{ℕ, zero, suc, ◌+◌, ◌*◌, ◌-◌, ◌/◌, ◌%◌, ◌^◌, ◌<◌}
use native.Mathlib.Nat.{mod-eq_of_lt}
use native.Mathlib.Omega.{arith}
use native.Mathlib.Decide.{dec_lt}
use lib.ListN.{take, drop}
use lib.Arith.{digits_div, digits_mod}
use lib.Bits.{bit_or, bit_xor, and_le_l, and_le_r, xor_add_and, or_shifted}
use lib.Count.{ones, ones_step, ones-ones}
use Rattle.frame.specs.Runs.{nonzero_cells}
use Rattle.frame.proofs.CellLaws.{cells_none, cells_cons, cells_split}
use Rattle.runs.specs.Masks.{bit, mask_of}
use Rattle.runs.specs.Boundaries.{edge_bits}
use Rattle.runs.proofs.MaskLaws.{bit_lt}

-- ---- a mask without an edge

xor_equal : (a b : ℕ) → bit_xor a b ≡ 0 → a ≡ b
xor_equal a b e = omega (arith, xor_add_and a b, and_le_l a b, and_le_r a b)

-- twice the mask is even, so that the carry is added
or_carry : (m carry : ℕ) → carry < 2 → bit_or (m * 2 % 2 ^ 64) carry ≡ m * 2 % 2 ^ 64 + carry
or_carry m carry h =
    let t : ℕ = m * 2 % 2 ^ 64 / 2 in
    let e : m * 2 % 2 ^ 64 ≡ t * 2 = omega arith in
    ap (λ (n : ℕ). bit_or n carry) e ∙ or_shifted t 1 carry h ∙ ap (λ (n : ℕ). n + carry) (sym e)

-- twice m loses w at most once
twice_mod : (w m : ℕ) → m < w → (m * 2 % w ≡ m * 2) ⊎ (m * 2 % w + w ≡ m * 2)
twice_mod w m h = go (dec_lt (m * 2) w)
  where
    go : Dec (m * 2 < w) → (m * 2 % w ≡ m * 2) ⊎ (m * 2 % w + w ≡ m * 2)
    go (yes p) = inl (mod-eq_of_lt p)
    go (no p) =
        let q : m * 2 - w < w = omega arith in
        let e : m * 2 ≡ 1 * w + (m * 2 - w) = omega arith in
        let r : m * 2 % w ≡ m * 2 - w = ap (λ (n : ℕ). n % w) e ∙ digits_mod 1 q in
        inr (omega arith)

-- so a number that is its own double with the carry is 0 without one, and the largest below w with one
none_set : (w m : ℕ) → m < w → m ≡ m * 2 % w + 0 → m ≡ 0
none_set w m h s = elim (twice_mod w m h) [ inl e ↦ omega arith | inr e ↦ omega arith ]

all_set : (w m : ℕ) → m < w → m ≡ m * 2 % w + 1 → m ≡ w - 1
all_set w m h s = elim (twice_mod w m h) [ inl e ↦ omega arith | inr e ↦ omega arith ]

pub edgeless_ones : (m carry : ℕ) → m < 2 ^ 64 → carry < 2 → edge_bits m carry ≡ 0 → 64 * carry ≡ ones m
edgeless_ones m carry b h e = go carry h (xor_equal m (bit_or (m * 2 % 2 ^ 64) carry) e ∙ or_carry m carry h)
  where
    go : (c : ℕ) → c < 2 → m ≡ m * 2 % 2 ^ 64 + c → 64 * c ≡ ones m
    go zero h s = sym (ap ones (none_set (2 ^ 64) m b s) ∙ ones-ones 0)
    go (suc zero) h s = sym (ap ones (all_set (2 ^ 64) m b s) ∙ ones-ones 64)
    go (suc (suc c)) h s = absurd (omega arith)

-- ---- the set bits of a mask are the nonzero cells

bit_one : (b : Bool) → bit b ≡ cond b 1 0
bit_one false = refl
bit_one true = refl

ones_digit : (n d : ℕ) → d < 2 → ones (n * 2 + d) ≡ d + ones n
ones_digit n d h = ones_step (n * 2 + d) ∙ ap₂ (λ (a c : ℕ). a + ones c) (digits_mod n h) (digits_div n h)

ones_mask : (k : ℕ) (l : List Bool) → ones (mask_of k l) ≡ nonzero_cells (take k l)
unfolding mask_of
ones_mask zero l = ones-ones 0 ∙ sym cells_none
ones_mask (suc k) [] = ones-ones 0 ∙ sym cells_none
ones_mask (suc k) (b ∷ l) =
    ones_digit (mask_of k l) (bit b) (bit_lt b) ∙ omega (arith, bit_one b, ones_mask k l, cells_cons b (take k l))

-- the chunk's, and then those of the rest of the line
pub chunk_cells_lem : (m : ℕ) (l : List Bool) → m ≡ mask_of 64 l → nonzero_cells l ≡ ones m + nonzero_cells (drop 64 l)
chunk_cells_lem m l e = cells_split 64 l ∙ ap (λ (n : ℕ). n + nonzero_cells (drop 64 l)) (sym (ap ones e ∙ ones_mask 64 l))
