-- The neighbour's line, found by coordinates, is the line that the leading offset leads to.
-- Assumes nothing.
use mathlib.Core.Path.{◌≡◌, refl, sym, ap₂, ◌∙◌}
use mathlib.Core.Bool.{true, ◌&&◌}
use mathlib.Core.List.{List, [], ◌∷◌, zip_with}
use Prim.Native.Nat.{ℕ, ◌+◌, ◌-◌, ◌*◌, ◌/◌, ◌%◌, ◌<◌}
use native.Mathlib.Nat.{le_refl, mod-lt, div-add-mod', div-lt_iff_lt-mul}
use native.Mathlib.Omega.{arith}
use borrow.Author.Tests.{ltb-true, leb-true, lt-ltb, le-leb}
use lib.Dec.{ltb, leb}
use lib.Arith.{lt-one, digits_lt, digits_div, digits_mod}
use lib.ListN.{length}
use Rattle.groups.proofs.BoolLaws.{and_true, and_left, and_right}
use Rattle.frame.specs.Shape.{size, coords}
use Rattle.frame.specs.Structure.{backward, Moved}
use Rattle.frame.specs.Touches.{has_nbr, nbr_line}
use Rattle.frame.proofs.ShapeLaws.{factor_pos}
use Rattle.frame.proofs.StructureLaws.{moved_cons, moved_head, backward_earlier}

-- a line that the offset leads to is the neighbour
pub nbr_found : (ds ts : List ℕ) (ℓ m : ℕ) → ℓ < size ds → m < size ds → length ts ≡ length ds → Moved (coords ds ℓ) ts (coords ds m)
    → (has_nbr ds ts ℓ ≡ true) × (nbr_line ds ts ℓ ≡ m)
unfolding has_nbr nbr_line coords size
nbr_found [] ts ℓ m hl hm e h = (refl, sym (lt-one hm))
nbr_found (d ∷ ds) [] ℓ m hl hm e h = absurd (omega arith)
nbr_found (d ∷ ds) (t ∷ ts) ℓ m hl hm e h =
    let pos = factor_pos d (size ds) ℓ hl in
    let k = moved_head (ℓ / size ds) t (m / size ds) (coords ds (ℓ % size ds)) ts (coords ds (m % size ds)) h in
    let i = nbr_found ds ts (ℓ % size ds) (m % size ds) (mod-lt ℓ pos) (mod-lt m pos) (omega arith) k.1 in
    let below : m / size ds < d = (div-lt_iff_lt-mul pos).1 hm in
    let y : ℓ / size ds + t - 1 ≡ m / size ds = omega (arith, k.0) in (
      and_true _ _ (and_true _ _ (lt-ltb 0 (ℓ / size ds + t) (omega (arith, k.0))) (le-leb (ℓ / size ds + t) d (omega (arith, k.0))))
          i.0,
      ap₂ (λ (a : ℕ) (b : ℕ). a * size ds + b) y i.1 ∙ div-add-mod' m (size ds),
    )

-- the neighbour is a line that the offset leads to
pub nbr_moved : (ds ts : List ℕ) (ℓ : ℕ) → ℓ < size ds → length ts ≡ length ds → has_nbr ds ts ℓ ≡ true
    → (nbr_line ds ts ℓ < size ds) × Moved (coords ds ℓ) ts (coords ds (nbr_line ds ts ℓ))
unfolding has_nbr nbr_line coords size
nbr_moved [] [] ℓ hl e h = (le_refl 1, unfold Moved zip_with in refl)
nbr_moved [] (t ∷ ts) ℓ hl e h = absurd (omega arith)
nbr_moved (d ∷ ds) [] ℓ hl e h = absurd (omega arith)
nbr_moved (d ∷ ds) (t ∷ ts) ℓ hl e h =
    let pos = factor_pos d (size ds) ℓ hl in
    let both = and_left (ltb 0 (ℓ / size ds + t) && leb (ℓ / size ds + t) d) (has_nbr ds ts (ℓ % size ds)) h in
    let lo = ltb-true 0 (ℓ / size ds + t) (and_left _ (leb (ℓ / size ds + t) d) both) in
    let hi = leb-true (ℓ / size ds + t) d (and_right (ltb 0 (ℓ / size ds + t)) _ both) in
    let i = nbr_moved ds ts (ℓ % size ds) (mod-lt ℓ pos) (omega arith)
    (and_right (ltb 0 (ℓ / size ds + t) && leb (ℓ / size ds + t) d) (has_nbr ds ts (ℓ % size ds)) h) in
    let y : ℕ = ℓ / size ds + t - 1 in
    let z : ℕ = nbr_line ds ts (ℓ % size ds) in
    let yd : y < d = omega arith in (
      digits_lt yd i.0,
      rw (digits_div y i.0, digits_mod y i.0)
          (moved_cons (ℓ / size ds) t y (coords ds (ℓ % size ds)) ts (coords ds z) (omega arith) i.1),
    )

-- a backward offset leads to a line before
pub nbr_before : (ds ts : List ℕ) (ℓ : ℕ) → ℓ < size ds → length ts ≡ length ds → backward ts ≡ true → has_nbr ds ts ℓ ≡ true
    → nbr_line ds ts ℓ < ℓ
nbr_before ds ts ℓ hl e b h = let m = nbr_moved ds ts ℓ hl e h in backward_earlier ds ts ℓ (nbr_line ds ts ℓ) hl m.0 e b m.1
