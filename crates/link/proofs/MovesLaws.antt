-- A line's coordinates and an offset of its leading dimensions are such as nbr_line takes, and what it finds by them.
-- Assumes nothing.
use mathlib.Core.Path.{◌≡◌, refl, sym, ap, ◌∙◌, subst}
use mathlib.Core.List.{List, [], ◌∷◌, map}
use Prim.Native.Nat.{ℕ, ◌/◌, ◌%◌, ◌≤◌, ◌<◌}
use lib.IntN.{ℤ, pos}
use lib.ListN.{length, get_or}
use Rattle.frame.specs.Shape.{size}
use Rattle.frame.specs.Structure.{digit}
use Rattle.link.specs.Coordinates.{Move}
use Rattle.geo.specs.Geometry.{ThreeDims}
use Rattle.offsets.specs.Digits.{OffsetOf, three_digits}
use Rattle.link.specs.Lines.{signed_coords, Moves, nbr_of}
use Rattle.offsets.proofs.OffsetLaws.{three_digits_lem, parts_low}
use Rattle.link.proofs.CoordinateLaws.{coords_are, first_below, middle_below, last_below_lem, first_small, middle_small, last_small}
use Rattle.std.proofs.Common.{Option}

module _ (n : ℕ) (dims : List ℕ) (L ℓ k : ℕ) (D : ThreeDims n dims L) (three : length dims ≡ 3) (within : ℓ < L)
    (c o : List ℤ) (is_c : c ≡ signed_coords dims ℓ) (O : OffsetOf n k o) where
  abbrev d : ℕ → ℕ
  d i = get_or dims i 0

  h : ℓ < size dims
  h = subst (λ (x : ℕ). ℓ < x) D.product within

  s : size dims < 4294967296
  s = subst (λ (x : ℕ). x < 4294967296) D.product D.small

  are : c ≡ pos (ℓ / d 2 / d 1) ∷ pos (ℓ / d 2 % d 1) ∷ pos (ℓ % d 2) ∷ []
  are = is_c ∙ ap (map pos) (coords_are dims ℓ three h s)

  step : (x y : ℕ) (z w : ℤ) → z ≡ pos x → x < y → y < 4294967296 → digit w ≤ 2 → Move z w y
  step x y z w e b m q = subst (λ (v : ℤ). Move v w y) (sym e) (record { coordinate = refl; below = b; small = m; offset = q })

  pub moves_ready : Moves dims c o
  moves_ready = record {
    first = step (ℓ / d 2 / d 1) (d 0) _ _ (ap (λ (l : List ℤ). get_or l 0 (pos 0)) are) (first_below dims ℓ three h s)
        (first_small dims ℓ three h s) (parts_low n k o O 0);
    second = step (ℓ / d 2 % d 1) (d 1) _ _ (ap (λ (l : List ℤ). get_or l 1 (pos 0)) are) (middle_below dims ℓ three h s)
        (middle_small dims ℓ three h s) (parts_low n k o O 1);
    third = step (ℓ % d 2) (d 2) _ _ (ap (λ (l : List ℤ). get_or l 2 (pos 0)) are) (last_below_lem dims ℓ three h s) (last_small dims ℓ three h s)
        (parts_low n k o O 2);
    small = s;
  }

-- by the listed offset with a code it finds the neighbour by frame's
pub found_by : (n k : ℕ) (o : List ℤ) → OffsetOf n k o → (dims : List ℕ) (ℓ : ℕ) {r : Option ℕ} → r ≡ nbr_of dims (map digit o) ℓ
    → r ≡ nbr_of dims (three_digits n k) ℓ
found_by n k o O dims ℓ e = e ∙ ap (λ (l : List ℕ). nbr_of dims l ℓ) (three_digits_lem n k o O)
