-- The coordinates of a line in three dimensions, and its neighbour by them.
-- Assumes nothing.
use mathlib.Core.Path.{◌≡◌, refl, sym, ap, ap₂, ◌∙◌, subst}
use mathlib.Core.Bool.{Bool, true, false, ◌&&◌}
use mathlib.Core.List.{List, [], ◌∷◌, ◌++◌, map}
use Prim.Native.Nat.{ℕ, zero, suc, ◌+◌, ◌-◌, ◌*◌, ◌/◌, ◌%◌, ◌≤◌, ◌<◌}
use native.Mathlib.Nat.{mul_assoc, add-mul, mul-le-mul_left, mul-le-mul_right, div-lt_iff_lt-mul, div-eq_of_lt, mod-eq_of_lt, div-le_self}
use native.Mathlib.Nat.{mod-le, mod-lt}
use native.Mathlib.Omega.{arith}
use lib.IntN.{ℤ, pos, nat_abs}
use lib.ListN.{length, get_or, replicate}
use mir.Syntax.{w64}
use mir.Val.{SFits, to_z}
use Rattle.frame.specs.Shape.{size, width, leading, coords}
use Rattle.frame.specs.Touches.{has_nbr, nbr_line}
use Rattle.frame.proofs.ShapeLaws.{factor_pos, size_lines_lem, coords_line}
use Rattle.geo.proofs.DimsLaws.{three_entries, size_ones}
use Rattle.frame.specs.Structure.{digit}
use Rattle.link.specs.Coordinates.{moves_in}
use Rattle.link.specs.Lines.{signed_coords, nbr_of}
use Rattle.sweep.proofs.SignedLaws.{small}
use Rattle.std.proofs.Common.{Some, None}

-- ---- coordinates

module _ (d0 d1 d2 ℓ : ℕ) (h : ℓ < size (d0 ∷ d1 ∷ d2 ∷ [])) where
  abbrev dims : List ℕ
  dims = d0 ∷ d1 ∷ d2 ∷ []

  pub size_three : size (d0 ∷ d1 ∷ d2 ∷ []) ≡ d0 * (d1 * d2)
  unfolding size
  size_three = ap (λ (k : ℕ). d0 * (d1 * k)) (native.Mathlib.Nat.mul-one d2)

  below_two : ℓ / d2 < size (d0 ∷ d1 ∷ [])
  unfolding leading width
  below_two =
      let e : size (d0 ∷ d1 ∷ d2 ∷ []) ≡ size (d0 ∷ d1 ∷ []) * d2 = size_lines_lem (d0 ∷ d1 ∷ d2 ∷ []) in
      (div-lt_iff_lt-mul (factor_pos (size (d0 ∷ d1 ∷ [])) d2 ℓ (subst (λ (k : ℕ). ℓ < k) e h))).1 (subst (λ (k : ℕ). ℓ < k) e h)

  -- from the last dimension on, as the Rust takes them
  pub three_coords : coords (d0 ∷ d1 ∷ d2 ∷ []) ℓ ≡ ℓ / d2 / d1 ∷ ℓ / d2 % d1 ∷ ℓ % d2 ∷ []
  unfolding leading width
  three_coords =
      let two : coords (d0 ∷ d1 ∷ []) (ℓ / d2) ≡ coords (d0 ∷ []) (ℓ / d2 / d1) ++ ℓ / d2 % d1 ∷ [] = coords_line (d0 ∷ d1 ∷ []) (ℓ / d2)
      (omega arith) below_two in
      let one : coords (d0 ∷ []) (ℓ / d2 / d1) ≡ ℓ / d2 / d1 ∷ [] = (unfold coords size in (ap (λ (k : ℕ). k ∷ []) (omega arith))) in
      coords_line (d0 ∷ d1 ∷ d2 ∷ []) ℓ (omega arith) h
      ∙ ap (λ (l : List ℕ). l ++ ℓ % d2 ∷ []) (two ∙ ap (λ (l : List ℕ). l ++ ℓ / d2 % d1 ∷ []) one)

one_le : (a b : ℕ) → 0 < a → 0 < b → 1 ≤ a * b
one_le a b p q = let h = mul-le-mul_right b (let l : 1 ≤ a = p in l) in omega (arith, h)

-- as the code works them out
module _ (dims : List ℕ) (ℓ : ℕ) (three : length dims ≡ 3) (h : ℓ < size dims) (s : size dims < 4294967296) where
  abbrev d : ℕ → ℕ
  d i = get_or dims i 0

  below : ℓ < size (d 0 ∷ d 1 ∷ d 2 ∷ [])
  below = subst (λ (l : List ℕ). ℓ < size l) (three_entries 0 dims three) h

  pub last_pos : 0 < get_or dims 2 0
  unfolding leading width
  last_pos = factor_pos (size (d 0 ∷ d 1 ∷ [])) (d 2) ℓ (subst (λ (k : ℕ). ℓ < k) (size_lines_lem (d 0 ∷ d 1 ∷ d 2 ∷ [])) below)

  pub middle_pos : 0 < get_or dims 1 0
  unfolding leading width
  middle_pos = factor_pos (size (d 0 ∷ [])) (d 1) (ℓ / d 2)
      (subst (λ (k : ℕ). ℓ / d 2 < k) (size_lines_lem (d 0 ∷ d 1 ∷ [])) (below_two (d 0) (d 1) (d 2) ℓ below))

  first_low : ℓ / d 2 / d 1 < 4294967296
  first_low = omega (arith, h, s, div-le_self ℓ (d 2), div-le_self (ℓ / d 2) (d 1))

  middle_low : ℓ / d 2 % d 1 < 4294967296
  middle_low = omega (arith, h, s, div-le_self ℓ (d 2), mod-le (ℓ / d 2) (d 1))

  last_low : ℓ % d 2 < 4294967296
  last_low = omega (arith, h, s, mod-le ℓ (d 2))

  pub first_fits : SFits w64 (pos (ℓ / d 2 / d 1))
  first_fits = record { sfits = omega (arith, first_low) }

  pub middle_fits : SFits w64 (pos (ℓ / d 2 % d 1))
  middle_fits = record { sfits = omega (arith, middle_low) }

  pub last_fits : SFits w64 (pos (ℓ % d 2))
  last_fits = record { sfits = omega (arith, last_low) }

  -- each is below its dimension, and so that dimension is one
  rows_below : ℓ / d 2 < d 0 * d 1
  unfolding leading width size
  rows_below =
      let e = size_lines_lem (d 0 ∷ d 1 ∷ []) in
      let f : d 0 * 1 ≡ d 0 = omega arith in
      subst (λ (k : ℕ). ℓ / d 2 < k) (e ∙ ap (λ (k : ℕ). k * d 1) f) (below_two (d 0) (d 1) (d 2) ℓ below)

  pub first_below : ℓ / d 2 / d 1 < d 0
  first_below = (div-lt_iff_lt-mul middle_pos).1 rows_below

  pub middle_below : ℓ / d 2 % d 1 < d 1
  middle_below = mod-lt (ℓ / d 2) middle_pos

  pub last_below_lem : ℓ % d 2 < d 2
  last_below_lem = mod-lt ℓ last_pos

  size_is : size dims ≡ d 0 * (d 1 * d 2)
  size_is = ap size (three_entries 0 dims three) ∙ size_three (d 0) (d 1) (d 2) ℓ below

  -- every dimension is at most the product
  pub first_small : d 0 < 4294967296
  first_small =
      let a = mul-le-mul_left (d 0) (let l : 1 ≤ d 1 * d 2 = one_le (d 1) (d 2) middle_pos last_pos in l) in
      omega (arith, a, s, size_is)

  pub middle_small : d 1 < 4294967296
  middle_small =
      let a = mul-le-mul_left (d 1) (let l : 1 ≤ d 2 = last_pos in l) in
      let b = mul-le-mul_right (d 1 * d 2) (let l : 1 ≤ d 0 = omega (arith, first_below) in l) in
      omega (arith, a, b, s, size_is)

  pub last_small : d 2 < 4294967296
  last_small =
      let a = mul-le-mul_right (d 2) (let l : 1 ≤ d 1 = middle_pos in l) in
      let b = mul-le-mul_right (d 1 * d 2) (let l : 1 ≤ d 0 = omega (arith, first_below) in l) in
      omega (arith, a, b, s, size_is)

  pub coords_are : coords dims ℓ ≡ ℓ / d 2 / d 1 ∷ ℓ / d 2 % d 1 ∷ ℓ % d 2 ∷ []
  coords_are = ap (λ (l : List ℕ). coords l ℓ) (three_entries 0 dims three) ∙ three_coords (d 0) (d 1) (d 2) ℓ below

  pub coords_right : to_z w64 (ℓ / d 2 / d 1) ∷ to_z w64 (ℓ / d 2 % d 1) ∷ to_z w64 (ℓ % d 2) ∷ [] ≡ signed_coords dims ℓ
  coords_right =
      ap₂ (λ (x : ℤ) (l : List ℤ). x ∷ l) (small _ first_low)
      (ap₂ (λ (x : ℤ) (l : List ℤ). x ∷ l) (small _ middle_low) (ap (λ (x : ℤ). x ∷ []) (small _ last_low)))
      ∙ sym (ap (map pos) coords_are)

-- ---- neighbours

regroup : (a b c : Bool) → a && (b && (c && true)) ≡ (a && b) && c
regroup false b c = refl
regroup true false c = refl
regroup true true false = refl
regroup true true true = refl

horner : (y0 y1 y2 d1 d2 : ℕ) → y0 * (d1 * (d2 * 1)) + (y1 * (d2 * 1) + (y2 * 1 + 0)) ≡ (y0 * d1 + y1) * d2 + y2
horner y0 y1 y2 d1 d2 =
    let e : d2 * 1 ≡ d2 = omega arith in
    rw e (omega (arith, add-mul (y0 * d1) y1 d2, mul_assoc y0 d1 d2))

module _ (d0 d1 d2 t0 t1 t2 ℓ : ℕ) where
  abbrev x : ℕ → ℕ
  x i = get_or (coords (d0 ∷ d1 ∷ d2 ∷ []) ℓ) i 0

  pub three_has : has_nbr (d0 ∷ d1 ∷ d2 ∷ []) (t0 ∷ t1 ∷ t2 ∷ []) ℓ ≡ (moves_in (x 0) t0 d0 && moves_in (x 1) t1 d1) && moves_in (x 2) t2 d2
  unfolding has_nbr coords size
  three_has = regroup (moves_in (x 0) t0 d0) (moves_in (x 1) t1 d1) (moves_in (x 2) t2 d2)

  pub three_line : nbr_line (d0 ∷ d1 ∷ d2 ∷ []) (t0 ∷ t1 ∷ t2 ∷ []) ℓ ≡ ((x 0 + t0 - 1) * d1 + (x 1 + t1 - 1)) * d2 + (x 2 + t2 - 1)
  unfolding nbr_line coords size
  three_line = horner (x 0 + t0 - 1) (x 1 + t1 - 1) (x 2 + t2 - 1) d1 d2

-- the line of the coordinates v0, v1, v2 is one of the frame's, and what leads to its number fits
module _ (d0 d1 d2 v0 v1 v2 : ℕ) (h0 : v0 < d0) (h1 : v1 < d1) (h2 : v2 < d2) where
  rows : v0 * d1 + v1 < d0 * d1
  rows = let a = mul-le-mul_right d1 h0 in omega (arith, add-mul v0 1 d1, a)

  pub line_below : (v0 * d1 + v1) * d2 + v2 < size (d0 ∷ d1 ∷ d2 ∷ [])
  unfolding size
  line_below =
      let a = mul-le-mul_right d2 rows in
      let e : d2 * 1 ≡ d2 = omega arith in
      rw e (omega (arith, add-mul (v0 * d1 + v1) 1 d2, a, mul_assoc d0 d1 d2))

  pub row_below : v0 * d1 + v1 ≤ (v0 * d1 + v1) * d2
  row_below = let a = mul-le-mul_left (v0 * d1 + v1) (let l : 1 ≤ d2 = omega arith in l) in omega (arith, a)

nat_entry : (l : List ℕ) (i : ℕ) → nat_abs (get_or (map pos l) i (pos 0)) ≡ get_or l i 0
nat_entry [] i = refl
nat_entry (a ∷ l) zero = refl
nat_entry (a ∷ l) (suc i) = nat_entry l i

-- the test by coordinates is the frame's, and so is the line
module _ (dims : List ℕ) (c o : List ℤ) (three_dims : length dims ≡ 3) (three-o : length o ≡ 3) (ℓ : ℕ)
    (is_c : c ≡ signed_coords dims ℓ) where
  abbrev D : ℕ → ℕ
  D i = get_or dims i 0

  abbrev Y : ℕ → ℕ
  Y i = get_or (coords (D 0 ∷ D 1 ∷ D 2 ∷ []) ℓ) i 0

  abbrev X : ℕ → ℕ
  X i = nat_abs (get_or c i (pos 0))

  abbrev O : ℕ → ℕ
  O i = digit (get_or o i (pos 0))

  digits_are : map digit o ≡ O 0 ∷ O 1 ∷ O 2 ∷ []
  digits_are = ap (map digit) (three_entries (pos 0) o three-o)

  place : (i : ℕ) → get_or (coords (D 0 ∷ D 1 ∷ D 2 ∷ []) ℓ) i 0 ≡ X i
  place i =
      ap (λ (l : List ℕ). get_or (coords l ℓ) i 0) (sym (three_entries 0 dims three_dims))
      ∙ sym (ap (λ (l : List ℤ). nat_abs (get_or l i (pos 0))) is_c ∙ nat_entry (coords dims ℓ) i)

  three_ways : {A : Type 0} (f : ℕ → ℕ → ℕ → A) → f (Y 0) (Y 1) (Y 2) ≡ f (X 0) (X 1) (X 2)
  three_ways f = rw (place 0, place 1, place 2)

  has_is : has_nbr dims (map digit o) ℓ ≡ (moves_in (X 0) (O 0) (D 0) && moves_in (X 1) (O 1) (D 1)) && moves_in (X 2) (O 2) (D 2)
  has_is =
      ap₂ (λ (ds : List ℕ) (ts : List ℕ). has_nbr ds ts ℓ) (three_entries 0 dims three_dims) digits_are
      ∙ three_has (D 0) (D 1) (D 2) (O 0) (O 1) (O 2) ℓ
      ∙ three_ways (λ a b c. (moves_in a (O 0) (D 0) && moves_in b (O 1) (D 1)) && moves_in c (O 2) (D 2))

  line_is : nbr_line dims (map digit o) ℓ ≡ ((X 0 + O 0 - 1) * D 1 + (X 1 + O 1 - 1)) * D 2 + (X 2 + O 2 - 1)
  line_is =
      ap₂ (λ (ds : List ℕ) (ts : List ℕ). nbr_line ds ts ℓ) (three_entries 0 dims three_dims) digits_are
      ∙ three_line (D 0) (D 1) (D 2) (O 0) (O 1) (O 2) ℓ
      ∙ three_ways (λ a b c. ((a + O 0 - 1) * D 1 + (b + O 1 - 1)) * D 2 + (c + O 2 - 1))

  pub nbr_yes : (moves_in (X 0) (O 0) (D 0) && moves_in (X 1) (O 1) (D 1)) && moves_in (X 2) (O 2) (D 2) ≡ true
      → Some (((X 0 + O 0 - 1) * D 1 + (X 1 + O 1 - 1)) * D 2 + (X 2 + O 2 - 1)) ≡ nbr_of dims (map digit o) ℓ
  unfolding nbr_of
  nbr_yes e = rw (has_is ∙ e, line_is)

  pub nbr_no : (moves_in (X 0) (O 0) (D 0) && moves_in (X 1) (O 1) (D 1)) && moves_in (X 2) (O 2) (D 2) ≡ false
      → None ≡ nbr_of dims (map digit o) ℓ
  unfolding nbr_of
  nbr_no e = rw (has_is ∙ e)

-- ---- a dimension of 1 in front, in which the offset is 0, changes nothing

pub has_one : (ds ts : List ℕ) (ℓ : ℕ) → ℓ < size ds → has_nbr (1 ∷ ds) (1 ∷ ts) ℓ ≡ has_nbr ds ts ℓ
unfolding has_nbr
has_one ds ts ℓ h = rw (div-eq_of_lt h, mod-eq_of_lt h)

pub line_one : (ds ts : List ℕ) (ℓ : ℕ) → ℓ < size ds → nbr_line (1 ∷ ds) (1 ∷ ts) ℓ ≡ nbr_line ds ts ℓ
unfolding nbr_line
line_one ds ts ℓ h = rw (div-eq_of_lt h, mod-eq_of_lt h) (omega arith)

pub has_ones : (j : ℕ) (ds ts : List ℕ) (ℓ : ℕ) → ℓ < size ds → has_nbr (replicate j 1 ++ ds) (replicate j 1 ++ ts) ℓ ≡ has_nbr ds ts ℓ
has_ones zero ds ts ℓ h = refl
has_ones (suc j) ds ts ℓ h = has_one (replicate j 1 ++ ds) (replicate j 1 ++ ts) ℓ (rw (size_ones j ds) h) ∙ has_ones j ds ts ℓ h

pub line_ones : (j : ℕ) (ds ts : List ℕ) (ℓ : ℕ) → ℓ < size ds → nbr_line (replicate j 1 ++ ds) (replicate j 1 ++ ts) ℓ ≡ nbr_line ds ts ℓ
line_ones zero ds ts ℓ h = refl
line_ones (suc j) ds ts ℓ h = line_one (replicate j 1 ++ ds) (replicate j 1 ++ ts) ℓ (rw (size_ones j ds) h) ∙ line_ones j ds ts ℓ h
