-- What nbr_line learns from its three tests.
-- Assumes nothing.
use mathlib.Core.Path.{◌≡◌, refl, ap, ◌∙◌}
use mathlib.Core.Bool.{Bool, true, false, ◌&&◌}
use mathlib.Core.List.{List, [], ◌∷◌, map}
use Prim.Native.Nat.{ℕ, ◌+◌, ◌-◌, ◌*◌, ◌<◌}
use native.Mathlib.Omega.{arith}
use borrow.Author.Tests.{ltb-true, leb-true}
use Rattle.std.proofs.lemmas.Option.{same_Some}
use lib.Dec.{ltb, leb}
use lib.IntN.{ℤ, pos, nat_abs}
use lib.ListN.{length, get_or}
use mir.Syntax.{w64}
use mir.Val.{Fits}
use Rattle.groups.proofs.BoolLaws.{and_left, and_right}
use Rattle.frame.specs.Shape.{size}
use Rattle.frame.specs.Structure.{digit}
use Rattle.link.specs.Coordinates.{moves_in, moved_to}
use Rattle.link.specs.Lines.{signed_coords, Moves, nbr_of}
use Rattle.link.proofs.MoveLaws.{held, moved_back}
use Rattle.geo.proofs.DimsLaws.{three_entries}
use Rattle.link.proofs.CoordinateLaws.{line_below, row_below, nbr_yes, nbr_no}
use Rattle.std.proofs.Common.{Option, Some, None}

-- one coordinate: where it moves to, it stays in the dimension
module _ (x t d : ℕ) where
  none_moves : None ≡ moved_to x t d → moves_in x t d ≡ false
  unfolding moved_to
  none_moves e = go (moves_in x t d) refl
    where
      go : (b : Bool) → moves_in x t d ≡ b → moves_in x t d ≡ false
      go true is = let same : None ≡ Some (x + t - 1) = e ∙ rw is refl in cc
      go false is = is

  some_moves : (v : ℕ) → Some v ≡ moved_to x t d → (moves_in x t d ≡ true) × (v ≡ x + t - 1) × (v < d)
  unfolding moved_to
  some_moves v e = go (moves_in x t d) refl
    where
      go : (b : Bool) → moves_in x t d ≡ b → (moves_in x t d ≡ true) × (v ≡ x + t - 1) × (v < d)
      go true is =
          let at = same_Some v (x + t - 1) (e ∙ rw is refl) in
          let up = ltb-true 0 (x + t) (and_left _ (leb (x + t) d) is) in
          let most = leb-true (x + t) d (and_right (ltb 0 (x + t)) _ is) in
          (is, at, omega arith)
      go false is = let same : Some v ≡ None = e ∙ rw is refl in cc

-- a test of three that fails
second_fails : (a c : Bool) → (a && false) && c ≡ false
second_fails true c = refl
second_fails false c = refl

third_fails : (a b : Bool) → (a && b) && false ≡ false
third_fails true true = refl
third_fails true false = refl
third_fails false b = refl

-- all three
module _ (dims : List ℕ) (c o : List ℤ) (S : Moves dims c o) where
  abbrev d : ℕ → ℕ
  d i = get_or dims i 0

  abbrev c_at : ℕ → ℤ
  c_at i = get_or c i (pos 0)

  abbrev o_at : ℕ → ℤ
  o_at i = get_or o i (pos 0)

  -- where coordinate i moves to, as the code has it
  abbrev GoesTo : ℕ → Option ℕ → Type 0
  GoesTo i r = r ≡ moved_to (nat_abs (held (c_at i))) (digit (held (o_at i))) (d i)

  abbrev stays : ℕ → Bool
  stays i = moves_in (nat_abs (c_at i)) (digit (o_at i)) (d i)

  module _ (three_dims : length dims ≡ 3) where
    -- one of them leads out of the frame
    module _ (three-o : length o ≡ 3) (ℓ : ℕ) (is_c : c ≡ signed_coords dims ℓ) where
      pub first_out : GoesTo 0 None → None ≡ nbr_of dims (map digit o) ℓ
      first_out m =
          nbr_no dims c o three_dims three-o ℓ is_c
          (ap (λ (b : Bool). (b && stays 1) && stays 2) (none_moves _ _ _ (m ∙ moved_back _ _ _ S.first)))

      pub second_out : GoesTo 1 None → None ≡ nbr_of dims (map digit o) ℓ
      second_out m =
          nbr_no dims c o three_dims three-o ℓ is_c
          (ap (λ (b : Bool). (stays 0 && b) && stays 2) (none_moves _ _ _ (m ∙ moved_back _ _ _ S.second)) ∙ second_fails (stays 0) (stays 2))

      pub third_out : GoesTo 2 None → None ≡ nbr_of dims (map digit o) ℓ
      third_out m =
          nbr_no dims c o three_dims three-o ℓ is_c
          (ap (λ (b : Bool). (stays 0 && stays 1) && b) (none_moves _ _ _ (m ∙ moved_back _ _ _ S.third)) ∙ third_fails (stays 0) (stays 1))

    -- none does
    module _ (v0 v1 v2 : ℕ) (m0 : GoesTo 0 (Some v0)) (m1 : GoesTo 1 (Some v1)) (m2 : GoesTo 2 (Some v2)) where
      in0 : (stays 0 ≡ true) × (v0 ≡ nat_abs (c_at 0) + digit (o_at 0) - 1) × (v0 < d 0)
      in0 = some_moves _ _ _ v0 (m0 ∙ moved_back _ _ _ S.first)

      in1 : (stays 1 ≡ true) × (v1 ≡ nat_abs (c_at 1) + digit (o_at 1) - 1) × (v1 < d 1)
      in1 = some_moves _ _ _ v1 (m1 ∙ moved_back _ _ _ S.second)

      in2 : (stays 2 ≡ true) × (v2 ≡ nat_abs (c_at 2) + digit (o_at 2) - 1) × (v2 < d 2)
      in2 = some_moves _ _ _ v2 (m2 ∙ moved_back _ _ _ S.third)

      below : (v0 * d 1 + v1) * d 2 + v2 < 4294967296
      below =
          let e : size dims ≡ size (d 0 ∷ d 1 ∷ d 2 ∷ []) = ap size (three_entries 0 dims three_dims) in
          omega (arith, line_below (d 0) (d 1) (d 2) v0 v1 v2 in0.2 in1.2 in2.2, e, S.small)

      pub fits_all : Fits w64 ((v0 * d 1 + v1) * d 2 + v2)
      fits_all = record { fits = omega (arith, below) }

      pub fits_rows : Fits w64 ((v0 * d 1 + v1) * d 2)
      fits_rows = record { fits = omega (arith, below) }

      pub fits_row : Fits w64 (v0 * d 1 + v1)
      fits_row = record { fits = omega (arith, below, row_below (d 0) (d 1) (d 2) v0 v1 v2 in0.2 in1.2 in2.2) }

      pub fits_first : Fits w64 (v0 * d 1)
      fits_first = record { fits = omega (arith, below, row_below (d 0) (d 1) (d 2) v0 v1 v2 in0.2 in1.2 in2.2) }

      pub at_line : length o ≡ 3 → (ℓ : ℕ) → c ≡ signed_coords dims ℓ → Some ((v0 * d 1 + v1) * d 2 + v2) ≡ nbr_of dims (map digit o) ℓ
      at_line three-o ℓ is_c = rw (in0.1, in1.1, in2.1)
          (nbr_yes dims c o three_dims three-o ℓ is_c (rw (in0.0, in1.0, in2.0) refl))
