-- A coordinate moved by an offset, as i64 has it and as natural numbers do.
-- Assumes nothing.
use mathlib.Core.Path.{◌≡◌, sym, ap, ap₂, ◌∙◌, subst}
use mathlib.Core.Bool.{Bool, true, false, ◌&&◌, false≢true}
use Prim.Native.Nat.{ℕ, zero, suc, ◌+◌, ◌-◌, ◌≤◌, ◌<◌}
use native.Mathlib.Omega.{arith}
use borrow.Author.Tests.{lt-ltb, le-ltb, le-leb, ltb-true}
use lib.Dec.{ltb, leb, T}
use lib.IntN.{ℤ, pos, negsuc, nat_abs, ◌+ℤ◌}
use Rattle.std.proofs.Common.{Some, None}
use lib.Signed.{lt_z, le_z, non_neg}
use mir.Syntax.{w64}
use mir.Val.{SFits, Fits, of_z, to_z}
use mir.Facts.{to_z-of_z}
use Rattle.groups.proofs.BoolLaws.{and_left}
use Rattle.frame.specs.Structure.{digit}
use Rattle.link.specs.Coordinates.{Move, moves_in, moved_to}
use Rattle.sweep.proofs.SignedLaws.{sub_cases, small, near_fits, lt_left, off_back}

-- a signed number in a local: its bits, read back
abbrev pub held : ℤ → ℤ
held z = to_z w64 (of_z w64 z)

coord_fits : (c : ℤ) → c ≡ pos (nat_abs c) → nat_abs c < 4294967296 → SFits w64 c
coord_fits c e h = subst (SFits w64) (sym e) (record { sfits = omega arith })

pub coord_back : (c : ℤ) → c ≡ pos (nat_abs c) → nat_abs c < 4294967296 → held c ≡ c
coord_back c e h = to_z-of_z (coord_fits c e h)

-- ---- back to an index: `v as usize` asks `T (non_neg z) × Fits w64 (nat_abs z)`, and gives `nat_abs z`
ge_zero : (z : ℤ) → lt_z z (pos 0) ≡ false → T (non_neg z)
ge_zero (pos n) e = tt
ge_zero (negsuc n) e = absurd (false≢true (sym e))

nat_move : (n : ℕ) (o : ℤ) → digit o ≤ 2 → lt_z (pos n +ℤ o) (pos 0) ≡ false → nat_abs (pos n +ℤ o) ≡ n + digit o - 1
nat_move n (pos b) k e = omega arith
nat_move n (negsuc zero) k e =
    sub_cases (λ z. lt_z z (pos 0) ≡ false → nat_abs z ≡ n + 0 - 1) n 1 (λ q r. absurd (false≢true (sym r))) (λ q r. omega arith) e
nat_move n (negsuc (suc b)) k e = absurd (omega arith)

-- ---- a coordinate c and an offset o

module _ (c o : ℤ) (is_c : c ≡ pos (nat_abs c)) (low : nat_abs c < 4294967296) (is-o : digit o ≤ 2) where
  abbrev x : ℕ
  x = nat_abs c

  sum_is : held c +ℤ held o ≡ pos x +ℤ o
  sum_is = ap₂ (λ (a : ℤ) (b : ℤ). a +ℤ b) (coord_back c is_c low ∙ is_c) (off_back o is-o)

  pub move_fits : SFits w64 (held c +ℤ held o)
  move_fits = subst (SFits w64) (sym sum_is) (near_fits x o low is-o)

  pub move_is : held (held c +ℤ held o) ≡ pos x +ℤ o
  move_is = to_z-of_z move_fits ∙ sum_is

  -- it stays a coordinate, as a natural number
  module _ (up : 0 < nat_abs c + digit o) where
    not_below : lt_z (pos x +ℤ o) (pos 0) ≡ false
    not_below = lt_left x 0 o is-o ∙ le-ltb (x + digit o) (0 + 1) (omega arith)

    pub move_nat : nat_abs (held (held c +ℤ held o)) ≡ x + digit o - 1
    move_nat = ap nat_abs move_is ∙ nat_move x o is-o not_below

    pub move_cast : T (non_neg (held (held c +ℤ held o))) × Fits w64 (nat_abs (held (held c +ℤ held o)))
    move_cast =
        (subst (λ (z : ℤ). T (non_neg z)) (sym move_is) (ge_zero (pos x +ℤ o) not_below), record { fits = rw move_nat (omega arith) })

-- ---- the test

within : ℤ → ℕ → Bool
within z d = le_z (pos 0) z && lt_z z (pos d)

ltb_leb : (a d b : ℕ) → suc a ≡ b → ltb a d ≡ leb b d
ltb_leb a d b e = ap (λ (x : ℕ). leb x d) e

within_moves : (n d : ℕ) (o : ℤ) → digit o ≤ 2 → within (pos n +ℤ o) d ≡ moves_in n (digit o) d
unfolding within
within_moves n d (pos b) k =
    ap (λ (t : Bool). t && ltb (n + b) d) (le-leb 0 (n + b) (omega arith)) ∙ ltb_leb (n + b) d (n + suc b) (omega arith)
    ∙ sym (ap (λ (t : Bool). t && leb (n + suc b) d) (lt-ltb 0 (n + suc b) (omega arith)))
within_moves n d (negsuc zero) k =
    sub_cases (λ z. le_z (pos 0) z && lt_z z (pos d) ≡ ltb 0 (n + 0) && leb (n + 0) d) n 1
    (λ q. sym (ap (λ (t : Bool). t && leb (n + 0) d) (le-ltb 0 (n + 0) (omega arith))))
    (λ q. ap (λ (t : Bool). t && ltb (n - 1) d) (le-leb 0 (n - 1) (omega arith)) ∙ ltb_leb (n - 1) d (n + 0)
    (omega arith) ∙ sym (ap (λ (t : Bool). t && leb (n + 0) d) (lt-ltb 0 (n + 0) (omega arith))))
within_moves n d (negsuc (suc b)) k = absurd (omega arith)

module _ (c o : ℤ) (d : ℕ) (S : Move c o d) where
  low : nat_abs c < 4294967296
  low = omega (arith, S.below, S.small)

  pub inside_fits : SFits w64 (held c +ℤ held o)
  inside_fits = move_fits c o S.coordinate low S.offset

  -- the test of the sum, as i64 has it
  test_is : le_z (pos 0) (held (held c +ℤ held o)) && lt_z (held (held c +ℤ held o)) (to_z w64 d) ≡ moves_in (nat_abs c) (digit o) d
  test_is =
      ap₂ (λ (z : ℤ) (y : ℤ). le_z (pos 0) z && lt_z z y) (move_is c o S.coordinate low S.offset) (small d (omega (arith, S.small)))
      ∙ (unfold within in (within_moves (nat_abs c) d o S.offset))

  module _ (inside : le_z (pos 0) (held (held c +ℤ held o)) && lt_z (held (held c +ℤ held o)) (to_z w64 d) ≡ true) where
    up : 0 < nat_abs c + digit o
    up = ltb-true 0 (nat_abs c + digit o) (and_left _ (leb (nat_abs c + digit o) d) (sym test_is ∙ inside))

    pub inside_cast : T (non_neg (held (held c +ℤ held o))) × Fits w64 (nat_abs (held (held c +ℤ held o)))
    inside_cast = move_cast c o S.coordinate low S.offset up

    pub inside_moved : Some (nat_abs (held (held c +ℤ held o))) ≡ moved_to (nat_abs c) (digit o) d
    unfolding moved_to
    inside_moved = rw (sym test_is ∙ inside) (ap (λ (n : ℕ). Some n) (move_nat c o S.coordinate low S.offset up))

  pub outside_moved : le_z (pos 0) (held (held c +ℤ held o)) && lt_z (held (held c +ℤ held o)) (to_z w64 d) ≡ false
      → None ≡ moved_to (nat_abs c) (digit o) d
  unfolding moved_to
  outside_moved e = rw (sym test_is ∙ e)

  -- read out of an array, it is the same
  pub move_back : Move (held c) (held o) d
  move_back = rw (coord_back c S.coordinate low, off_back o S.offset) S

  pub moved_back : moved_to (nat_abs (held c)) (digit (held o)) d ≡ moved_to (nat_abs c) (digit o) d
  moved_back = rw (coord_back c S.coordinate low, off_back o S.offset)
