-- The dimensions of a shape of rank 1 to 4: the leading ones as three, and the width.
-- Assumes nothing.
use mathlib.Core.Path.{◌≡◌, refl, sym, ap, ◌∙◌}
use mathlib.Core.Bool.{Bool, false, ◌||◌}
use mathlib.Core.List.{List, [], ◌∷◌, ◌++◌}
use Prim.Native.Nat.{ℕ, zero, suc, ◌-◌, ◌≤◌}
use native.Mathlib.Omega.{arith}
use lib.Dec.{eqb, ltb}
use lib.ListN.{length, get_or, replicate}
use Rattle.std.specs.List.{list_any}
use Rattle.frame.specs.ChainRule.{range}
use Rattle.frame.specs.Lists.{entries}
use Rattle.frame.specs.Shape.{size, width, leading, lines}
use Rattle.frame.specs.Causes.{bad_rank, has_zero}
use Rattle.frame.proofs.EntryLaws.{length_entries, get_d_entries}
use Rattle.frame.proofs.CauseLaws.{rank_right}

-- a list of three is known by its places
pub three_entries : {A : Type 0} (z : A) (l : List A) → length l ≡ 3 → l ≡ get_or l 0 z ∷ get_or l 1 z ∷ get_or l 2 z ∷ []
three_entries z [] h = absurd (omega arith)
three_entries z (a ∷ []) h = absurd (omega arith)
three_entries z (a ∷ (b ∷ [])) h = absurd (omega arith)
three_entries z (a ∷ (b ∷ (c ∷ []))) h = refl
three_entries z (a ∷ (b ∷ (c ∷ (d ∷ l)))) h = absurd (omega arith)

-- a dimension of 1 in front changes no product
pub size_ones : (j : ℕ) (ds : List ℕ) → size (replicate j 1 ++ ds) ≡ size ds
unfolding size
size_ones zero ds = refl
size_ones (suc j) ds = let e = size_ones j ds in omega arith

-- ---- rank

-- `bad_rank` is told a count, and cause 1 is a condition on a shape of that length
pub bad_rank_is : (shape : List ℕ) (rank : ℕ) (r : Bool) → length shape ≡ rank → r ≡ (eqb rank 0 || ltb 4 rank) → r ≡ bad_rank shape
unfolding bad_rank
bad_rank_is shape rank r e h = h ∙ ap (λ (k : ℕ). eqb k 0 || ltb 4 k) (sym e)

pub rank_limits : (rank : ℕ) (shape : List ℕ) → bad_rank (entries rank shape) ≡ false → (1 ≤ rank) × (rank ≤ 4)
rank_limits rank shape h =
    let r = rank_right (entries rank shape) h in let e = length_entries rank shape in (omega (arith, r.0), omega (arith, r.1))

-- ---- leading dimensions

-- as three: 1 in those before the first
abbrev pub three : ℕ → List ℕ → List ℕ
three rank shape = replicate (4 - rank) 1 ++ leading (entries rank shape)

module _ (rank : ℕ) (shape : List ℕ) where
  pub three_of_1 : rank ≡ 1 → 1 ∷ 1 ∷ 1 ∷ [] ≡ three rank shape
  unfolding entries range leading
  three_of_1 e = ap (λ (k : ℕ). three k shape) (sym e)

  pub three_of_2 : rank ≡ 2 → 1 ∷ 1 ∷ get_or shape 0 0 ∷ [] ≡ three rank shape
  unfolding entries range leading
  three_of_2 e = ap (λ (k : ℕ). three k shape) (sym e)

  pub three_of_3 : rank ≡ 3 → 1 ∷ get_or shape 0 0 ∷ get_or shape 1 0 ∷ [] ≡ three rank shape
  unfolding entries range leading
  three_of_3 e = ap (λ (k : ℕ). three k shape) (sym e)

  pub three_of_4 : rank ≡ 4 → get_or shape 0 0 ∷ get_or shape 1 0 ∷ get_or shape 2 0 ∷ [] ≡ three rank shape
  unfolding entries range leading
  three_of_4 e = ap (λ (k : ℕ). three k shape) (sym e)

  pub three_size : size (three rank shape) ≡ lines (entries rank shape)
  three_size = size_ones (4 - rank) (leading (entries rank shape))

-- ---- a dimension of 0

pub zero_ones : (k : ℕ) (l : List ℕ) → has_zero (replicate k 1 ++ l) ≡ has_zero l
unfolding has_zero
zero_ones zero l = refl
zero_ones (suc k) l = zero_ones k l

pub zero_among : (l : List ℕ) → list_any (λ d. eqb d 0) l ≡ has_zero l
unfolding has_zero
zero_among [] = refl
zero_among (d ∷ ds) = ap (λ (b : Bool). eqb d 0 || b) (zero_among ds)

-- ---- width

last_entry : (l : List ℕ) (n : ℕ) → length l ≡ suc n → width l ≡ get_or l n 0
unfolding width
last_entry [] n h = absurd (omega arith)
last_entry (d ∷ []) zero h = refl
last_entry (d ∷ []) (suc n) h = absurd (omega arith)
last_entry (d ∷ (e ∷ ds)) zero h = absurd (omega arith)
last_entry (d ∷ (e ∷ ds)) (suc n) h = last_entry (e ∷ ds) n (omega arith)

pub width_at : (rank : ℕ) (shape : List ℕ) → bad_rank (entries rank shape) ≡ false → get_or shape (rank - 1) 0 ≡ width (entries rank shape)
width_at rank shape h =
    let r = rank_limits rank shape h in
    let e : rank ≡ suc (rank - 1) = omega arith in
    sym (last_entry (entries rank shape) (rank - 1) (length_entries rank shape ∙ e) ∙ get_d_entries rank shape (rank - 1) (omega arith))
