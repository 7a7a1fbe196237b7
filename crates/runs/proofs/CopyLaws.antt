-- Copying cells to 64 bytes that show a line's flags, for any kind of cell.
-- Assumes nothing.
use mathlib.Core.Bool.{Bool, true, false}
use mathlib.Core.Path.{◌≡◌, refl, sym, ap, ◌∙◌, subst}
use mathlib.Core.List.{List, [], ◌∷◌, map}
use Prim.Native.Nat.{ℕ, zero, suc, ◌+◌, ◌≤◌, ◌<◌}
use native.Mathlib.Omega.{arith}
use native.Mathlib.Decide.{dec_lt}
use lib.ListN.{length, get_or, set, replicate, length-set, length-replicate, length-map, get_or-eq_default}
use lib.Seq.{get_or-set_same, get_or-set_other}
use mir.Val.{bool_byte}
use Rattle.frame.specs.Kinds.{nz}
use Rattle.runs.specs.Masks.{Shows}

-- the first i bytes show flags, and the others are zero
pub record Copied (flags : List Bool) (b : List ℕ) (i : ℕ) : Type 0 where
  pub long : length b ≡ 64
  pub shown : Shows flags b i
  pub blank : (j : ℕ) → i ≤ j → nz (get_or b j 0) ≡ false

-- the flag of a cell of any kind
pub flag_of : {A : Type 0} (f : A → Bool) (line : List A) (n : ℕ) (d : A) → n < length line → f (get_or line n d) ≡ get_or (map f line) n false
flag_of f [] n d h = absurd (omega arith)
flag_of f (a ∷ line) zero d h = refl
flag_of f (a ∷ line) (suc n) d h = flag_of f line n d (omega arith)

-- the byte of a flag
pub nz_byte : (b : Bool) → nz (bool_byte b) ≡ b
unfolding nz
nz_byte false = refl
nz_byte true = refl

zeros : (n j : ℕ) → ◌≡◌ {A = ℕ} (get_or (replicate n 0) j 0) 0
zeros zero j = refl
zeros (suc n) zero = refl
zeros (suc n) (suc j) = zeros n j

nz_zero : (v : ℕ) → v ≡ 0 → nz v ≡ false
unfolding nz
nz_zero v e = ap nz e

pub copy_none : (flags : List Bool) → Copied flags (replicate 64 0) 0
copy_none flags = record {
  long = length-replicate {A = ℕ} 64 0;
  shown = λ i h. absurd (omega arith);
  blank = λ j h. nz_zero _ (zeros 64 j);
}

-- one byte more
copy_turn : {flags : List Bool} {b : List ℕ} {i : ℕ} (v : ℕ) → i < 64 → nz v ≡ get_or flags i false → Copied flags b i
    → Copied flags (set b i v) (i + 1)
copy_turn {flags} {b} {i} v h e f =
    record {
      long = length-set b i v ∙ f.long;
      shown = λ k p. go k p (dec_lt k i);
      blank = λ j p. ap nz (get_or-set_other b i j v 0 (λ q. omega arith)) ∙ f.blank j (omega arith);
    }
  where
    inside : i < length b
    inside = subst (λ (n : ℕ). i < n) (sym f.long) h

    go : (k : ℕ) → k < i + 1 → Dec (k < i) → nz (get_or (set b i v) k 0) ≡ get_or flags k false
    go k p (yes l) = ap nz (get_or-set_other b i k v 0 (λ q. omega arith)) ∙ f.shown k l
    go k p (no l) =
        let q : i ≡ k = omega arith in
        subst (λ (n : ℕ). nz (get_or (set b i v) n 0) ≡ get_or flags n false) q (ap nz (get_or-set_same b i v 0 inside) ∙ e)

-- one cell's byte more; c is the cell
pub copy_cell : {A : Type 0} (f : A → Bool) (cells : List A) {b : List ℕ} {i : ℕ} (m v : ℕ) (c : A) → i < 64 → i < length cells
    → i + 1 ≡ m → nz v ≡ f c → c ≡ get_or cells i c → Copied (map f cells) b i → Copied (map f cells) (set b i v) m
copy_cell f cells {b} {i} m v c h g next byte is copied =
    subst (Copied (map f cells) (set b i v)) next (copy_turn v h (byte ∙ ap f is ∙ flag_of f cells i c g) copied)

-- as many as there are cells: the flags past them are false
pub copy_all : {A : Type 0} (f : A → Bool) (cells : List A) {b : List ℕ} {i : ℕ} → length cells ≤ i → Copied (map f cells) b i
    → Shows (map f cells) b 64
copy_all f cells {b} {i} g h k p = go (dec_lt k i)
  where
    go : Dec (k < i) → nz (get_or b k 0) ≡ get_or (map f cells) k false
    go (yes l) = h.shown k l
    go (no l) = let w = length-map cells f in h.blank k (omega arith) ∙ sym (get_or-eq_default (map f cells) false (omega arith))
