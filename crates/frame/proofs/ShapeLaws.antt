-- Lines, columns and coordinates.
-- Assumes nothing.
use mathlib.Core.Path.{◌≡◌, refl, sym, ap, ap₂, ◌∙◌, subst}
use mathlib.Core.Bool.{Bool}
use mathlib.Core.List.{List, [], ◌∷◌, ◌++◌, head-eq_of_cons-eq, tail-eq_of_cons-eq}
use Prim.Native.Nat.{ℕ, zero, suc, ◌+◌, ◌*◌, ◌/◌, ◌%◌, ◌≤◌, ◌<◌}
use native.Mathlib.Nat.{not-suc-le-zero, div-add-mod', mod-lt, mod-eq_of_lt, mul-zero, mul_assoc, mul_comm, mul-le-mul_right}
use native.Mathlib.Nat.{div-div-eq-div-mul}
use native.Mathlib.Omega.{arith}
use lib.Arith.{lt-one, digits_div, digits_mod, mod-mul}
use lib.ListN.{length}
use Rattle.frame.specs.Shape.{size, width, leading, lines, coords}

-- a factor of a product that has something below it is not 0
pub factor_pos : (d m p : ℕ) → p < d * m → 0 < m
factor_pos d zero p h = absurd (not-suc-le-zero (rw (mul-zero d) at h))
factor_pos d (suc m) p h = omega arith

-- a frame has L × w cells
pub size_lines_lem : (shape : List ℕ) → size shape ≡ lines shape * width shape
unfolding size leading width
size_lines_lem [] = refl
size_lines_lem (d ∷ []) = omega arith
size_lines_lem (d ∷ (e ∷ ds)) = ap (λ (k : ℕ). d * k) (size_lines_lem (e ∷ ds)) ∙ sym (mul_assoc d (lines (e ∷ ds)) (width (e ∷ ds)))

pub length_leading : (shape : List ℕ) → 0 < length shape → length shape ≡ suc (length (leading shape))
unfolding leading
length_leading [] h = absurd (not-suc-le-zero h)
length_leading (d ∷ []) h = refl
length_leading (d ∷ (e ∷ ds)) h = ap suc (length_leading (e ∷ ds) (omega arith))

pub length_coords : (shape : List ℕ) (p : ℕ) → length (coords shape p) ≡ length shape
unfolding coords
length_coords [] p = refl
length_coords (d ∷ ds) p = ap suc (length_coords ds (p % size ds))

-- a cell is known by its coordinates
pub coords_inj : (shape : List ℕ) (p q : ℕ) → p < size shape → q < size shape → coords shape p ≡ coords shape q → p ≡ q
unfolding coords size
coords_inj [] p q hp hq e = lt-one hp ∙ sym (lt-one hq)
coords_inj (d ∷ ds) p q hp hq e =
    let m = size ds in
    let pos = factor_pos d m p hp in
    let a : p / m ≡ q / m = head-eq_of_cons-eq e in
    let b : p % m ≡ q % m = coords_inj ds (p % m) (q % m) (mod-lt p pos) (mod-lt q pos) (tail-eq_of_cons-eq e) in
    sym (div-add-mod' p m) ∙ ap₂ (λ (x : ℕ) (y : ℕ). x * m + y) a b ∙ div-add-mod' q m

-- a number below the size, by the first dimension
below_first : (d : ℕ) (ds : List ℕ) (p : ℕ) → p < size (d ∷ ds) → p < d * size ds
unfolding size
below_first d ds p h = h

-- a cell's coordinates are its line's, and its column
pub coords_line : (shape : List ℕ) (p : ℕ) → 0 < length shape → p < size shape
    → coords shape p ≡ coords (leading shape) (p / width shape) ++ p % width shape ∷ []
unfolding leading width coords
coords_line [] p r h = absurd (not-suc-le-zero r)
coords_line (d ∷ []) p r h =
    unfold size in ap (λ (k : ℕ). k ∷ []) (by_one p ∙ sym (mod-eq_of_lt (let g : p < d * 1 = h in let l : p < d = omega arith in l)))
  where
    by_one : (k : ℕ) → k / 1 ≡ k
    by_one k = omega arith
coords_line (d ∷ (e ∷ ds)) p r h =
    ap₂ (λ (k : ℕ) (l : List ℕ). k ∷ l) first (go (coords_line (e ∷ ds) (p % size (e ∷ ds)) (omega arith) (mod-lt p pos)))
  where
    w : ℕ
    w = width (e ∷ ds)

    L : ℕ
    L = lines (e ∷ ds)

    pos : 0 < size (e ∷ ds)
    pos = factor_pos d (size (e ∷ ds)) p (below_first d (e ∷ ds) p h)

    posw : 0 < w
    posw = factor_pos L w 0 (subst (λ (k : ℕ). 0 < k) (size_lines_lem (e ∷ ds)) pos)

    pos_l : 0 < L
    pos_l = factor_pos w L 0 (subst (λ (k : ℕ). 0 < k) (size_lines_lem (e ∷ ds) ∙ mul_comm L w) pos)

    first : p / size (e ∷ ds) ≡ p / w / L
    first = ap (λ (k : ℕ). p / k) (size_lines_lem (e ∷ ds) ∙ mul_comm L w) ∙ sym (div-div-eq-div-mul p w L)

    parts : p % size (e ∷ ds) ≡ p / w % L * w + p % w
    parts = ap (λ (k : ℕ). p % k) (size_lines_lem (e ∷ ds)) ∙ mod-mul p {m = L} {c = w} pos_l posw

    go : coords (e ∷ ds) (p % size (e ∷ ds)) ≡ coords (leading (e ∷ ds)) (p % size (e ∷ ds) / w) ++ p % size (e ∷ ds) % w ∷ []
        → coords (e ∷ ds) (p % size (e ∷ ds)) ≡ coords (leading (e ∷ ds)) (p / w % L) ++ p % w ∷ []
    go i =
        i
        ∙ ap₂ (λ (a : ℕ) (b : ℕ). coords (leading (e ∷ ds)) a ++ b ∷ [])
        (ap (λ (k : ℕ). k / w) parts ∙ digits_div (p / w % L) (mod-lt p posw))
        (ap (λ (k : ℕ). k % w) parts ∙ digits_mod (p / w % L) (mod-lt p posw))

-- ---- fed lines

-- the cells are those of the frame's first n lines
pub record Fits (shape : List ℕ) (n : ℕ) (cells : List Bool) : Type 0 where
  pub ranked : 0 < length shape
  pub below : n ≤ lines shape
  pub whole : length cells ≡ n * width shape

pub fits_size : (shape : List ℕ) (n : ℕ) (cells : List Bool) → Fits shape n cells → length cells ≤ size shape
fits_size shape n cells F = rw (F.whole, size_lines_lem shape) (mul-le-mul_right (width shape) F.below)
