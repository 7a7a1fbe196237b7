-- Offsets: backward is below the centre, an offset moves a cell's line and column, the left byte's offset.
-- Assumes nothing.
use mathlib.Core.Path.{◌≡◌, refl, sym, ap, ap₂, ◌∙◌, subst}
use mathlib.Core.Logic.{◌↔◌}
use mathlib.Core.Bool.{Bool, true, false, true≢false}
use mathlib.Core.List.{List, [], ◌∷◌, ◌++◌, map, zip_with, head-eq_of_cons-eq, tail-eq_of_cons-eq}
use Prim.Native.Nat.{ℕ, zero, suc, ◌+◌, ◌-◌, ◌*◌, ◌/◌, ◌%◌, ◌^◌, ◌<◌}
use native.Mathlib.Nat.{pow-succ', div-add-mod', mod-lt, div-eq_of_lt-le, suc-mul}
use native.Mathlib.Omega.{arith}
use borrow.Author.Tests.{eqb-true, eqb-false, ne_eqb, lt-ltb, le-ltb, ltb-true, ltb-false}
use lib.Dec.{eqb, ltb}
use lib.Arith.{digits_div, digits_mod}
use lib.ListN.{length, replicate, length-replicate}
use Rattle.frame.specs.Shape.{size, width, leading, lines, coords}
use Rattle.frame.specs.Structure.{offset, backward, Moved, on, left_code, left_on}
use Rattle.frame.proofs.ShapeLaws.{factor_pos, size_lines_lem, length_coords, length_leading, coords_line}

-- ---- the centre

pub size_threes : (r : ℕ) → size (replicate r 3) ≡ 3 ^ r
unfolding size
size_threes zero = refl
size_threes (suc r) = ap (λ (k : ℕ). 3 * k) (size_threes r) ∙ sym (pow-succ' 3 r)

-- the centre's code
pub mid : ℕ → ℕ
mid zero = 0
mid (suc r) = 3 ^ r + mid r

pub twice_mid : (r : ℕ) → 3 ^ r ≡ 2 * mid r + 1
unfolding mid
twice_mid zero = refl
twice_mid (suc r) = let i = twice_mid r in omega (arith, pow-succ' 3 r)

pub half_mid : (r : ℕ) → 3 ^ r / 2 ≡ mid r
half_mid r = let i = twice_mid r in div-eq_of_lt-le 2 (omega arith) (omega arith)

pub three_pos : (r : ℕ) → 0 < 3 ^ r
three_pos r = omega (arith, twice_mid r)

pub next_mid : (r : ℕ) → mid (suc r) ≡ 3 * mid r + 1
next_mid r = omega (arith, twice_mid r, twice_mid (suc r), pow-succ' 3 r)

-- ---- backward

backward_cases : (t : ℕ) (ts : List ℕ) (b : Bool) → backward ts ≡ b
    → (t ≡ 0 → backward (t ∷ ts) ≡ true) × (t ≡ 1 → backward (t ∷ ts) ≡ b) × (1 < t → backward (t ∷ ts) ≡ false)
unfolding backward
backward_cases t ts b e = (
  λ z. rw z refl,
  λ o. rw (o, e) refl,
  λ l. rw (ne_eqb t 0 (λ q. omega arith), ne_eqb t 1 (λ q. omega arith)) refl,
)

ltb_shift : (m a b c : ℕ) → c ≡ m + a → ltb a b ≡ ltb c (m + b)
ltb_shift m a b c e = go (ltb a b) refl
  where
    go : (t : Bool) → ltb a b ≡ t → ltb a b ≡ ltb c (m + b)
    go true t = let l = ltb-true a b t in t ∙ sym (lt-ltb c (m + b) (omega arith))
    go false t = let l = ltb-false a b t in t ∙ sym (le-ltb c (m + b) (omega arith))

pub backward_mid : (r c : ℕ) → c < 3 ^ r → backward (offset r c) ≡ ltb c (mid r)
unfolding offset coords mid
backward_mid zero c h = unfold backward in sym (le-ltb c 0 (omega arith))
backward_mid (suc r) c h = rw (size_threes r) (go (backward_mid r (c % 3 ^ r) (mod-lt c (three_pos r))) (c / 3 ^ r) refl)
  where
    go : backward (offset r (c % 3 ^ r)) ≡ ltb (c % 3 ^ r) (mid r) → (t : ℕ) → c / 3 ^ r ≡ t
        → backward (c / 3 ^ r ∷ coords (replicate r 3) (c % 3 ^ r)) ≡ ltb c (3 ^ r + mid r)
    go i zero e =
        let s : 0 * 3 ^ r + c % 3 ^ r ≡ c = rw e at (div-add-mod' c (3 ^ r)) in
        (backward_cases (c / 3 ^ r) _ _ i).0 e ∙ sym (lt-ltb c (3 ^ r + mid r) (omega (arith, mod-lt c (three_pos r))))
    go i (suc zero) e =
        let s : 1 * 3 ^ r + c % 3 ^ r ≡ c = rw e at (div-add-mod' c (3 ^ r)) in
        (backward_cases (c / 3 ^ r) _ _ i).1 e ∙ ltb_shift (3 ^ r) (c % 3 ^ r) (mid r) c (omega arith)
    go i (suc (suc t)) e =
        let s : suc (suc t) * 3 ^ r + c % 3 ^ r ≡ c = rw e at (div-add-mod' c (3 ^ r)) in
        (backward_cases (c / 3 ^ r) _ _ i).2 (omega arith) ∙ sym (le-ltb c (3 ^ r + mid r) (omega (
          arith,
          suc-mul (suc t) (3 ^ r),
          suc-mul t (3 ^ r),
          twice_mid r,
        )))

-- backward is exactly the codes below the middle
pub backward_below : (r c : ℕ) → c < 3 ^ r → backward (offset r c) ≡ ltb c (3 ^ r / 2)
backward_below r c h = rw (half_mid r) (backward_mid r c h)

-- ---- an offset by its digits

pub length_offset : (r c : ℕ) → length (offset r c) ≡ r
unfolding offset
length_offset r c = length_coords (replicate r 3) c ∙ length-replicate r 3

pub offset_first : (r c : ℕ) → offset (suc r) c ≡ c / 3 ^ r ∷ offset r (c % 3 ^ r)
unfolding offset coords
offset_first r c = rw (size_threes r)

-- the centre moves nothing
pub offset_mid : (r : ℕ) → offset r (mid r) ≡ replicate r 1
offset_mid zero = unfold offset coords in refl
offset_mid (suc r) =
    let k : mid r < 3 ^ r = omega (arith, twice_mid r) in
    let e : mid (suc r) ≡ 1 * 3 ^ r + mid r = (unfold mid in omega arith) in
    offset_first r (mid (suc r)) ∙ rw e (rw (digits_div 1 k, digits_mod 1 k) (ap (λ (l : List ℕ). 1 ∷ l) (offset_mid r)))

leading_threes : (r : ℕ) → leading (replicate (suc r) 3) ≡ replicate r 3
unfolding leading
leading_threes zero = refl
leading_threes (suc r) = ap (λ (l : List ℕ). 3 ∷ l) (leading_threes r)

width_threes : (r : ℕ) → width (replicate (suc r) 3) ≡ 3
unfolding width
width_threes zero = refl
width_threes (suc r) = width_threes r

-- an offset is its leading part, and its step along the line
pub offset_last : (r c : ℕ) → c < 3 ^ suc r → offset (suc r) c ≡ offset r (c / 3) ++ c % 3 ∷ []
unfolding offset
offset_last r c h =
    coords_line (replicate (suc r) 3) c (omega arith) (rw (size_threes (suc r)) h)
    ∙ ap₂ (λ (l : List ℕ) (w : ℕ). coords l (c / w) ++ c % w ∷ []) (leading_threes r) (width_threes r)

-- the left byte's offset is 0, .., 0, -1
pub left_code_lem : (r : ℕ) → left_code (suc r) ≡ 3 * mid r
left_code_lem r = omega (arith, half_mid (suc r), next_mid r)

pub left_offset : (r : ℕ) → offset (suc r) (left_code (suc r)) ≡ replicate r 1 ++ 0 ∷ []
left_offset r =
    let t : 3 * mid r / 3 ≡ mid r = omega arith in
    let z : 3 * mid r % 3 ≡ 0 = omega arith in
    ap (offset (suc r)) (left_code_lem r)
    ∙ offset_last r (3 * mid r) (omega (arith, twice_mid r, pow-succ' 3 r))
    ∙ ap₂ (λ (k : ℕ) (x : ℕ). offset r k ++ x ∷ []) t z
    ∙ ap (λ (l : List ℕ). l ++ 0 ∷ []) (offset_mid r)

pub left_on_lem : (shape structure : List ℕ) → 0 < length shape → left_on shape structure ≡ on structure (3 * mid (length (leading shape)))
unfolding left_on
left_on_lem shape structure h = ap (on structure) (ap left_code (length_leading shape h) ∙ left_code_lem (length (leading shape)))

-- ---- moves

pub moved_cons : (x t y : ℕ) (xs ts ys : List ℕ) → x + t ≡ suc y → Moved xs ts ys → Moved (x ∷ xs) (t ∷ ts) (y ∷ ys)
unfolding Moved zip_with
moved_cons x t y xs ts ys e m = ap₂ (λ (a : ℕ) (l : List ℕ). a ∷ l) e m

pub moved_head : (x t y : ℕ) (xs ts ys : List ℕ) → Moved (x ∷ xs) (t ∷ ts) (y ∷ ys) → (x + t ≡ suc y) × Moved xs ts ys
unfolding Moved zip_with
moved_head x t y xs ts ys m = (head-eq_of_cons-eq m, tail-eq_of_cons-eq m)

suc_list : (xs ys : List ℕ) → map suc xs ≡ map suc ys → xs ≡ ys
suc_list [] [] e = refl
suc_list [] (y ∷ ys) e = absurd (omega (arith, ap length e))
suc_list (x ∷ xs) [] e = absurd (omega (arith, ap length e))
suc_list (x ∷ xs) (y ∷ ys) e =
    let h : suc x ≡ suc y = head-eq_of_cons-eq e in
    let k : x ≡ y = omega arith in
    ap₂ (λ (a : ℕ) (l : List ℕ). a ∷ l) k (suc_list xs ys (tail-eq_of_cons-eq e))

-- an offset leads to one place
pub moved_only : (xs ts ys zs : List ℕ) → Moved xs ts ys → Moved xs ts zs → ys ≡ zs
unfolding Moved
moved_only xs ts ys zs m k = suc_list ys zs (sym m ∙ k)

pub moved_still : (xs : List ℕ) → Moved xs (replicate (length xs) 1) xs
moved_still [] = unfold Moved zip_with in refl
moved_still (x ∷ xs) = moved_cons x 1 x xs (replicate (length xs) 1) xs (omega arith) (moved_still xs)

moved_last : (xs ts ys : List ℕ) (x t y : ℕ) → length xs ≡ length ts → length ys ≡ length xs
    → Moved (xs ++ x ∷ []) (ts ++ t ∷ []) (ys ++ y ∷ []) ↔ (Moved xs ts ys × (x + t ≡ suc y))
moved_last [] [] [] x t y e f =
    (λ m. (unfold Moved zip_with in refl, (moved_head x t y [] [] [] m).0), λ h. moved_cons x t y [] [] [] h.1 h.0)
moved_last [] [] (c ∷ ys) x t y e f = absurd (omega arith)
moved_last [] (b ∷ ts) ys x t y e f = absurd (omega arith)
moved_last (a ∷ xs) [] ys x t y e f = absurd (omega arith)
moved_last (a ∷ xs) (b ∷ ts) [] x t y e f = absurd (omega arith)
moved_last (a ∷ xs) (b ∷ ts) (c ∷ ys) x t y e f =
    let i = moved_last xs ts ys x t y (omega arith) (omega arith) in (
      λ m. let h = moved_head a b c (xs ++ x ∷ []) (ts ++ t ∷ []) (ys ++ y ∷ []) m in let j = i.0 h.1 in
          (moved_cons a b c xs ts ys h.0 j.0, j.1),
      λ h. let k =
          moved_head a b c xs ts ys h.0 in moved_cons a b c (xs ++ x ∷ []) (ts ++ t ∷ []) (ys ++ y ∷ []) k.0 (i.1 (k.1, h.1)),
    )

-- an offset leads from p to q exactly where its leading part leads from p's line to q's, and its step from p's column to q's
pub line_moved : (shape : List ℕ) (c p q : ℕ) → 0 < length shape → c < 3 ^ length shape → p < size shape → q < size shape
    → Moved (coords shape p) (offset (length shape) c) (coords shape q)
    ↔ (Moved (coords (leading shape) (p / width shape)) (offset (length (leading shape)) (c / 3))
    (coords (leading shape) (q / width shape)) × (p % width shape + c % 3 ≡ suc (q % width shape)))
line_moved shape c p q r hc hp hq =
    let e = length_leading shape r in
    let k : c < 3 ^ suc (length (leading shape)) = rw e at hc in
    let o : offset (length shape) c ≡ offset (length (leading shape)) (c / 3) ++ c % 3 ∷ [] = ap (λ (n : ℕ). offset n c) e
    ∙ offset_last (length (leading shape)) c k in
    rw (coords_line shape p r hp, coords_line shape q r hq, o)
    (moved_last (coords (leading shape) (p / width shape)) (offset (length (leading shape)) (c / 3))
    (coords (leading shape) (q / width shape)) (p % width shape) (c % 3) (q % width shape)
    (length_coords (leading shape) (p / width shape) ∙ sym (length_offset (length (leading shape)) (c / 3)))
    (length_coords (leading shape) (q / width shape) ∙ sym (length_coords (leading shape) (p / width shape))))

-- ---- the cell to the left

-- one less, by its digits
pred_digits : (m p : ℕ) → 0 < m → (p % m ≡ 0 → ⊥) → ((p - 1) / m ≡ p / m) × ((p - 1) % m ≡ p % m - 1)
pred_digits m p pos ne =
    let l = mod-lt p pos in
    let e : p - 1 ≡ p / m * m + (p % m - 1) = omega (arith, div-add-mod' p m) in
    let r : p % m - 1 < m = omega arith in
    (rw e (digits_div (p / m) r), rw e (digits_mod (p / m) r))

-- the left byte's offset leads to it
pub left_moved : (shape : List ℕ) (p : ℕ) → 0 < length shape → p < size shape → (p % width shape ≡ 0 → ⊥)
    → Moved (coords shape p) (offset (length shape) (left_code (length shape))) (coords shape (p - 1))
left_moved shape p r h ne = (line_moved shape (left_code (length shape)) p (p - 1) r hc h (omega (arith, h))).1 (lead, along)
  where
    ds : List ℕ
    ds = leading shape

    code : left_code (length shape) ≡ 3 * mid (length ds)
    code = ap left_code (length_leading shape r) ∙ left_code_lem (length ds)

    hc : left_code (length shape) < 3 ^ length shape
    hc = omega (arith, code, half_mid (length shape), twice_mid (length shape))

    posw : 0 < width shape
    posw = factor_pos (lines shape) (width shape) p (rw (size_lines_lem shape) at h)

    back : ((p - 1) / width shape ≡ p / width shape) × ((p - 1) % width shape ≡ p % width shape - 1)
    back = pred_digits (width shape) p posw ne

    third : left_code (length shape) / 3 ≡ mid (length ds)
    third = rw code (omega arith)

    last : left_code (length shape) % 3 ≡ 0
    last = rw code (omega arith)

    lead : Moved (coords ds (p / width shape)) (offset (length ds) (left_code (length shape) / 3)) (coords ds ((p - 1) / width shape))
    lead =
        rw (third, back.0, offset_mid (length ds))
        (subst (λ (k : ℕ). Moved (coords ds (p / width shape)) (replicate k 1) (coords ds (p / width shape)))
        (length_coords ds (p / width shape)) (moved_still (coords ds (p / width shape))))

    along : p % width shape + left_code (length shape) % 3 ≡ suc ((p - 1) % width shape)
    along = rw (last, back.1) (omega arith)

-- ---- an offset that leads backward leads to an earlier cell

earlier_head : (m p q : ℕ) → 0 < m → p / m ≡ suc (q / m) → q < p
earlier_head m p q pos e =
    let s : suc (q / m) * m + p % m ≡ p = rw e at (div-add-mod' p m) in
    omega (arith, div-add-mod' q m, suc-mul (q / m) m, mod-lt q pos)

earlier_tail : (m p q : ℕ) → p / m ≡ q / m → q % m < p % m → q < p
earlier_tail m p q e l =
    let s : q / m * m + p % m ≡ p = rw e at (div-add-mod' p m) in
    omega (arith, div-add-mod' q m)

pub backward_earlier : (shape ts : List ℕ) (p q : ℕ) → p < size shape → q < size shape → length ts ≡ length shape → backward ts ≡ true
    → Moved (coords shape p) ts (coords shape q) → q < p
unfolding coords size
backward_earlier [] [] p q hp hq l b e = unfold backward in absurd (true≢false (sym b))
backward_earlier [] (t ∷ ts) p q hp hq l b e = absurd (omega arith)
backward_earlier (d ∷ ds) [] p q hp hq l b e = absurd (omega arith)
backward_earlier (d ∷ ds) (t ∷ ts) p q hp hq l b e = go (backward ts) refl (eqb t 0) refl (eqb t 1) refl
    (backward_earlier ds ts (p % m) (q % m) (mod-lt p pos) (mod-lt q pos) (omega arith))
  where
    m : ℕ
    m = size ds

    pos : 0 < m
    pos = factor_pos d m p hp

    h : (p / m + t ≡ suc (q / m)) × Moved (coords ds (p % m)) ts (coords ds (q % m))
    h = moved_head (p / m) t (q / m) (coords ds (p % m)) ts (coords ds (q % m)) e

    go : (u : Bool) → backward ts ≡ u → (v : Bool) → eqb t 0 ≡ v → (w : Bool) → eqb t 1 ≡ w
        → (backward ts ≡ true → Moved (coords ds (p % m)) ts (coords ds (q % m)) → q % m < p % m) → q < p
    go u eu true ev w ew below = let z = eqb-true t 0 ev in earlier_head m p q pos (omega (arith, h.0))
    go true eu false ev true ew below = let z = eqb-true t 1 ew in earlier_tail m p q (omega (arith, h.0)) (below eu h.1)
    go false eu false ev true ew below = absurd (true≢false (sym b ∙ (backward_cases t ts false eu).1 (eqb-true t 1 ew)))
    go u eu false ev false ew below =
        let y = eqb-false t 0 ev in let z = eqb-false t 1 ew in absurd (true≢false (sym b ∙ (backward_cases t ts u eu).2 (omega arith)))
