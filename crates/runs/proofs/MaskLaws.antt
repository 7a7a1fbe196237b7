-- Masks: how weights make one, the places of its set bits, and the mask moved up by one.
-- Assumes nothing.
use mathlib.Core.Bool.{Bool, true, false}
use mathlib.Core.Path.{◌≡◌, refl, sym, ap, ap₂, ◌∙◌, subst}
use mathlib.Core.List.{List, [], ◌∷◌, map}
use mathlib.Core.Logic.{◌⊎◌, inl, inr}
use Prim.Native.Nat.{ℕ, zero, suc, ◌+◌, ◌-◌, ◌*◌, ◌/◌, ◌%◌, ◌^◌, ◌≤◌, ◌<◌, min}
use native.Mathlib.Nat.{pow-suc, add-zero, suc-add, mul_assoc, add-mul}
use native.Mathlib.Numerals.{add-one}
use native.Mathlib.Omega.{arith}
use native.Mathlib.Decide.{dec_lt}
use lib.Arith.{digits_div, digits_mod}
use lib.ListN.{length, get_or, set, take, drop, get_or-map, length-drop, length-map}
use borrow.Rule.Slice.PartMut.{mid_of}
use lib.Seq.{get_or-drop, get_or-set_same, get_or-set_other}
use lib.Pow.{shl_exact}
use lib.Count.{count_trailing_zeros, under}
use lib.Bits.{bit_and, bit_or, and_step, and_self, or_shifted, or_shifted_r}
use mir.Val.{bool_byte}
use Rattle.frame.specs.Kinds.{nz}
use Rattle.runs.specs.Masks.{bit, mask_of, Shows, Weighs}
use Rattle.runs.specs.Boundaries.{cons_if, places, alone}

pub bit_lt : (b : Bool) → bit b < 2
bit_lt false = omega arith
bit_lt true = omega arith

byte_bit : (b : Bool) → bool_byte b ≡ bit b
byte_bit false = refl
byte_bit true = refl

-- ---- the mask is built bit by bit, lowest first

pub mask_nil : (k : ℕ) → mask_of k [] ≡ 0
unfolding mask_of
mask_nil zero = refl
mask_nil (suc k) = refl

pub mask_lt : (k : ℕ) (l : List Bool) → mask_of k l < 2 ^ k
unfolding mask_of
mask_lt zero l = omega arith
mask_lt (suc k) [] = let h = mask_lt k [] in omega (arith, pow-suc 2 k)
mask_lt (suc k) (b ∷ l) = let h = mask_lt k l in let g = bit_lt b in omega (arith, pow-suc 2 k)

mask_more : (k : ℕ) (l : List Bool) → mask_of (suc k) l ≡ bit (get_or l k false) * 2 ^ k + mask_of k l
unfolding mask_of
mask_more zero [] = refl
mask_more zero (false ∷ l) = refl
mask_more zero (true ∷ l) = refl
mask_more (suc k) [] = omega arith
mask_more (suc k) (b ∷ l) =
    let h = mask_more k l in
    let g : bit (get_or l k false) * 2 ^ suc k ≡ bit (get_or l k false) * 2 ^ k * 2 = ap (λ (n : ℕ). bit (get_or l k false) * n) (pow-suc 2 k)
    ∙ sym (mul_assoc (bit (get_or l k false)) (2 ^ k) 2) in
    omega arith

-- two lists with the same first k flags have the same mask
mask_agree : (k : ℕ) (l l' : List Bool) → ((i : ℕ) → i < k → get_or l i false ≡ get_or l' i false) → mask_of k l ≡ mask_of k l'
unfolding mask_of
mask_agree zero l l' h = refl
mask_agree (suc k) l l' h =
    mask_more k l ∙ ap₂ (λ (b : Bool) (m : ℕ). bit b * 2 ^ k + m) (h k (omega arith)) (mask_agree k l l' (λ i p. h i (omega arith)))
    ∙ sym (mask_more k l')

-- the mask of j + k cells: that of the first j, and above it that of the next k
mask_cat : (j k : ℕ) (l : List Bool) → mask_of (j + k) l ≡ mask_of k (drop j l) * 2 ^ j + mask_of j l
unfolding mask_of
mask_cat zero k l = let e : 0 + k ≡ k = omega arith in ap (λ (n : ℕ). mask_of n l) e ∙ omega arith
mask_cat (suc j) k [] = let e = mask_nil k in ap (λ (n : ℕ). mask_of n []) (suc-add j k)
    ∙ sym (ap (λ (n : ℕ). n * 2 ^ suc j + 0) e ∙ omega arith)
mask_cat (suc j) k (b ∷ l) =
    let h = mask_cat j k l in
    let a : ℕ = mask_of k (drop j l) in
    let g : a * 2 ^ suc j ≡ a * 2 ^ j * 2 = ap (λ (n : ℕ). a * n) (pow-suc 2 j) ∙ sym (mul_assoc a (2 ^ j) 2) in
    ap (λ (n : ℕ). mask_of n (b ∷ l)) (suc-add j k) ∙ omega arith

-- ---- by weights

pub flag_at : (b : List ℕ) (i : ℕ) → nz (get_or b i 0) ≡ get_or (map nz b) i false
unfolding nz
flag_at b i = sym (get_or-map nz b i 0)

-- a turn of the loop that weighs
pub weigh_turn : (l : List Bool) (t : List ℕ) (i : ℕ) (b : Bool) → i < length t → b ≡ get_or l i false → Weighs l t i
    → Weighs l (set t i (bool_byte b * 2 ^ (i % 8) % 2 ^ 8)) (i + 1)
weigh_turn l t i b h g f k p = go (dec_lt k i)
  where
    v : ℕ
    v = bool_byte b * 2 ^ (i % 8) % 2 ^ 8

    q : 1 + i % 8 ≤ 8
    q = omega arith

    is : v ≡ bit (get_or l i false) * 2 ^ (i % 8)
    is = ap (λ (n : ℕ). n * 2 ^ (i % 8) % 2 ^ 8) (byte_bit b ∙ ap bit g) ∙ shl_exact 1 (i % 8) 8 (bit_lt (get_or l i false)) q

    go : Dec (k < i) → get_or (set t i v) k 0 ≡ bit (get_or l k false) * 2 ^ (k % 8)
    go (yes o) = get_or-set_other t i k v 0 (λ e. omega arith) ∙ f k o
    go (no o) =
        let e : i ≡ k = omega arith in
        subst (λ (n : ℕ). get_or (set t i v) n 0 ≡ bit (get_or l n false) * 2 ^ (n % 8)) e (get_or-set_same t i v 0 h ∙ is)

-- a turn of the loop that joins eight weights
pub eight_turn : (l : List Bool) (t : List ℕ) (j i s : ℕ) → Weighs l t 64 → j + i < 64 → j % 8 ≡ 0 → i < 8 → s ≡ mask_of i (drop j l)
    → s + get_or t (j + i) 0 ≡ mask_of (i + 1) (drop j l)
eight_turn l t j i s f h r g e =
    let m : (j + i) % 8 ≡ i = omega arith in
    let w : get_or t (j + i) 0 ≡ bit (get_or (drop j l) i false) * 2 ^ i = f (j + i) h
    ∙ ap₂ (λ (c : Bool) (n : ℕ). bit c * 2 ^ n) (sym (get_or-drop j l i false)) m in
    let a = mask_more i (drop j l) in
    ap₂ (λ (u v : ℕ). u + v) e w ∙ omega (arith, ap (λ (n : ℕ). mask_of n (drop j l)) (add-one i))

-- a turn of the loop that joins bytes
pub byte_turn : (l : List Bool) (j m p : ℕ) → j + 8 ≤ 64 → m ≡ mask_of j l → p ≡ mask_of 8 (drop j l)
    → bit_or m (p * 2 ^ j % 2 ^ 64) ≡ mask_of (j + 8) l
byte_turn l j m p h e g =
    let q : 8 + j ≤ 64 = omega arith in
    ap₂ (λ (u v : ℕ). bit_or u (v * 2 ^ j % 2 ^ 64)) e g
    ∙ ap (bit_or (mask_of j l)) (shl_exact 8 j 64 (mask_lt 8 (drop j l)) q)
    ∙ or_shifted_r (mask_of 8 (drop j l)) j (mask_of j l) (mask_lt j l)
    ∙ sym (mask_cat j 8 l)

-- bytes that show flags have their mask
pub shows_mask : (flags : List Bool) (b : List ℕ) → Shows flags b 64 → mask_of 64 (map nz b) ≡ mask_of 64 flags
shows_mask flags b h = mask_agree 64 (map nz b) flags (λ i p. sym (flag_at b i) ∙ h i p)

-- the mask of the first n flags, where those are all or as many as it has bits
mask_take : (k n : ℕ) (l : List Bool) → min k (length l) ≤ n → mask_of k (take n l) ≡ mask_of k l
unfolding mask_of
mask_take zero n l h = refl
mask_take (suc k) zero [] h = refl
mask_take (suc k) (suc n) [] h = refl
mask_take (suc k) zero (b ∷ l) h = absurd (omega arith)
mask_take (suc k) (suc n) (b ∷ l) h = ap (λ (m : ℕ). m * 2 + bit b) (mask_take k n l (omega arith))

module _ {A : Type 0} (f : A → Bool) where
  map_take : (n : ℕ) (cells : List A) → map f (take n cells) ≡ take n (map f cells)
  map_take zero cells = refl
  map_take (suc n) [] = refl
  map_take (suc n) (c ∷ cells) = ap (λ (l : List Bool). f c ∷ l) (map_take n cells)

  map_drop : (n : ℕ) (cells : List A) → map f (drop n cells) ≡ drop n (map f cells)
  map_drop zero cells = refl
  map_drop (suc n) [] = refl
  map_drop (suc n) (c ∷ cells) = map_drop n cells

  -- the mask of the chunk from x on: of n cells, where those are 64 or all that are left
  chunk_mask : (cells : List A) (x n : ℕ) → min 64 (length cells - x) ≤ n
      → mask_of 64 (map f (take n (drop x cells))) ≡ mask_of 64 (drop x (map f cells))
  chunk_mask cells x n h =
      let l = length-drop x (map f cells) in
      let w = length-map cells f in
      ap (mask_of 64) (map_take n (drop x cells) ∙ ap (take n) (map_drop x cells)) ∙ mask_take 64 n (drop x (map f cells)) (omega arith)

  pub whole_mask : (cells : List A) (x : ℕ) → mask_of 64 (map f (mid_of x (x + 64 - x) cells)) ≡ mask_of 64 (drop x (map f cells))
  whole_mask cells x = chunk_mask cells x (x + 64 - x) (omega arith)

  pub last_mask : (cells : List A) (x : ℕ) → mask_of 64 (map f (mid_of x (length cells - x) cells)) ≡ mask_of 64 (drop x (map f cells))
  last_mask cells x = chunk_mask cells x (length cells - x) (omega arith)

-- ---- the places of the set bits

pub places_zero : (k x : ℕ) → places k 0 x ≡ []
unfolding places
places_zero zero x = refl
places_zero (suc k) x = places_zero k (suc x)

pub places_cons : (k n d x : ℕ) → d < 2 → places (suc k) (n * 2 + d) x ≡ cons_if d x (places k n (suc x))
unfolding places
places_cons k n d x h = ap₂ (λ (a b : ℕ). cons_if a x (places k b (suc x))) (digits_mod n h) (digits_div n h)

-- e & (e - 1) clears the lowest set bit, which stands at the count of trailing zeros
even_clear : (e : ℕ) → e % 2 ≡ 0 → 0 < e → bit_and e (e - 1) ≡ bit_and (e / 2) (e / 2 - 1) * 2
even_clear e h p =
    let a : (e - 1) / 2 ≡ e / 2 - 1 = omega arith in
    and_step e (e - 1) ∙ ap₂ (λ (x y : ℕ). bit_and (e / 2) x * 2 + min y ((e - 1) % 2)) a h ∙ omega arith

odd_clear : (e : ℕ) → e % 2 ≡ 1 → bit_and e (e - 1) ≡ e / 2 * 2
odd_clear e h =
    let a : (e - 1) / 2 ≡ e / 2 = omega arith in
    let b : (e - 1) % 2 ≡ 0 = omega arith in
    and_step e (e - 1) ∙ ap₂ (λ (x y : ℕ). bit_and (e / 2) x * 2 + min (e % 2) y) a b
    ∙ ap (λ (x : ℕ). x * 2 + min (e % 2) 0) (and_self (e / 2)) ∙ omega arith

places_double : (k e x : ℕ) → places (suc k) (e * 2) x ≡ places k e (suc x)
unfolding places
places_double k e x =
    let a : e * 2 % 2 ≡ 0 = omega arith in
    let b : e * 2 / 2 ≡ e = omega arith in
    ap₂ (λ (d n : ℕ). cons_if d x (places k n (suc x))) a b

parity : (n : ℕ) → (n % 2 ≡ 0) ⊎ (n % 2 ≡ 1)
parity n = go (n % 2) (omega arith)
  where
    go : (d : ℕ) → d < 2 → (d ≡ 0) ⊎ (d ≡ 1)
    go zero h = inl refl
    go (suc zero) h = inr refl
    go (suc (suc d)) h = absurd (omega arith)

lowest : (k e x : ℕ) → 0 < e → e < 2 ^ k → places k e x ≡ (x + count_trailing_zeros k e) ∷ places k (bit_and e (e - 1)) x
unfolding places count_trailing_zeros
lowest zero e x p q = absurd (omega arith)
lowest (suc k) e x p q = go (parity e) (lowest k (e / 2) (suc x))
  where
    go : (e % 2 ≡ 0) ⊎ (e % 2 ≡ 1)
        → (0 < e / 2 → e / 2 < 2 ^ k
        → places k (e / 2) (suc x) ≡ (suc x + count_trailing_zeros k (e / 2)) ∷ places k (bit_and (e / 2) (e / 2 - 1)) (suc x))
        → places (suc k) e x ≡ (x + count_trailing_zeros (suc k) e) ∷ places (suc k) (bit_and e (e - 1)) x
    go (inl h) ih =
        let t : suc x + count_trailing_zeros k (e / 2) ≡ x + suc (count_trailing_zeros k (e / 2)) = omega arith in
        ap (λ (d : ℕ). cons_if d x (places k (e / 2) (suc x))) h
        ∙ ih (omega arith) (omega (arith, pow-suc 2 k))
        ∙ ap₂ (λ (a : ℕ) (r : List ℕ). a ∷ r) (t ∙ ap (λ (d : ℕ). x + under d (count_trailing_zeros k (e / 2))) (sym h))
        (sym (places_double k (bit_and (e / 2) (e / 2 - 1)) x) ∙ ap (λ (n : ℕ). places (suc k) n x) (sym (even_clear e h p)))
    go (inr h) ih =
        ap (λ (d : ℕ). cons_if d x (places k (e / 2) (suc x))) h
        ∙ ap₂ (λ (a : ℕ) (r : List ℕ). a ∷ r) (sym (add-zero x) ∙ ap (λ (d : ℕ). x + under d (count_trailing_zeros k (e / 2))) (sym h))
        (sym (places_double k (e / 2) x) ∙ ap (λ (n : ℕ). places (suc k) n x) (sym (odd_clear e h)))

-- the next place of 64 bits, and the next two boundaries where each place is a run of its own
pub next_place : (e x : ℕ) {p : ℕ} → p ≡ x + count_trailing_zeros 64 e → (e ≡ 0 → ⊥) → e < 2 ^ 64
    → places 64 e x ≡ p ∷ places 64 (bit_and e (e - 1)) x
next_place e x is some h =
    lowest 64 e x (omega arith) h ∙ ap (λ (n : ℕ). n ∷ places 64 (bit_and e (e - 1)) x) (sym is)

pub next_alone : (m x : ℕ) {p : ℕ} → p ≡ x + count_trailing_zeros 64 m → (m ≡ 0 → ⊥) → m < 2 ^ 64
    → alone (places 64 m x) ≡ p ∷ (p + 1) ∷ alone (places 64 (bit_and m (m - 1)) x)
unfolding alone
next_alone m x {p} is some h =
    ap alone (next_place m x is some h)
    ∙ ap (λ (n : ℕ). p ∷ n ∷ alone (places 64 (bit_and m (m - 1)) x)) (sym (add-one p))

-- no bit is set
pub no_place : (e x : ℕ) → e ≡ 0 → places 64 e x ≡ []
no_place e x p = ap (λ (n : ℕ). places 64 n x) p ∙ places_zero 64 x

pub none_alone : (m x : ℕ) → m ≡ 0 → alone (places 64 m x) ≡ []
unfolding alone
none_alone m x p = ap alone (no_place m x p)

-- ---- moved up by one

-- the top bit is the last flag's
pub top : (k : ℕ) (l : List Bool) → mask_of (suc k) l / 2 ^ k ≡ bit (get_or l k false)
top k l = ap (λ (n : ℕ). n / 2 ^ k) (mask_more k l) ∙ digits_div (bit (get_or l k false)) (mask_lt k l)

-- the top bit is lost, and c moved in
pub moved : (k : ℕ) (c : Bool) (l : List Bool) → bit_or (mask_of (suc k) l * 2 % 2 ^ suc k) (bit c) ≡ mask_of (suc k) (c ∷ l)
unfolding mask_of
moved k c l =
    let g : ℕ = bit (get_or l k false) in
    let h = mask_lt k l in
    let a : mask_of (suc k) l * 2 ≡ g * 2 ^ suc k + mask_of k l * 2 =
    ap (λ (n : ℕ). n * 2) (mask_more k l) ∙ add-mul (g * 2 ^ k) (mask_of k l) 2
    ∙ ap (λ (n : ℕ). n + mask_of k l * 2) (mul_assoc g (2 ^ k) 2 ∙ ap (λ (n : ℕ). g * n) (sym (pow-suc 2 k))) in
    let b : mask_of k l * 2 < 2 ^ suc k = omega (arith, pow-suc 2 k) in
    ap (λ (n : ℕ). bit_or n (bit c)) (ap (λ (n : ℕ). n % 2 ^ suc k) a ∙ digits_mod g b) ∙ or_shifted (mask_of k l) 1 (bit c) (bit_lt c)
