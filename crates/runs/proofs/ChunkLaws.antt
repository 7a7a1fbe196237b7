-- A line by chunks of 64 cells: the boundaries and the nonzero cells that a chunk's mask gives, and then those of the rest of the line.
-- Assumes nothing.
use mathlib.Core.Bool.{Bool, true, false}
use mathlib.Core.Path.{◌≡◌, refl, sym, ap, ap₂, ◌∙◌, subst}
use mathlib.Core.List.{List, [], ◌∷◌, ◌++◌}
use Prim.Native.Nat.{ℕ, zero, suc, ◌+◌, ◌*◌, ◌/◌, ◌%◌, ◌^◌, ◌≤◌, ◌<◌}
use native.Mathlib.Nat.{add-zero}
use native.Mathlib.Omega.{arith}
use lib.ListN.{length, get_or, drop, length-drop, drop_of_length-le, get_or-eq_default}
use lib.Seq.{drop-drop}
use lib.Arith.{digits_div, digits_mod}
use lib.Bits.{bit_or, bit_xor, xor_step, differ}
use lib.Count.{ones}
use Rattle.frame.specs.Kinds.{nz}
use Rattle.frame.specs.Runs.{nonzero_cells, line_runs}
use Rattle.frame.proofs.CellLaws.{cells_none, cells_most}
use Rattle.runs.specs.Extract.{Room, Extracted}
use Rattle.runs.specs.Masks.{bit, mask_of}
use Rattle.runs.specs.Boundaries.{put_boundaries, cons_if, places, alone, edge_bits, chunk_boundaries}
use Rattle.runs.specs.declared.Boundaries.{Boundaries}
use Rattle.runs.specs.Writing.{Fits, Writes}
use Rattle.runs.proofs.MaskLaws.{bit_lt, mask_nil, mask_lt, places_zero, places_cons, top, moved}
use Rattle.runs.proofs.ChunkCellLaws.{chunk_cells_lem}
use Rattle.runs.proofs.BoundaryLaws.{line_boundaries, boundaries_of, length_boundaries, put_boundaries_lem, line_boundaries_lem, none_past}
use Rattle.runs.proofs.BoundaryLaws.{Rest, rest_all, rest_same, rest_put, rest_fits, rest_none, fits_part}

-- ---- bits and flags

nz_bit : (b : Bool) → nz (bit b) ≡ b
unfolding nz
nz_bit false = refl
nz_bit true = refl

bit_nz : (n : ℕ) → n < 2 → n ≡ bit (nz n)
unfolding nz
bit_nz zero h = refl
bit_nz (suc zero) h = refl
bit_nz (suc (suc n)) h = absurd (omega arith)

-- ---- maximal stretches: the places where a flag differs from the one before

-- the flag of the cell before x + k, where that of the cell before x is c
unfoldable after : ℕ → Bool → List Bool → Bool
after zero c l = c
after (suc k) c [] = false
after (suc k) c (b ∷ l) = after k b l

after_last : (k : ℕ) (c : Bool) (l : List Bool) → get_or l k false ≡ after (suc k) c l
unfolding after
after_last zero c [] = refl
after_last zero c (b ∷ l) = refl
after_last (suc k) c [] = refl
after_last (suc k) c (b ∷ l) = after_last k b l

-- the mask against itself moved up by one, with c moved in
unfoldable edge_mask : ℕ → Bool → List Bool → ℕ
edge_mask k c l = bit_xor (mask_of k l) (mask_of k (c ∷ l))

edge_cons : (k : ℕ) (c b : Bool) (l : List Bool) → edge_mask (suc k) c (b ∷ l) ≡ edge_mask k b l * 2 + differ (bit b) (bit c)
unfolding edge_mask mask_of
edge_cons k c b l =
    xor_step (mask_of k l * 2 + bit b) (mask_of k (b ∷ l) * 2 + bit c)
    ∙ ap₂ (λ (x y : ℕ). x * 2 + y)
    (ap₂ bit_xor (digits_div (mask_of k l) (bit_lt b)) (digits_div (mask_of k (b ∷ l)) (bit_lt c)))
    (ap₂ differ (digits_mod (mask_of k l) (bit_lt b)) (digits_mod (mask_of k (b ∷ l)) (bit_lt c)))

differ_lt : (a b : Bool) → differ (bit a) (bit b) < 2
differ_lt false b = bit_lt b
differ_lt true false = omega arith
differ_lt true true = omega arith

edge_step : (P R Q : List ℕ) (l : List Bool) (x : ℕ) (c b : Bool)
    → line_boundaries true b (suc x) l ≡ P ++ R → Q ≡ cons_if (differ (bit b) (bit c)) x P → line_boundaries true c x (b ∷ l) ≡ Q ++ R
unfolding line_boundaries
edge_step P R Q l x false false i e = i ∙ ap (λ (r : List ℕ). r ++ R) (sym e)
edge_step P R Q l x true true i e = i ∙ ap (λ (r : List ℕ). r ++ R) (sym e)
edge_step P R Q l x false true i e = ap (λ (r : List ℕ). x ∷ r) i ∙ ap (λ (r : List ℕ). r ++ R) (sym e)
edge_step P R Q l x true false i e = ap (λ (r : List ℕ). x ∷ r) i ∙ ap (λ (r : List ℕ). r ++ R) (sym e)

edges_split : (k : ℕ) (c : Bool) (x : ℕ) (l : List Bool)
    → line_boundaries true c x l ≡ places k (edge_mask k c l) x ++ line_boundaries true (after k c l) (x + k) (drop k l)
unfolding places after edge_mask mask_of line_boundaries
edges_split zero c x l = ap (λ (n : ℕ). line_boundaries true c n l) (sym (add-zero x))
edges_split (suc k) false x [] =
    sym (ap (λ (n : ℕ). places (suc k) n x ++ []) (ap (λ (n : ℕ). n * 2 + 0) (mask_nil k))
    ∙ ap (λ (r : List ℕ). r ++ []) (places_zero (suc k) x))
edges_split (suc k) true x [] =
    sym (ap (λ (n : ℕ). places (suc k) n x ++ []) (ap (λ (n : ℕ). n * 2 + 1) (mask_nil k))
    ∙ ap (λ (r : List ℕ). (x ∷ r) ++ []) (places_zero k (suc x)))
edges_split (suc k) c x (b ∷ l) =
    let P : List ℕ = places k (edge_mask k b l) (suc x) in
    let q : suc x + k ≡ x + suc k = omega arith in
    edge_step P (line_boundaries true (after k b l) (x + suc k) (drop k l)) (places (suc k) (edge_mask (suc k) c (b ∷ l)) x) l x c b
    (edges_split k b (suc x) l ∙ ap (λ (n : ℕ). P ++ line_boundaries true (after k b l) n (drop k l)) q)
    (ap (λ (n : ℕ). places (suc k) n x) (edge_cons k c b l) ∙ places_cons k (edge_mask k b l) (differ (bit b) (bit c)) x (differ_lt b c))

-- the code's edge mask
edges_are : (m carry : ℕ) (l : List Bool) → carry < 2 → m ≡ mask_of 64 l → edge_bits m carry ≡ edge_mask 64 (nz carry) l
unfolding edge_mask
edges_are m carry l h e =
    ap₂ (λ (u v : ℕ). bit_xor u (bit_or (u * 2 % 2 ^ 64) v)) e (bit_nz carry h) ∙ ap (bit_xor (mask_of 64 l)) (moved 63 (nz carry) l)

-- ---- each nonzero cell: the places of the mask's set bits

alone_step : (P R Q : List ℕ) (l : List Bool) (x : ℕ) (c b : Bool)
    → line_boundaries false b (suc x) l ≡ alone P ++ R → Q ≡ cons_if (bit b) x P → line_boundaries false c x (b ∷ l) ≡ alone Q ++ R
unfolding line_boundaries alone
alone_step P R Q l x c false i e = i ∙ ap (λ (r : List ℕ). alone r ++ R) (sym e)
alone_step P R Q l x c true i e = ap (λ (r : List ℕ). x ∷ suc x ∷ r) i ∙ ap (λ (r : List ℕ). alone r ++ R) (sym e)

-- the flag before does not matter
any_before : (c d : Bool) (x : ℕ) (l : List Bool) → line_boundaries false c x l ≡ line_boundaries false d x l
unfolding line_boundaries
any_before c d x [] = refl
any_before c d x (false ∷ l) = refl
any_before c d x (true ∷ l) = refl

alone_split : (k : ℕ) (c d : Bool) (x : ℕ) (l : List Bool)
    → line_boundaries false c x l ≡ alone (places k (mask_of k l) x) ++ line_boundaries false d (x + k) (drop k l)
unfolding places alone mask_of line_boundaries
alone_split zero c d x l = any_before c d x l ∙ ap (λ (n : ℕ). line_boundaries false d n l) (sym (add-zero x))
alone_split (suc k) c d x [] = sym (ap (λ (r : List ℕ). alone r ++ []) (places_zero (suc k) x))
alone_split (suc k) c d x (b ∷ l) =
    let P : List ℕ = places k (mask_of k l) (suc x) in
    let q : suc x + k ≡ x + suc k = omega arith in
    alone_step P (line_boundaries false d (x + suc k) (drop k l)) (places (suc k) (mask_of k l * 2 + bit b) x) l x c b
    (alone_split k b d (suc x) l ∙ ap (λ (n : ℕ). alone P ++ line_boundaries false d n (drop k l)) q)
    (places_cons k (mask_of k l) (bit b) x (bit_lt b))

-- ---- either: the chunk's boundaries, and then the rest of the line's

chunk_split : (left : Bool) (x m carry : ℕ) (l : List Bool) → carry < 2 → m ≡ mask_of 64 l
    → line_boundaries left (nz carry) x l ≡ chunk_boundaries left m carry x ++ line_boundaries left (nz (m / 2 ^ 63)) (x + 64) (drop 64 l)
unfolding chunk_boundaries
chunk_split true x m carry l h e =
    let t : after 64 (nz carry) l ≡ nz (m / 2 ^ 63) = sym
    (ap (λ (n : ℕ). nz (n / 2 ^ 63)) e ∙ ap nz (top 63 l) ∙ nz_bit (get_or l 63 false) ∙ after_last 63 (nz carry) l) in
    edges_split 64 (nz carry) x l
    ∙ ap₂ (λ (n : ℕ) (b : Bool). places 64 n x ++ line_boundaries true b (x + 64) (drop 64 l)) (sym (edges_are m carry l h e)) t
chunk_split false x m carry l h e =
    alone_split 64 (nz carry) (nz (m / 2 ^ 63)) x l
    ∙ ap (λ (n : ℕ). alone (places 64 n x) ++ line_boundaries false (nz (m / 2 ^ 63)) (x + 64) (drop 64 l)) (sym e)

pub chunk_edges : {left : Bool} {e : ℕ} (m carry x : ℕ) → left ≡ true → e ≡ edge_bits m carry
    → chunk_boundaries left m carry x ≡ places 64 e x
unfolding chunk_boundaries
chunk_edges m carry x l e = ap (λ (b : Bool). chunk_boundaries b m carry x) l ∙ ap (λ (n : ℕ). places 64 n x) (sym e)

pub chunk_alone : {left : Bool} (m carry x : ℕ) → left ≡ false → chunk_boundaries left m carry x ≡ alone (places 64 m x)
unfolding chunk_boundaries
chunk_alone m carry x l = ap (λ (b : Bool). chunk_boundaries b m carry x) l

-- ---- the loop over chunks

-- at column x: what is left to be written is the boundaries from there on, and what is left to be counted the cells
pub record Going (left : Bool) (flags : List Bool) (b₀ b : Boundaries) (cells carry x : ℕ) : Type 0 where
  pub first : b₀.count ≡ 0
  pub carried : carry < 2
  pub inside : x ≤ length flags
  pub counted : cells + nonzero_cells (drop x flags) ≡ nonzero_cells flags
  pub rest : Rest b₀ (boundaries_of (line_runs left flags)) b (line_boundaries left (nz carry) x (drop x flags))

module _ {left : Bool} {flags : List Bool} {b₀ : Boundaries} where
  pub going_begin : b₀.count ≡ 0 → Going left flags b₀ b₀ 0 0 0
  unfolding nz
  going_begin e = record {
    first = e;
    carried = omega arith;
    inside = omega arith;
    counted = omega arith;
    rest = rest_same (sym (line_boundaries_lem left flags)) (rest_all b₀ (boundaries_of (line_runs left flags)));
  }

  -- the same column, as it is written elsewhere
  pub going_at : {b : Boundaries} {cells carry x y : ℕ} → x ≡ y → Going left flags b₀ b cells carry x → Going left flags b₀ b cells carry y
  going_at {b} {cells} {carry} e g = subst (Going left flags b₀ b cells carry) e g

  module _ {b : Boundaries} {cells carry x : ℕ} (g : Going left flags b₀ b cells carry x) where
    split : (m : ℕ) → m ≡ mask_of 64 (drop x flags)
        → Rest b₀ (boundaries_of (line_runs left flags)) b
        (chunk_boundaries left m carry x ++ line_boundaries left (nz (m / 2 ^ 63)) (x + 64) (drop (x + 64) flags))
    split m e =
        rest_same
        (chunk_split left x m carry (drop x flags) g.carried e
        ∙ ap (λ (l : List Bool). chunk_boundaries left m carry x ++ line_boundaries left (nz (m / 2 ^ 63)) (x + 64) l) (drop-drop 64 x flags))
        g.rest

    line_fits : Room left flags b₀.words.now b₀.at → Fits b₀ x (boundaries_of (line_runs left flags))
    line_fits r =
        let n = length_boundaries (line_runs left flags) in
        let f = g.first in
        let i = g.inside in
        record { runs = length (line_runs left flags); below = omega arith; room = omega (arith, r.room); short = omega (arith, r.short) }

    -- the next chunk's boundaries have room
    pub going_fits : (m : ℕ) → m ≡ mask_of 64 (drop x flags) → Room left flags b₀.words.now b₀.at
        → Fits b x (chunk_boundaries left m carry x)
    going_fits m e r = fits_part (chunk_boundaries left m carry x) _ (rest_fits (split m e) (line_fits r))

    -- the cells so far, those of the next chunk and those of the rest are all of the line's
    cells_then : (m : ℕ) → m ≡ mask_of 64 (drop x flags) → cells + ones m + nonzero_cells (drop (x + 64) flags) ≡ nonzero_cells flags
    cells_then m e =
        let q : nonzero_cells (drop 64 (drop x flags)) ≡ nonzero_cells (drop (x + 64) flags) = ap nonzero_cells (drop-drop 64 x flags) in
        omega (arith, g.counted, chunk_cells_lem m (drop x flags) e)

    -- with the next chunk's the sum is small
    pub going_sum : {n : ℕ} (m : ℕ) → m ≡ mask_of 64 (drop x flags) → n ≡ ones m → Room left flags b₀.words.now b₀.at → cells + n < 2147483647
    going_sum m e o r = omega (arith, r.short, cells_then m e, cells_most flags)

    -- the next chunk's boundaries are written, and its cells counted
    pub going_turn : {b' : Boundaries} {n : ℕ} (m : ℕ) → m ≡ mask_of 64 (drop x flags) → x + 64 ≤ length flags
        → Writes (chunk_boundaries left m carry x) b b' → n ≡ ones m → Going left flags b₀ b' (cells + n) (m / 2 ^ 63) (x + 64)
    going_turn m e h p o =
        let t = mask_lt 64 (drop x flags) in
        let c : m / 2 ^ 63 < 2 = omega arith in
        record {
          first = g.first;
          carried = c;
          inside = omega arith;
          counted = omega (arith, cells_then m e);
          rest = rest_put (chunk_boundaries left m carry x) _ (split m e) p;
        }

    -- with the last chunk, which reaches past the line, all are written and counted
    past : (m : ℕ) → m ≡ mask_of 64 (drop x flags) → length flags < x + 64
        → line_boundaries left (nz (m / 2 ^ 63)) (x + 64) (drop (x + 64) flags) ≡ []
    unfolding nz
    past m e h =
        let n = length-drop x flags in
        let z : m / 2 ^ 63 ≡ 0 = ap (λ (n : ℕ). n / 2 ^ 63) e ∙ top 63 (drop x flags)
        ∙ ap bit (get_or-eq_default (drop x flags) false {n = 63} (omega arith)) in
        ap₂ (λ (c : ℕ) (l : List Bool). line_boundaries left (nz c) (x + 64) l) z (drop_of_length-le flags {i = x + 64} (omega arith))
        ∙ none_past left (x + 64)

    pub going_done : {b' : Boundaries} (m : ℕ) → m ≡ mask_of 64 (drop x flags) → length flags < x + 64
        → Writes (chunk_boundaries left m carry x) b b' → Writes (boundaries_of (line_runs left flags)) b₀ b'
    going_done m e h p = rest_none (rest_same (past m e h) (rest_put (chunk_boundaries left m carry x) _ (split m e) p))

    pub going_end : {b' : Boundaries} {n : ℕ} (m : ℕ) → m ≡ mask_of 64 (drop x flags) → length flags < x + 64
        → Writes (chunk_boundaries left m carry x) b b' → n ≡ ones m
        → Extracted left flags b₀.words.now b'.words.now b₀.at (record { runs = b'.count / 2; cells = cells + n })
    going_end m e h p o =
        let r = going_done m e h p in
        let q = r.put.next in
        let f = g.first in
        let s = length_boundaries (line_runs left flags) in
        let d : drop (x + 64) flags ≡ [] = drop_of_length-le flags {i = x + 64} (omega arith) in
        let z : nonzero_cells (drop (x + 64) flags) ≡ 0 = ap nonzero_cells d ∙ cells_none in
        record {
          counted = omega arith;
          total = omega (arith, cells_then m e);
          written = r.put.written ∙ ap (λ (k : ℕ). put_boundaries b₀.words.now b₀.at k (boundaries_of (line_runs left flags))) g.first
              ∙ put_boundaries_lem (line_runs left flags) b₀.words.now b₀.at;
        }
