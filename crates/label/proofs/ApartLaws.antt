-- The runs of a line are the only ones that stand in order and cover its nonzero columns.
-- Assumes nothing.
use mathlib.Core.Path.{◌≡◌, refl, sym, ap₂}
use mathlib.Core.Bool.{Bool, true, false}
use mathlib.Core.List.{List, [], ◌∷◌}
use Prim.Native.Nat.{ℕ, zero, suc, ◌+◌, ◌≤◌, ◌<◌}
use native.Mathlib.Nat.{le_refl, not-suc-le-zero}
use native.Mathlib.Omega.{arith}
use borrow.Author.Tests.{eqb-true, eqb-false, ltb-true, ltb-false}
use lib.Dec.{eqb, ltb}
use lib.ListN.{length, get_or}
use Rattle.frame.specs.Runs.{Run, none, singles, line_runs, gap_of}
use Rattle.frame.proofs.LineLaws.{In, Apart, line_in_lem, line_held, line_apart, Within, apart_low, in_below}

-- ---- one column long

abbrev pub Short : Run → Type 0
Short r = r.end ≤ suc r.start

short_singles : (l : List Bool) (x i : ℕ) → Short (get_or (singles x l) i none)
unfolding singles
short_singles [] x i = omega arith
short_singles (false ∷ l) x i = short_singles l (suc x) i
short_singles (true ∷ l) x zero = le_refl (suc x)
short_singles (true ∷ l) x (suc i) = short_singles l (suc x) i

-- with the left byte zero, so is each run of a line
pub line_short : (l : List Bool) (i : ℕ) → Short (get_or (line_runs false l) i none)
unfolding line_runs
line_short l i = short_singles l 0 i

-- ---- in order

-- from what is asked of each run and of each two neighbours
pub apart_from : (rs : List Run) (gap lo w : ℕ) → (0 < length rs → lo ≤ (get_or rs 0 none).start)
    → ((i : ℕ) → i < length rs → Within w (get_or rs i none))
    → ((i : ℕ) → suc i < length rs → (get_or rs i none).end + gap ≤ (get_or rs (suc i) none).start) → Apart gap lo w rs
apart_from [] gap lo w first within next = tt
apart_from (r ∷ rs) gap lo w first within next =
    let k = within 0 (omega arith) in (
      first (omega arith),
      k.full,
      k.fits,
      apart_from rs gap (r.end + gap) w (λ h. next 0 (omega arith))
          (λ i h. within (suc i) (omega arith)) (λ i h. next (suc i) (omega arith)),
    )

in_low : (rs : List Run) (gap lo w i x : ℕ) → Apart gap lo w rs → In rs i x → lo ≤ x
in_low rs gap lo w i x a h = let k = apart_low rs gap lo w i a (in_below rs i x h) in omega (arith, h.0)

-- ---- the only ones

-- a run of the list covers that column
abbrev Held : List Run → ℕ → Type 0
Held rs x = (i : ℕ) × In rs i x

-- of two lists in order, where the second covers each column that the first does: their first runs, and the rests
module _ (gap w lo lo' : ℕ) (r r' : Run) (rs rs' : List Run) (a : Apart gap lo w (r ∷ rs)) (a' : Apart gap lo' w (r' ∷ rs'))
    (more : (x : ℕ) → Held (r ∷ rs) x → Held (r' ∷ rs') x) where
  first_start : r'.start ≤ r.start
  first_start =
      let k = more r.start (0, (le_refl r.start, a.1)) in
      in_low (r' ∷ rs') gap r'.start w k.0 r.start (le_refl r'.start, a'.1, a'.2, a'.3) k.1

  first_end : (gap ≡ 0 → Short r) → r.start ≡ r'.start → r.end ≤ r'.end
  first_end short e = go (eqb gap 0) refl (ltb r'.end r.end) refl
    where
      -- where a column lies between two runs, none of the second list covers the column at the end of r'
      past : (gap ≡ 0 → ⊥) → Held (r' ∷ rs') r'.end → ⊥
      past g (zero, h) = omega (arith, h.1)
      past g (suc i, h) = let k = in_low rs' gap (r'.end + gap) w i r'.end a'.3 h in omega arith

      go : (b : Bool) → eqb gap 0 ≡ b → (t : Bool) → ltb r'.end r.end ≡ t → r.end ≤ r'.end
      go true b t c = omega (arith, short (eqb-true gap 0 b), a'.1)
      go false b true c = absurd (past (eqb-false gap 0 b) (more r'.end (0, (omega (arith, a'.1), ltb-true r'.end r.end c))))
      go false b false c = ltb-false r'.end r.end c

  rest_more : r'.end ≤ r.end → (x : ℕ) → Held rs x → Held rs' x
  rest_more e x h = go (more x (suc h.0, h.1))
    where
      go : Held (r' ∷ rs') x → Held rs' x
      go (zero, k) = absurd (omega (arith, in_low rs gap (r.end + gap) w h.0 x a.3 h.1, k.1))
      go (suc i, k) = (i, k)

apart_only : (gap w lo lo' : ℕ) (rs rs' : List Run) → Apart gap lo w rs → Apart gap lo' w rs'
    → (gap ≡ 0 → (i : ℕ) → i < length rs → Short (get_or rs i none)) → (gap ≡ 0 → (i : ℕ) → i < length rs' → Short (get_or rs' i none))
    → ((x : ℕ) → Held rs x → Held rs' x) → ((x : ℕ) → Held rs' x → Held rs x) → rs ≡ rs'
apart_only gap w lo lo' [] [] a a' s s' more less = refl
apart_only gap w lo lo' [] (r' ∷ rs') a a' s s' more less =
    absurd (not-suc-le-zero (less r'.start (0, (le_refl r'.start, a'.1))).1.1)
apart_only gap w lo lo' (r ∷ rs) [] a a' s s' more less = absurd (not-suc-le-zero (more r.start (0, (le_refl r.start, a.1))).1.1)
apart_only gap w lo lo' (r ∷ rs) (r' ∷ rs') a a' s s' more less =
    let x : r.start ≡ r'.start = omega (
      arith,
      first_start gap w lo lo' r r' rs rs' a a' more,
      first_start gap w lo' lo r' r rs' rs a' a less,
    ) in
    let y = first_end gap w lo lo' r r' rs rs' a a' more (λ g. s g 0 (omega arith)) x in
    let z = first_end gap w lo' lo r' r rs' rs a' a less (λ g. s' g 0 (omega arith)) (sym x) in
    let e : r.end ≡ r'.end = omega arith in
    let first : r ≡ r' = ap₂ (λ (m : ℕ) (n : ℕ). record { start = m; end = n }) x e in
    ap₂ (λ (u : Run) (us : List Run). u ∷ us) first
    (apart_only gap w (r.end + gap) (r'.end + gap) rs rs' a.3 a'.3 (λ g i l. s g (suc i) (omega arith))
    (λ g i l. s' g (suc i) (omega arith)) (rest_more gap w lo lo' r r' rs rs' a a' more z) (rest_more gap w lo' lo r' r rs' rs a' a less y))

-- in order, one column long with the left byte zero, and covering the nonzero columns alone and all: such are the runs of the line
pub line_only : (left : Bool) (l : List Bool) (w : ℕ) (rs : List Run) → length l ≤ w → Apart (gap_of left) 0 w rs
    → (left ≡ false → (i : ℕ) → i < length rs → Short (get_or rs i none))
    → ((i x : ℕ) → In rs i x → get_or l x false ≡ true) → ((x : ℕ) → get_or l x false ≡ true → (i : ℕ) × In rs i x) → line_runs left l ≡ rs
unfolding gap_of
line_only true l w rs h a s cover all =
    apart_only 1 w 0 0 (line_runs true l) rs (line_apart true l w h) a (λ g. absurd (omega arith)) (λ g. absurd (omega arith))
    (λ x k. all x (line_in_lem true l k.0 x k.1).0) (λ x k. line_held true l x (cover k.0 x k.1))
line_only false l w rs h a s cover all =
    apart_only 0 w 0 0 (line_runs false l) rs (line_apart false l w h) a (λ g i k. line_short l i) (λ g. s refl)
    (λ x k. all x (line_in_lem false l k.0 x k.1).0) (λ x k. line_held false l x (cover k.0 x k.1))
