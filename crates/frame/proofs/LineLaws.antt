-- The runs of one line: each nonzero cell is in exactly one, they stand in order, and at most h of them.
-- Assumes nothing.
use mathlib.Core.Path.{◌≡◌, refl, sym}
use mathlib.Core.Bool.{Bool, true, false, not, cond, ◌&&◌, false≢true}
use mathlib.Core.List.{List, [], ◌∷◌}
use Prim.Native.Nat.{ℕ, zero, suc, ◌+◌, ◌*◌, ◌≤◌, ◌<◌}
use native.Mathlib.Nat.{le_refl, not-suc-le-zero, zero-add}
use native.Mathlib.Omega.{arith}
use lib.ListN.{length, get_or}
use Rattle.frame.specs.Memory.{most_runs}
use Rattle.frame.specs.Runs.{Run, none, Covers, stretches, singles, line_runs, gap_of}

-- run i of the list holds column x
abbrev pub In : List Run → ℕ → ℕ → Type 0
In rs i x = Covers (get_or rs i none) x

-- the runs of a line of w cells, from column lo on: each holds a cell, ends by w, and starts at least `gap` past the end of the one before
abbrev pub Apart : ℕ → ℕ → ℕ → List Run → Type 0
Apart gap lo w [] = Unit {0}
Apart gap lo w (r ∷ rs) = (lo ≤ r.start) × (r.start < r.end) × (r.end ≤ w) × Apart gap (r.end + gap) w rs

-- how many runs begin in the first n columns of l, where prev says whether the cell before l is nonzero
pub begun : Bool → Bool → List Bool → ℕ → ℕ
begun left prev l zero = 0
begun left prev [] (suc n) = 0
begun left prev (b ∷ l) (suc n) = cond (b && not (left && prev)) 1 0 + begun left b l n

nowhere : (i y : ℕ) {X : Type 0} → In [] i y → X
nowhere i y h = absurd (not-suc-le-zero h.1)

past : (r : Run) (i y : ℕ) {X : Type 0} → In (r ∷ []) (suc i) y → X
past r i y h = absurd (not-suc-le-zero h.1)

-- ---- maximal stretches

mutual
  unfolding stretches

  low_off : (l : List Bool) (s x i y : ℕ) → In (stretches false s x l) i y → x ≤ y
  low_off [] s x i y h = nowhere i y h
  low_off (false ∷ l) s x i y h = let k = low_off l s (suc x) i y h in omega arith
  low_off (true ∷ l) s x i y h = low_on l x (suc x) i y (omega arith) h

  low_on : (l : List Bool) (s x i y : ℕ) → s ≤ x → In (stretches true s x l) i y → s ≤ y
  low_on [] s x zero y g h = h.0
  low_on [] s x (suc i) y g h = past none i y h
  low_on (true ∷ l) s x i y g h = low_on l s (suc x) i y (omega arith) h
  low_on (false ∷ l) s x zero y g h = h.0
  low_on (false ∷ l) s x (suc i) y g h = let k = low_off l s (suc x) i y h in omega arith

open_in : (l : List Bool) (s x y : ℕ) → s ≤ y → y < x → In (stretches true s x l) 0 y
unfolding stretches
open_in [] s x y g h = (g, h)
open_in (true ∷ l) s x y g h = open_in l s (suc x) y g (omega arith)
open_in (false ∷ l) s x y g h = (g, h)

open_only : (l : List Bool) (s x i y : ℕ) → y < x → In (stretches true s x l) i y → i ≡ 0
unfolding stretches
open_only [] s x zero y g h = refl
open_only [] s x (suc i) y g h = past none i y h
open_only (true ∷ l) s x i y g h = open_only l s (suc x) i y (omega arith) h
open_only (false ∷ l) s x zero y g h = refl
open_only (false ∷ l) s x (suc i) y g h = let k = low_off l s (suc x) i y h in absurd (omega arith)

mutual
  unfolding stretches begun

  in_off : (l : List Bool) (s x y d i : ℕ) → y ≡ x + d → In (stretches false s x l) i y
      → (get_or l d false ≡ true) × (begun true false l (suc d) ≡ suc i)
  in_off [] s x y d i e h = nowhere i y h
  in_off (false ∷ l) s x y zero i e h = let k = low_off l s (suc x) i y h in absurd (omega arith)
  in_off (false ∷ l) s x y (suc d) i e h = let r = in_off l s (suc x) y d i (omega arith) h in (r.0, omega (arith, r.1))
  in_off (true ∷ l) s x y zero i e h = let k = open_only l x (suc x) i y (omega arith) h in (refl, omega arith)
  in_off (true ∷ l) s x y (suc d) i e h = let r = in_on l x (suc x) y d i (omega arith) h in (r.0, omega (arith, r.1))

  in_on : (l : List Bool) (s x y d i : ℕ) → y ≡ x + d → In (stretches true s x l) i y
      → (get_or l d false ≡ true) × (begun true true l (suc d) ≡ i)
  in_on [] s x y d zero e h = absurd (omega (arith, h.1))
  in_on [] s x y d (suc i) e h = past none i y h
  in_on (true ∷ l) s x y zero i e h = let k = open_only l s (suc x) i y (omega arith) h in (refl, omega arith)
  in_on (true ∷ l) s x y (suc d) i e h = let r = in_on l s (suc x) y d i (omega arith) h in (r.0, omega (arith, r.1))
  in_on (false ∷ l) s x y d zero e h = absurd (omega (arith, h.1))
  in_on (false ∷ l) s x y zero (suc i) e h = let k = low_off l s (suc x) i y h in absurd (omega arith)
  in_on (false ∷ l) s x y (suc d) (suc i) e h = let r = in_off l s (suc x) y d i (omega arith) h in (r.0, omega (arith, r.1))

mutual
  unfolding stretches

  held_off : (l : List Bool) (s x y d : ℕ) → y ≡ x + d → get_or l d false ≡ true → (i : ℕ) × In (stretches false s x l) i y
  held_off [] s x y d e h = absurd (false≢true h)
  held_off (false ∷ l) s x y zero e h = absurd (false≢true h)
  held_off (false ∷ l) s x y (suc d) e h = held_off l s (suc x) y d (omega arith) h
  held_off (true ∷ l) s x y zero e h = (0, open_in l x (suc x) y (omega arith) (omega arith))
  held_off (true ∷ l) s x y (suc d) e h = held_on l x (suc x) y d (omega arith) (omega arith) h

  held_on : (l : List Bool) (s x y d : ℕ) → s ≤ x → y ≡ x + d → get_or l d false ≡ true → (i : ℕ) × In (stretches true s x l) i y
  held_on [] s x y d g e h = absurd (false≢true h)
  held_on (true ∷ l) s x y zero g e h = (0, open_in l s (suc x) y (omega arith) (omega arith))
  held_on (true ∷ l) s x y (suc d) g e h = held_on l s (suc x) y d (omega arith) (omega arith) h
  held_on (false ∷ l) s x y zero g e h = absurd (false≢true h)
  held_on (false ∷ l) s x y (suc d) g e h = let r = held_off l s (suc x) y d (omega arith) h in (suc r.0, r.1)

mutual
  unfolding stretches begun

  length_off : (l : List Bool) (s x n : ℕ) → length l ≤ n → length (stretches false s x l) ≡ begun true false l n
  length_off [] s x zero h = refl
  length_off [] s x (suc n) h = refl
  length_off (b ∷ l) s x zero h = absurd (not-suc-le-zero h)
  length_off (false ∷ l) s x (suc n) h = let r = length_off l s (suc x) n (omega arith) in omega arith
  length_off (true ∷ l) s x (suc n) h = let r = length_on l x (suc x) n (omega arith) in omega arith

  length_on : (l : List Bool) (s x n : ℕ) → length l ≤ n → length (stretches true s x l) ≡ suc (begun true true l n)
  length_on [] s x zero h = refl
  length_on [] s x (suc n) h = refl
  length_on (b ∷ l) s x zero h = absurd (not-suc-le-zero h)
  length_on (true ∷ l) s x (suc n) h = let r = length_on l s (suc x) n (omega arith) in omega arith
  length_on (false ∷ l) s x (suc n) h = let r = length_off l s (suc x) n (omega arith) in omega arith

weaken : (rs : List Run) (gap lo lo' w : ℕ) → lo' ≤ lo → Apart gap lo w rs → Apart gap lo' w rs
weaken [] gap lo lo' w h a = tt
weaken (r ∷ rs) gap lo lo' w h a = let b = a.0 in (omega arith, a.1, a.2, a.3)

mutual
  unfolding stretches

  apart_off : (l : List Bool) (s x w : ℕ) → x + length l ≤ w → Apart 1 x w (stretches false s x l)
  apart_off [] s x w e = tt
  apart_off (false ∷ l) s x w e = weaken (stretches false s (suc x) l) 1 (suc x) x w (omega arith) (apart_off l s (suc x) w (omega arith))
  apart_off (true ∷ l) s x w e = apart_on l x (suc x) w (omega arith) (omega arith)

  apart_on : (l : List Bool) (s x w : ℕ) → s < x → x + length l ≤ w → Apart 1 s w (stretches true s x l)
  apart_on [] s x w h e = (omega arith, h, omega arith, tt)
  apart_on (true ∷ l) s x w h e = apart_on l s (suc x) w (omega arith) (omega arith)
  apart_on (false ∷ l) s x w h e =
      let p : x + 1 ≤ suc x = omega arith in
      (omega arith, h, omega arith, weaken (stretches false s (suc x) l) 1 (suc x) (x + 1) w p (apart_off l s (suc x) w (omega arith)))

mutual
  unfolding stretches

  few_off : (l : List Bool) (s x : ℕ) → 2 * length (stretches false s x l) ≤ length l + 1
  few_off [] s x = omega arith
  few_off (false ∷ l) s x = let h = few_off l s (suc x) in omega arith
  few_off (true ∷ l) s x = let h = few_on l x (suc x) in omega arith

  few_on : (l : List Bool) (s x : ℕ) → 2 * length (stretches true s x l) ≤ length l + 2
  few_on [] s x = omega arith
  few_on (true ∷ l) s x = let h = few_on l s (suc x) in omega arith
  few_on (false ∷ l) s x = let h = few_off l s (suc x) in omega arith

-- ---- each nonzero cell

low_singles : (l : List Bool) (x i y : ℕ) → In (singles x l) i y → x ≤ y
unfolding singles
low_singles [] x i y h = nowhere i y h
low_singles (false ∷ l) x i y h = let k = low_singles l (suc x) i y h in omega arith
low_singles (true ∷ l) x zero y h = h.0
low_singles (true ∷ l) x (suc i) y h = let k = low_singles l (suc x) i y h in omega arith

in_singles : (l : List Bool) (prev : Bool) (x y d i : ℕ) → y ≡ x + d → In (singles x l) i y
    → (get_or l d false ≡ true) × (begun false prev l (suc d) ≡ suc i)
unfolding singles begun
in_singles [] prev x y d i e h = nowhere i y h
in_singles (false ∷ l) prev x y zero i e h = let k = low_singles l (suc x) i y h in absurd (omega arith)
in_singles (false ∷ l) prev x y (suc d) i e h = let r = in_singles l false (suc x) y d i (omega arith) h in (r.0, omega (arith, r.1))
in_singles (true ∷ l) prev x y zero zero e h = (refl, omega arith)
in_singles (true ∷ l) prev x y zero (suc i) e h = let k = low_singles l (suc x) i y h in absurd (omega arith)
in_singles (true ∷ l) prev x y (suc d) zero e h = absurd (omega (arith, h.1))
in_singles (true ∷ l) prev x y (suc d) (suc i) e h = let r = in_singles l true (suc x) y d i (omega arith) h in (r.0, omega (arith, r.1))

held_singles : (l : List Bool) (x y d : ℕ) → y ≡ x + d → get_or l d false ≡ true → (i : ℕ) × In (singles x l) i y
unfolding singles
held_singles [] x y d e h = absurd (false≢true h)
held_singles (false ∷ l) x y zero e h = absurd (false≢true h)
held_singles (false ∷ l) x y (suc d) e h = held_singles l (suc x) y d (omega arith) h
held_singles (true ∷ l) x y zero e h = (0, (omega arith, omega arith))
held_singles (true ∷ l) x y (suc d) e h = let r = held_singles l (suc x) y d (omega arith) h in (suc r.0, r.1)

length_singles : (l : List Bool) (prev : Bool) (x n : ℕ) → length l ≤ n → length (singles x l) ≡ begun false prev l n
unfolding singles begun
length_singles [] prev x zero h = refl
length_singles [] prev x (suc n) h = refl
length_singles (b ∷ l) prev x zero h = absurd (not-suc-le-zero h)
length_singles (false ∷ l) prev x (suc n) h = let r = length_singles l false (suc x) n (omega arith) in omega arith
length_singles (true ∷ l) prev x (suc n) h = let r = length_singles l true (suc x) n (omega arith) in omega arith

apart_singles : (l : List Bool) (x w : ℕ) → x + length l ≤ w → Apart 0 x w (singles x l)
unfolding singles
apart_singles [] x w e = tt
apart_singles (false ∷ l) x w e = weaken (singles (suc x) l) 0 (suc x) x w (omega arith) (apart_singles l (suc x) w (omega arith))
apart_singles (true ∷ l) x w e = (
  le_refl x,
  le_refl (suc x),
  omega arith,
  weaken (singles (suc x) l) 0 (suc x) (suc x + 0) w (omega arith)
      (apart_singles l (suc x) w (omega arith)),
)

few_singles : (l : List Bool) (x : ℕ) → length (singles x l) ≤ length l
unfolding singles
few_singles [] x = le_refl 0
few_singles (false ∷ l) x = let h = few_singles l (suc x) in omega arith
few_singles (true ∷ l) x = let h = few_singles l (suc x) in omega arith

-- ---- either

-- the i-th run holds exactly the nonzero columns up to which i + 1 runs begin
pub line_in_lem : (left : Bool) (l : List Bool) (i x : ℕ) → In (line_runs left l) i x
    → (get_or l x false ≡ true) × (begun left false l (suc x) ≡ suc i)
unfolding line_runs
line_in_lem true l i x h = in_off l 0 0 x x i (sym (zero-add x)) h
line_in_lem false l i x h = in_singles l false 0 x x i (sym (zero-add x)) h

-- a nonzero cell is in a run
pub line_held : (left : Bool) (l : List Bool) (x : ℕ) → get_or l x false ≡ true → (i : ℕ) × In (line_runs left l) i x
unfolding line_runs
line_held true l x h = held_off l 0 0 x x (sym (zero-add x)) h
line_held false l x h = held_singles l 0 x x (sym (zero-add x)) h

pub line_length : (left : Bool) (l : List Bool) (n : ℕ) → length l ≤ n → length (line_runs left l) ≡ begun left false l n
unfolding line_runs
line_length true l n h = length_off l 0 0 n h
line_length false l n h = length_singles l false 0 n h

-- in order; a run that the next one touches only where the left byte is zero
pub line_apart : (left : Bool) (l : List Bool) (w : ℕ) → length l ≤ w → Apart (gap_of left) 0 w (line_runs left l)
unfolding line_runs gap_of
line_apart true l w h = apart_off l 0 0 w (omega arith)
line_apart false l w h = apart_singles l 0 w (omega arith)

-- at most h of them, which is at most the width
pub line_few : (left : Bool) (l : List Bool) (w : ℕ) → length l ≤ w → length (line_runs left l) ≤ most_runs left w
unfolding line_runs
line_few true l w h = let k = few_off l 0 0 in omega arith
line_few false l w h = let k = few_singles l 0 in omega arith

pub most_runs_le : (left : Bool) (w : ℕ) → most_runs left w ≤ w
most_runs_le true w = omega arith
most_runs_le false w = omega arith

-- ---- what order says of each run

pub record Within (w : ℕ) (r : Run) : Type 0 where
  pub full : r.start < r.end
  pub fits : r.end ≤ w

pub apart_at : (rs : List Run) (gap lo w i : ℕ) → Apart gap lo w rs → i < length rs → Within w (get_or rs i none)
apart_at [] gap lo w i a h = absurd (not-suc-le-zero h)
apart_at (r ∷ rs) gap lo w zero a h = record { full = a.1; fits = a.2 }
apart_at (r ∷ rs) gap lo w (suc i) a h = apart_at rs gap (r.end + gap) w i a.3 (omega arith)

pub apart_low : (rs : List Run) (gap lo w i : ℕ) → Apart gap lo w rs → i < length rs → lo ≤ (get_or rs i none).start
apart_low [] gap lo w i a h = absurd (not-suc-le-zero h)
apart_low (r ∷ rs) gap lo w zero a h = a.0
apart_low (r ∷ rs) gap lo w (suc i) a h = omega (arith, apart_low rs gap (r.end + gap) w i a.3 (omega arith), a.0, a.1)

-- the next run starts past the end of the one before
pub apart_next : (rs : List Run) (gap lo w i j : ℕ) → Apart gap lo w rs → i < j → j < length rs
    → (get_or rs i none).end + gap ≤ (get_or rs j none).start
apart_next [] gap lo w i j a l h = absurd (not-suc-le-zero h)
apart_next (r ∷ rs) gap lo w i zero a l h = absurd (not-suc-le-zero l)
apart_next (r ∷ rs) gap lo w zero (suc j) a l h = apart_low rs gap (r.end + gap) w j a.3 (omega arith)
apart_next (r ∷ rs) gap lo w (suc i) (suc j) a l h = apart_next rs gap (r.end + gap) w i j a.3 (omega arith) (omega arith)

pub in_below : (rs : List Run) (i x : ℕ) → In rs i x → i < length rs
in_below [] i x h = nowhere i x h
in_below (r ∷ rs) zero x h = omega arith
in_below (r ∷ rs) (suc i) x h = let k = in_below rs i x h in omega arith

-- ---- one more column

-- is the cell before column x nonzero?
pub before : Bool → List Bool → ℕ → Bool
before prev l zero = prev
before prev l (suc x) = get_or l x false

pub before_zero : (prev : Bool) (l : List Bool) → before prev l 0 ≡ prev
unfolding before
before_zero prev l = refl

pub before_suc : (prev : Bool) (l : List Bool) (x : ℕ) → before prev l (suc x) ≡ get_or l x false
unfolding before
before_suc prev l x = refl

before_cons : (b : Bool) (l : List Bool) (x : ℕ) → before b l x ≡ get_or (b ∷ l) x false
unfolding before
before_cons b l zero = refl
before_cons b l (suc x) = refl

pub begun_zero : (left prev : Bool) (l : List Bool) → begun left prev l 0 ≡ 0
unfolding begun
begun_zero left prev l = refl

pub begun_step : (left prev : Bool) (l : List Bool) (x : ℕ)
    → begun left prev l (suc x) ≡ cond (get_or l x false && not (left && before prev l x)) 1 0 + begun left prev l x
unfolding begun before
begun_step left prev [] zero = refl
begun_step left prev [] (suc x) = refl
begun_step left prev (b ∷ l) zero = refl
begun_step left prev (b ∷ l) (suc x) =
    let i : begun left b l (suc x) ≡ cond (get_or l x false && not (left && get_or (b ∷ l) x false)) 1 0 + begun left b l x =
    rw (← before_cons b l x) (begun_step left b l x) in
    omega arith
