-- How many cells are nonzero: of lists one after the other, of lines, and by the lengths of the runs.
-- Assumes nothing.
use mathlib.Core.Path.{◌≡◌, refl, sym, ap, ◌∙◌, subst}
use mathlib.Core.Bool.{Bool, true, false, cond}
use mathlib.Core.List.{List, [], ◌∷◌, ◌++◌}
use Prim.Native.Nat.{ℕ, zero, suc, ◌+◌, ◌-◌, ◌*◌, ◌≤◌, ◌<◌}
use native.Mathlib.Nat.{le_refl, le_trans, zero-mul, suc-mul}
use native.Mathlib.Omega.{arith}
use lib.ListN.{length, get_or, take, drop, take-append-drop}
use lib.Seq.{take_all, take-nil}
use Rattle.groups.specs.Groups.{sum_over}
use Rattle.groups.proofs.CountLaws.{count_none, count_front, count_most}
use Rattle.frame.specs.Shape.{width}
use Rattle.frame.specs.Structure.{left_on}
use Rattle.frame.specs.ChainRule.{nonzero}
use Rattle.frame.specs.Runs.{nonzero_cells, Run, none, run_length, run_lengths, stretches, singles, line_runs, line_of}
use Rattle.frame.specs.Runs.{frame_runs, runs_before, frame_run}
use Rattle.frame.proofs.ShapeLaws.{Fits}
use Rattle.frame.proofs.FrameRunLaws.{start_zero, start_suc, run_at}

-- ---- lists

pub cells_none : nonzero_cells [] ≡ 0
unfolding nonzero_cells
cells_none = count_none (nonzero [])

pub cells_cons : (b : Bool) (l : List Bool) → nonzero_cells (b ∷ l) ≡ cond b 1 0 + nonzero_cells l
unfolding nonzero_cells nonzero
cells_cons b l = count_front (λ p. get_or (b ∷ l) p false) (length l)

pub cells_append : (l m : List Bool) → nonzero_cells (l ++ m) ≡ nonzero_cells l + nonzero_cells m
cells_append [] m = omega (arith, cells_none)
cells_append (b ∷ l) m = omega (arith, cells_cons b (l ++ m), cells_append l m, cells_cons b l)

-- the first n and the others
pub cells_split : (n : ℕ) (l : List Bool) → nonzero_cells l ≡ nonzero_cells (take n l) + nonzero_cells (drop n l)
cells_split n l = ap nonzero_cells (sym (take-append-drop n l)) ∙ cells_append (take n l) (drop n l)

pub cells_most : (l : List Bool) → nonzero_cells l ≤ length l
unfolding nonzero_cells
cells_most l = count_most (nonzero l) (length l)

-- ---- lines

take_more : (m n : ℕ) (l : List Bool) → take (m + n) l ≡ take m l ++ take n (drop m l)
take_more zero n l = let e : 0 + n ≡ n = omega arith in ap (λ (k : ℕ). take k l) e
take_more (suc m) n [] = take-nil (suc m + n) ∙ sym (take-nil n)
take_more (suc m) n (b ∷ l) =
    let e : suc m + n ≡ suc (m + n) = omega arith in
    ap (λ (k : ℕ). take k (b ∷ l)) e ∙ ap (λ (r : List Bool). b ∷ r) (take_more m n l)

-- one line more
pub cells_line : (w i : ℕ) (l : List Bool) → nonzero_cells (take (suc i * w) l) ≡ nonzero_cells (take (i * w) l) + nonzero_cells (line_of w l i)
unfolding line_of
cells_line w i l =
    ap (λ (k : ℕ). nonzero_cells (take k l)) (suc-mul i w) ∙ ap nonzero_cells (take_more (i * w) w l)
    ∙ cells_append (take (i * w) l) (take w (drop (i * w) l))

-- ---- lengths of runs

lengths_zero : (f : ℕ → Run) → run_lengths f 0 ≡ 0
unfolding run_lengths
lengths_zero f = refl

pub lengths_sum : (f : ℕ → Run) (n : ℕ) → sum_over (λ r. true) (λ r. run_length (f r)) n ≡ run_lengths f n
unfolding run_lengths sum_over
lengths_sum f zero = refl
lengths_sum f (suc n) = omega (arith, lengths_sum f n)

pub lengths_same : (f g : ℕ → Run) (n : ℕ) → ((r : ℕ) → r < n → f r ≡ g r) → run_lengths f n ≡ run_lengths g n
unfolding run_lengths
lengths_same f g zero h = refl
lengths_same f g (suc n) h =
    let e : (f n).end - (f n).start ≡ (g n).end - (g n).start = ap (λ (u : Run). u.end - u.start) (h n (le_refl (suc n))) in
    omega (arith, lengths_same f g n (λ r l. h r (omega arith)))

pub lengths_more : (f : ℕ → Run) (m n : ℕ) → run_lengths f (m + n) ≡ run_lengths f m + run_lengths (λ i. f (m + i)) n
unfolding run_lengths
lengths_more f m zero = let e : m + 0 ≡ m = omega arith in ap (run_lengths f) e ∙ omega arith
lengths_more f m (suc n) = let e : m + suc n ≡ suc (m + n) = omega arith in ap (run_lengths f) e ∙ omega (arith, lengths_more f m n)

lengths_front : (f : ℕ → Run) (n : ℕ) → run_lengths f (suc n) ≡ ((f 0).end - (f 0).start) + run_lengths (λ i. f (suc i)) n
unfolding run_lengths
lengths_front f zero = refl
lengths_front f (suc n) = omega (arith, lengths_front f n)

-- the lengths of a list of runs
abbrev pub list_lengths : List Run → ℕ
list_lengths rs = run_lengths (λ i. get_or rs i none) (length rs)

lengths_cons : (r : Run) (rs : List Run) → list_lengths (r ∷ rs) ≡ (r.end - r.start) + list_lengths rs
lengths_cons r rs = lengths_front (λ i. get_or (r ∷ rs) i none) (length rs)

lengths_none : list_lengths [] ≡ 0
lengths_none = lengths_zero (λ i. none)

-- ---- a line's runs have its nonzero cells

mutual
  unfolding stretches

  off_cells : (s x : ℕ) (l : List Bool) → list_lengths (stretches false s x l) ≡ nonzero_cells l
  off_cells s x [] = lengths_none ∙ sym cells_none
  off_cells s x (false ∷ l) = off_cells s (suc x) l ∙ sym (cells_cons false l ∙ omega arith)
  off_cells s x (true ∷ l) = on_cells x (suc x) l (omega arith) ∙ omega (arith, cells_cons true l)

  on_cells : (s x : ℕ) (l : List Bool) → s ≤ x → list_lengths (stretches true s x l) ≡ (x - s) + nonzero_cells l
  on_cells s x [] h = lengths_cons (record { start = s; end = x }) [] ∙ omega (arith, lengths_none, cells_none)
  on_cells s x (true ∷ l) h = on_cells s (suc x) l (omega arith) ∙ omega (arith, cells_cons true l)
  on_cells s x (false ∷ l) h =
      lengths_cons (record { start = s; end = x }) (stretches false s (suc x) l) ∙ omega (arith, off_cells s (suc x) l, cells_cons false l)

single_cells : (x : ℕ) (l : List Bool) → list_lengths (singles x l) ≡ nonzero_cells l
unfolding singles
single_cells x [] = lengths_none ∙ sym cells_none
single_cells x (false ∷ l) = single_cells (suc x) l ∙ sym (cells_cons false l ∙ omega arith)
single_cells x (true ∷ l) =
    lengths_cons (record { start = x; end = suc x }) (singles (suc x) l) ∙ omega (arith, single_cells (suc x) l, cells_cons true l)

pub line_cells : (left : Bool) (l : List Bool) → list_lengths (line_runs left l) ≡ nonzero_cells l
unfolding line_runs
line_cells true l = off_cells 0 0 l
line_cells false l = single_cells 0 l

-- ---- the runs of the lines fed have the nonzero cells fed

module _ (shape structure : List ℕ) (cells : List Bool) (n : ℕ) (F : Fits shape n cells) where
  abbrev w : ℕ
  w = width shape

  abbrev R : ℕ → List Run
  R = frame_runs shape structure cells

  abbrev S : ℕ → ℕ
  S = runs_before shape structure cells

  abbrev run : ℕ → Run
  run = frame_run shape structure cells

  frame_line : (ℓ : ℕ) → list_lengths (R ℓ) ≡ nonzero_cells (line_of w cells ℓ)
  unfolding frame_runs
  frame_line ℓ = line_cells (left_on shape structure) (line_of w cells ℓ)

  lines_cells_lem : (m : ℕ) → m ≤ n → run_lengths run (S m) ≡ nonzero_cells (take (m * w) cells)
  lines_cells_lem zero h =
      ap (run_lengths run) (start_zero shape structure cells) ∙ lengths_zero run
      ∙ sym (ap (λ (k : ℕ). nonzero_cells (take k cells)) (zero-mul w) ∙ cells_none)
  lines_cells_lem (suc m) h =
      let here : run_lengths (λ i. run (S m + i)) (length (R m)) ≡ list_lengths (R m) =
      lengths_same (λ i. run (S m + i)) (λ i. get_or (R m) i none) (length (R m))
      (λ i l. run_at shape structure cells m i (le_trans h F.below) l) in
      ap (run_lengths run) (start_suc shape structure cells m)
      ∙ lengths_more run (S m) (length (R m))
      ∙ omega (arith, here, frame_line m, lines_cells_lem m (omega arith), cells_line w m cells)

  pub runs_cells : run_lengths (frame_run shape structure cells) (runs_before shape structure cells n) ≡ nonzero_cells cells
  runs_cells =
      lines_cells_lem n (le_refl n)
      ∙ ap nonzero_cells (take_all (n * w) cells (subst (λ (k : ℕ). k ≤ n * w) (sym F.whole) (le_refl (n * w))))
