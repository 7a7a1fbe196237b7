-- More lines fed: the old lines' runs and touches stand, and the new ones follow them.
-- Assumes nothing.
use mathlib.Core.Path.{◌≡◌, sym, ap, ap₂, ◌∙◌}
use mathlib.Core.Bool.{Bool}
use mathlib.Core.List.{List, [], ◌++◌}
use Prim.Native.Nat.{ℕ, suc, ◌+◌, ◌-◌, ◌*◌, ◌≤◌, ◌<◌}
use native.Mathlib.Nat.{le_refl, zero-add, add-zero, suc-mul, add-mul, mul-le-mul_right}
use native.Mathlib.Omega.{arith}
use lib.ListN.{length, get_or, take, drop, length-append, length-drop, get_or-append}
use lib.Seq.{take-append-le, drop-append-le, drop-append-add, get_or-append-add}
use Rattle.groups.specs.Groups.{Edge, gather, rep, joins, visit}
use Rattle.groups.proofs.GatherLaws.{gather_split, gather_same, gather_shift}
use Rattle.groups.proofs.VisitLaws.{visit_append, rep_over, joins_over}
use Rattle.frame.specs.Shape.{width, leading, lines}
use Rattle.frame.specs.Structure.{left_on}
use Rattle.frame.specs.Runs.{Run, none, line_runs, line_of, frame_runs, all_runs, runs_before, frame_run}
use Rattle.frame.specs.Touches.{frame_touches}
use Rattle.frame.proofs.ShapeLaws.{Fits}
use Rattle.frame.proofs.FrameRunLaws.{start_le}
use Rattle.frame.proofs.TouchLaws.{touches_split, touches_same}

-- a line that was fed keeps its cells
line_stays : (w : ℕ) (cells more : List Bool) (ℓ : ℕ) → suc ℓ * w ≤ length cells → line_of w (cells ++ more) ℓ ≡ line_of w cells ℓ
unfolding line_of
line_stays w cells more ℓ h =
    let a : ℓ * w ≤ length cells = omega (arith, suc-mul ℓ w) in
    ap (take w) (drop-append-le (ℓ * w) cells more a) ∙ take-append-le w (drop (ℓ * w) cells) more (omega (
      arith,
      suc-mul ℓ w,
      length-drop (ℓ * w) cells,
    ))

-- a new line has the new cells alone
line_new : (w : ℕ) (cells more : List Bool) (n i : ℕ) → length cells ≡ n * w → line_of w (cells ++ more) (n + i) ≡ line_of w more i
unfolding line_of
line_new w cells more n i e =
    let a : (n + i) * w ≡ length cells + i * w = add-mul n i w ∙ ap (λ (k : ℕ). k + i * w) (sym e) in
    ap (λ (k : ℕ). take w (drop k (cells ++ more))) a ∙ ap (take w) (drop-append-add cells more (i * w))

-- a run of the first n lines is found among those alone
run_first : (shape structure : List ℕ) (cells : List Bool) (n r : ℕ) → n ≤ lines shape → r < runs_before shape structure cells n
    → frame_run shape structure cells r ≡ get_or (all_runs shape structure cells n) r none
unfolding frame_run runs_before all_runs
run_first shape structure cells n r h l =
    let e : lines shape ≡ n + (lines shape - n) = omega arith in
    ap (λ (m : ℕ). get_or (gather (frame_runs shape structure cells) 0 m) r none) e
    ∙ ap (λ (rs : List Run). get_or rs r none) (gather_split (frame_runs shape structure cells) 0 n (lines shape - n))
    ∙ get_or-append (gather (frame_runs shape structure cells) 0 n) (gather (frame_runs shape structure cells) (0 + n) (lines shape - n))
    none r l

module _ (shape structure : List ℕ) (cells more : List Bool) (n : ℕ) (F : Fits shape n cells) where
  -- the runs of each line, how many stand before it, the runs by number, and the touches of n lines from line a on: of the old
  -- lines alone, and (with a prime) of all
  abbrev R : ℕ → List Run
  R = frame_runs shape structure cells

  abbrev R' : ℕ → List Run
  R' = frame_runs shape structure (cells ++ more)

  abbrev S : ℕ → ℕ
  S = runs_before shape structure cells

  abbrev S' : ℕ → ℕ
  S' = runs_before shape structure (cells ++ more)

  abbrev run : ℕ → Run
  run = frame_run shape structure cells

  abbrev run' : ℕ → Run
  run' = frame_run shape structure (cells ++ more)

  abbrev T : ℕ → ℕ → List Edge
  T = frame_touches shape structure cells

  abbrev T' : ℕ → ℕ → List Edge
  T' = frame_touches shape structure (cells ++ more)

  -- ---- runs

  pub runs_stay : (ℓ : ℕ) → ℓ < n → R' ℓ ≡ R ℓ
  unfolding frame_runs
  runs_stay ℓ h =
      ap (line_runs (left_on shape structure)) (line_stays (width shape) cells more ℓ (rw F.whole (mul-le-mul_right (width shape) h)))

  pub runs_new : (i : ℕ) → R' (n + i) ≡ line_runs (left_on shape structure) (line_of (width shape) more i)
  unfolding frame_runs
  runs_new i = ap (line_runs (left_on shape structure)) (line_new (width shape) cells more n i F.whole)

  all_stay : (ℓ : ℕ) → ℓ ≤ n → all_runs shape structure (cells ++ more) ℓ ≡ all_runs shape structure cells ℓ
  unfolding all_runs
  all_stay ℓ h = gather_same R' R 0 ℓ (λ k l u. runs_stay k (omega arith))

  pub starts_stay : (ℓ : ℕ) → ℓ ≤ n → S' ℓ ≡ S ℓ
  unfolding runs_before
  starts_stay ℓ h = ap length (all_stay ℓ h)

  pub run_stays : (r : ℕ) → r < S n → run' r ≡ run r
  run_stays r h =
      run_first shape structure (cells ++ more) n r F.below (rw (starts_stay n (le_refl n)) h)
      ∙ ap (λ (rs : List Run). get_or rs r none) (all_stay n (le_refl n))
      ∙ sym (run_first shape structure cells n r F.below h)

  pub runs_grow : (k : ℕ) → all_runs shape structure (cells ++ more) (n + k) ≡ all_runs shape structure cells n ++ gather R' n k
  unfolding all_runs
  runs_grow k =
      gather_split R' 0 n k
      ∙ ap₂ (λ (x : List Run) (m : ℕ). x ++ gather R' m k) (all_stay n (le_refl n)) (zero-add n)

  -- the new lines' runs are those of the new cells alone
  gather_new : (k : ℕ) → gather R' n k ≡ all_runs shape structure more k
  unfolding all_runs frame_runs
  gather_new k =
      ap (λ (m : ℕ). gather R' m k) (sym (add-zero n))
      ∙ gather_shift R' (frame_runs shape structure more) n runs_new 0 k

  pub starts_new : (k : ℕ) → S' (n + k) ≡ S n + runs_before shape structure more k
  unfolding runs_before
  starts_new k =
      ap length (runs_grow k)
      ∙ length-append (all_runs shape structure cells n) (gather R' n k)
      ∙ ap (λ (rs : List Run). length (all_runs shape structure cells n) + length rs) (gather_new k)

  pub run_new : (k r : ℕ) → n + k ≤ lines shape → r < runs_before shape structure more k → run' (S n + r) ≡ frame_run shape structure more r
  unfolding runs_before
  run_new k r h l =
      let less : S n + r < S' (n + k) = omega (arith, starts_new k) in
      run_first shape structure (cells ++ more) (n + k) (S n + r) h less
      ∙ ap (λ (rs : List Run). get_or rs (S n + r) none)
      (runs_grow k ∙ ap (λ (rs : List Run). all_runs shape structure cells n ++ rs) (gather_new k))
      ∙ get_or-append-add (all_runs shape structure cells n) (all_runs shape structure more k) r none
      ∙ sym (run_first shape structure more k r (omega arith) l)

  -- ---- touches

  pub touches_stay : (a m : ℕ) → a + m ≤ n → T' a m ≡ T a m
  touches_stay a m h =
      touches_same (leading shape) structure S' S run' run n starts_stay (start_le shape structure (cells ++ more))
      (λ r l. run_stays r (rw (starts_stay n (le_refl n)) at l)) F.below a m h

  pub touches_grow : (k : ℕ) → T' 0 (n + k) ≡ T 0 n ++ T' n k
  touches_grow k =
      touches_split (leading shape) structure S' run' 0 n k
      ∙ ap₂ (λ (x : List Edge) (m : ℕ). x ++ T' m k) (touches_stay 0 n (omega arith)) (zero-add n)

  -- ---- groups

  -- the new lines' touches, visited after any edges that group the old runs as their touches do, group all runs as all touches do
  module _ (k : ℕ) (old : List Edge) (right : (a : ℕ) → rep old a ≡ rep (visit (T 0 n) []) a) where
    both : visit (T' n k) (visit (T 0 n) []) ≡ visit (T' 0 (n + k)) []
    both = sym (visit_append (T 0 n) (T' n k) []) ∙ ap (λ (l : List Edge). visit l []) (sym (touches_grow k))

    pub rep_grow : (a : ℕ) → rep (visit (T' n k) old) a ≡ rep (visit (T' 0 (n + k)) []) a
    rep_grow a = rep_over (T' n k) old (visit (T 0 n) []) right a ∙ ap (λ (l : List Edge). rep l a) both

    -- and count the joins that were missing
    pub joins_grow : joins (visit (T' n k) old) + joins (visit (T 0 n) []) ≡ joins (visit (T' 0 (n + k)) []) + joins old
    joins_grow = joins_over (T' n k) old (visit (T 0 n) []) right ∙ ap (λ (l : List Edge). joins l + joins old) both
