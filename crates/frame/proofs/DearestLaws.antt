-- The frame with the most runs: it has L × ⌈w/2⌉, no other of its shape has more, and it needs every word that the memory rule asks for.
-- Assumes nothing.
use mathlib.Core.Path.{◌≡◌, refl, sym, ap, ◌∙◌}
use mathlib.Core.Bool.{Bool, true, false, not}
use mathlib.Core.List.{List}
use Prim.Native.Nat.{ℕ, zero, suc, ◌+◌, ◌-◌, ◌*◌, ◌/◌, ◌≤◌, ◌<◌}
use native.Mathlib.Nat.{le_refl, zero-add, suc-mul, mul_assoc, mul-le-mul_right}
use native.Mathlib.Omega.{arith}
use lib.ListN.{length, take, drop, replicate, get_or-replicate}
use lib.Seq.{take_at, drop_at}
use Rattle.groups.specs.Groups.{gather}
use Rattle.groups.proofs.CountLaws.{count_same, count_all}
use Rattle.groups.proofs.GatherLaws.{gather_split, gather_each}
use Rattle.frame.specs.Shape.{size, width, lines}
use Rattle.frame.specs.Structure.{left_on}
use Rattle.frame.specs.ChainRule.{nonzero}
use Rattle.frame.specs.Runs.{begins_run, runs, stretches, line_runs, line_of, frame_runs, runs_before}
use Rattle.frame.specs.Memory.{stride, per_line, words_needed}
use Rattle.frame.specs.Dearest.{alternate, alternating}
use Rattle.frame.proofs.ShapeLaws.{size_lines_lem, Fits}
use Rattle.frame.proofs.FrameRunLaws.{start_zero, start_suc, starts_few, runs_all}

-- ---- one line

length_alternate : (b : Bool) (n : ℕ) → length (alternate b n) ≡ n
unfolding alternate
length_alternate b zero = refl
length_alternate b (suc n) = ap suc (length_alternate (not b) n)

mutual
  unfolding stretches alternate

  runs_off : (n s x : ℕ) → length (stretches false s x (alternate true n)) ≡ (n + 1) / 2
  runs_off zero s x = refl
  runs_off (suc n) s x = omega (arith, runs_on n x (suc x))

  runs_on : (n s x : ℕ) → length (stretches true s x (alternate false n)) ≡ (n + 2) / 2
  runs_on zero s x = refl
  runs_on (suc n) s x = omega (arith, runs_off n s (suc x))

alternate_runs : (n : ℕ) → length (line_runs true (alternate true n)) ≡ (n + 1) / 2
unfolding line_runs
alternate_runs n = runs_off n 0 0

-- ---- a frame

-- line ℓ of lines that are given one by one
given_line : (f : ℕ → List Bool) (w L ℓ : ℕ) → ((k : ℕ) → length (f k) ≡ w) → ℓ < L → line_of w (gather f 0 L) ℓ ≡ f ℓ
unfolding line_of gather
given_line f w L ℓ each h =
    let n : ℕ = L - suc ℓ in
    let e : L ≡ ℓ + suc n = omega arith in
    ap (λ (k : ℕ). take w (drop (ℓ * w) (gather f 0 k))) e
    ∙ ap (λ (l : List Bool). take w (drop (ℓ * w) l)) (gather_split f 0 ℓ (suc n))
    ∙ ap (take w) (drop_at (gather f 0 ℓ) (gather f (0 + ℓ) (suc n)) (ℓ * w) (gather_each f w each 0 ℓ))
    ∙ take_at (f (0 + ℓ)) (gather f (suc (0 + ℓ)) n) w (each (0 + ℓ))
    ∙ ap f (zero-add ℓ)

-- no frame has more runs than its lines can have
pub runs_most : (shape structure : List ℕ) (n : ℕ) (cells : List Bool) → Fits shape n cells
    → runs shape structure cells ≤ lines shape * per_line shape structure
runs_most shape structure n cells F =
    let all = runs_all shape structure cells n F in
    omega (arith, starts_few shape structure cells n, mul-le-mul_right (per_line shape structure) F.below)

-- nor needs more words than an opening asks for: those of the line starts, and of its runs
pub words_enough : (shape structure : List ℕ) (n : ℕ) (cells : List Bool) → Fits shape n cells
    → lines shape + 1 + stride * runs shape structure cells ≤ words_needed shape structure
unfolding words_needed
words_enough shape structure n cells F =
    omega (arith, mul_assoc stride (lines shape) (per_line shape structure), runs_most shape structure n cells F)

-- so where it has as many runs, its words are all that an opening asks for
words_reached : (shape structure : List ℕ) (cells : List Bool) → runs shape structure cells ≡ lines shape * per_line shape structure
    → lines shape + 1 + stride * runs shape structure cells ≡ words_needed shape structure
unfolding words_needed
words_reached shape structure cells e = rw e (omega (arith, mul_assoc stride (lines shape) (per_line shape structure)))

-- ---- the left byte nonzero

module _ (shape structure : List ℕ) (ranked : 0 < length shape) (left : left_on shape structure ≡ true) where
  abbrev w : ℕ
  w = width shape

  half : per_line shape structure ≡ (width shape + 1) / 2
  unfolding per_line
  half = rw left

  fits : Fits shape (lines shape) (alternating shape)
  unfolding alternating
  fits = record {
    ranked = ranked;
    below = le_refl (lines shape);
    whole = gather_each (λ ℓ. alternate true w) w (λ ℓ. length_alternate true w) 0 (lines shape);
  }

  each_line : (ℓ : ℕ) → ℓ < lines shape → length (frame_runs shape structure (alternating shape) ℓ) ≡ (w + 1) / 2
  unfolding frame_runs alternating
  each_line ℓ h =
      rw (left, given_line (λ k. alternate true w) w (lines shape) ℓ (λ k. length_alternate true w) h) (alternate_runs w)

  upto : (ℓ : ℕ) → ℓ ≤ lines shape → runs_before shape structure (alternating shape) ℓ ≡ ℓ * ((w + 1) / 2)
  upto zero h = start_zero shape structure (alternating shape) ∙ omega arith
  upto (suc ℓ) h = omega (
    arith,
    start_suc shape structure (alternating shape) ℓ,
    each_line ℓ h,
    upto ℓ (omega arith),
    suc-mul ℓ ((w + 1) / 2),
  )

  -- the frame whose lines begin nonzero and alternate has L × ⌈w/2⌉ runs
  pub alternating_runs : runs shape structure (alternating shape) ≡ lines shape * ((width shape + 1) / 2)
  alternating_runs = runs_all shape structure (alternating shape) (lines shape) fits ∙ upto (lines shape) (le_refl (lines shape))

  -- and every other frame of that shape has at most as many
  pub alternating_most : (n : ℕ) (cells : List Bool) → Fits shape n cells
      → runs shape structure cells ≤ runs shape structure (alternating shape)
  alternating_most n cells F = rw (alternating_runs, ← half) (runs_most shape structure n cells F)

  -- it needs all words that an opening asks for
  pub alternating_words : lines shape + 1 + stride * runs shape structure (alternating shape) ≡ words_needed shape structure
  alternating_words = words_reached shape structure (alternating shape) (alternating_runs ∙ ap (λ (k : ℕ). lines shape * k) (sym half))

-- ---- the left byte zero: a frame of nonzero cells alone has L × w runs, and needs all those words

module _ (shape structure : List ℕ) (left : left_on shape structure ≡ false) where
  each_cell : (p : ℕ) → p < size shape → begins_run shape structure (replicate (size shape) true) p ≡ true
  unfolding begins_run nonzero
  each_cell p h = rw (left, get_or-replicate (size shape) p true false h)

  pub full_runs : runs shape structure (replicate (size shape) true) ≡ lines shape * width shape
  unfolding runs
  full_runs =
      count_same (begins_run shape structure (replicate (size shape) true)) (λ p. true) (size shape) each_cell
      ∙ count_all (size shape)
      ∙ size_lines_lem shape

  pub full_words : lines shape + 1 + stride * runs shape structure (replicate (size shape) true) ≡ words_needed shape structure
  full_words = words_reached shape structure (replicate (size shape) true) (full_runs ∙ (unfold per_line in rw left))
