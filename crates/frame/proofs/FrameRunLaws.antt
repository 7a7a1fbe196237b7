-- The runs of a frame's fed lines: those that are listed are those that are counted, and each nonzero cell is in exactly one.
-- Assumes nothing.
use mathlib.Core.Path.{◌≡◌, refl, sym, ap, ◌∙◌, subst}
use mathlib.Core.Bool.{Bool, true, false, not, cond, ◌&&◌, true≢false}
use mathlib.Core.List.{List}
use Prim.Native.Nat.{ℕ, zero, suc, ◌+◌, ◌-◌, ◌*◌, ◌/◌, ◌%◌, ◌≤◌, ◌<◌}
use native.Mathlib.Nat.{le_refl, le_trans, suc-mul, mod-lt, div-add-mod', div-lt_iff_lt-mul, zero-add, zero-mul}
use native.Mathlib.Omega.{arith}
use borrow.Author.Tests.{ne_eqb, ltb-true, ltb-false}
use lib.Dec.{eqb, ltb}
use lib.Arith.{digits_mod}
use lib.ListN.{length, get_or, drop, length-append, length-take, get_or-append}
use lib.Seq.{get_or-take, get_or-drop, get_or-append-add}
use Rattle.groups.specs.Groups.{count, gather}
use Rattle.groups.proofs.BoolLaws.{and_true, and_right}
use Rattle.groups.proofs.CountLaws.{Placed, placed_only}
use Rattle.groups.proofs.GatherLaws.{gather_snoc, gather_split}
use Rattle.frame.specs.Shape.{size, width, lines}
use Rattle.frame.specs.Structure.{left_on}
use Rattle.frame.specs.ChainRule.{nonzero}
use Rattle.frame.specs.Runs.{goes_on, begins_run, runs, run_of, Run, none, Covers, gap_of, line_of, frame_runs, all_runs, runs_before}
use Rattle.frame.specs.Runs.{frame_run}
use Rattle.frame.specs.Memory.{per_line}
use Rattle.frame.proofs.ShapeLaws.{factor_pos, Fits, fits_size}
use Rattle.frame.proofs.ChainRuleLaws.{nonzero_below}
use Rattle.frame.proofs.LineLaws.{In, Apart, begun, line_in_lem, line_held, line_length, line_apart, line_few, Within, apart_at}
use Rattle.frame.proofs.LineLaws.{apart_next, in_below, before, before_zero, before_suc, begun_zero, begun_step}
use Rattle.frame.proofs.RunLaws.{start_of, nonzero_under, run_below, start_right, runs_counted}

module _ (shape structure : List ℕ) (cells : List Bool) where
  -- the width, the runs of each line, how many stand before it, the runs by number, the run of a cell, and the cells that begin one
  abbrev w : ℕ
  w = width shape

  abbrev R : ℕ → List Run
  R = frame_runs shape structure cells

  abbrev S : ℕ → ℕ
  S = runs_before shape structure cells

  abbrev run : ℕ → Run
  run = frame_run shape structure cells

  abbrev of : ℕ → ℕ
  of = run_of shape structure cells

  abbrev begins : ℕ → Bool
  begins = begins_run shape structure cells

  -- the flags of each line, and whether the left byte is nonzero
  abbrev line : ℕ → List Bool
  line = line_of (width shape) cells

  abbrev left : Bool
  left = left_on shape structure

  -- ---- numbers of runs

  pub start_zero : S 0 ≡ 0
  unfolding runs_before all_runs gather
  start_zero = refl

  pub start_suc : (ℓ : ℕ) → S (suc ℓ) ≡ S ℓ + length (R ℓ)
  unfolding runs_before all_runs
  start_suc ℓ =
      ap length (gather_snoc R 0 ℓ)
      ∙ length-append (gather R 0 ℓ) (R (0 + ℓ))
      ∙ ap (λ (k : ℕ). length (gather R 0 ℓ) + length (R k)) (zero-add ℓ)

  start_more : (a k : ℕ) → S a ≤ S (a + k)
  start_more a zero = let e : a + 0 ≡ a = omega arith in subst (λ (m : ℕ). S a ≤ S m) (sym e) (le_refl (S a))
  start_more a (suc k) =
      let e : a + suc k ≡ suc (a + k) = omega arith in
      subst (λ (m : ℕ). S a ≤ S m) (sym e) (omega (arith, start_more a k, start_suc (a + k)))

  pub start_le : (a b : ℕ) → a ≤ b → S a ≤ S b
  start_le a b h = let e : a + (b - a) ≡ b = omega arith in subst (λ (m : ℕ). S a ≤ S m) e (start_more a (b - a))

  -- run i of line ℓ has the number runs_before ℓ + i
  pub run_at : (ℓ i : ℕ) → ℓ < lines shape → i < length (R ℓ) → run (S ℓ + i) ≡ get_or (R ℓ) i none
  unfolding frame_run runs_before all_runs
  run_at ℓ i h k =
      let e : lines shape ≡ ℓ + suc (lines shape - suc ℓ) = omega arith in
      ap (λ (m : ℕ). get_or (gather R 0 m) (length (gather R 0 ℓ) + i) none) e
      ∙ ap (λ (l : List Run). get_or l (length (gather R 0 ℓ) + i) none) (gather_split R 0 ℓ (suc (lines shape - suc ℓ)))
      ∙ get_or-append-add (gather R 0 ℓ) (gather R (0 + ℓ) (suc (lines shape - suc ℓ))) i none
      ∙ ap (λ (m : ℕ). get_or (gather R m (suc (lines shape - suc ℓ))) i none) (zero-add ℓ)
      ∙ (unfold gather in get_or-append (R ℓ) (gather R (suc ℓ) (lines shape - suc ℓ)) none i k)

  -- the runs of the first lines have the first numbers
  pub run_first : (n r : ℕ) → n ≤ lines shape → r < S n → run r ≡ get_or (all_runs shape structure cells n) r none
  unfolding frame_run runs_before all_runs
  run_first n r h k =
      let e : lines shape ≡ n + (lines shape - n) = omega arith in
      ap (λ (m : ℕ). get_or (gather R 0 m) r none) e
      ∙ ap (λ (l : List Run). get_or l r none) (gather_split R 0 n (lines shape - n))
      ∙ get_or-append (gather R 0 n) (gather R (0 + n) (lines shape - n)) none r k

  -- the line of a run
  pub record Located (n r : ℕ) : Type 0 where
    pub of_line : ℕ
    pub is_line : of_line < n
    pub low : S of_line ≤ r
    pub high : r < S (suc of_line)

  pub located : (n r : ℕ) → r < S n → Located n r
  located zero r h = absurd (omega (arith, start_zero))
  located (suc n) r h = go (ltb r (S n)) refl (located n r)
    where
      go : (b : Bool) → ltb r (S n) ≡ b → (r < S n → Located n r) → Located (suc n) r
      go true t before =
          let k = before (ltb-true _ _ t) in
          record { of_line = k.of_line; is_line = omega (arith, k.is_line); low = k.low; high = k.high }
      go false t before = record { of_line = n; is_line = le_refl (suc n); low = ltb-false _ _ t; high = h }

  -- ---- a line's cells

  pub nonzero_line : (ℓ x : ℕ) → x < w → get_or (line ℓ) x false ≡ nonzero cells (ℓ * w + x)
  unfolding line_of nonzero
  nonzero_line ℓ x h = get_or-take w (drop (ℓ * w) cells) x false h ∙ get_or-drop (ℓ * w) cells x false

  pub short : (ℓ : ℕ) → length (line ℓ) ≤ w
  unfolding line_of
  short ℓ = omega (arith, length-take w (drop (ℓ * w) cells))

  goes_line : (ℓ x : ℕ) → x < w → goes_on shape cells (ℓ * w + x) ≡ before false (line ℓ) x
  unfolding goes_on
  goes_line ℓ zero h = rw (digits_mod ℓ {m = w} {r = 0} h, before_zero false (line ℓ))
  goes_line ℓ (suc x) h =
      let e : ℓ * w + suc x - 1 ≡ ℓ * w + x = omega arith in
      let ne : eqb (suc x) 0 ≡ false = ne_eqb (suc x) 0 (λ z. omega arith) in
      rw (digits_mod ℓ {m = w} {r = suc x} h, ne, e, before_suc false (line ℓ) x) (sym (nonzero_line ℓ x (omega arith)))

  begins_line : (ℓ x : ℕ) → x < w → begins (ℓ * w + x) ≡ (get_or (line ℓ) x false && not (left && before false (line ℓ) x))
  unfolding begins_run
  begins_line ℓ x h = rw (goes_line ℓ x h, nonzero_line ℓ x h)

  count_suc : (n : ℕ) → count begins (suc n) ≡ cond (begins n) 1 0 + count begins n
  unfolding count
  count_suc n = refl

  count_line : (ℓ x : ℕ) → x ≤ w → count begins (ℓ * w + x) ≡ count begins (ℓ * w) + begun left false (line ℓ) x
  count_line ℓ zero h =
      let e : ℓ * w + 0 ≡ ℓ * w = omega arith in
      let c = ap (count begins) e in
      omega (arith, begun_zero left false (line ℓ))
  count_line ℓ (suc x) h =
      let e : ℓ * w + suc x ≡ suc (ℓ * w + x) = omega arith in
      let c = ap (count begins) e in
      let i = count_line ℓ x (omega arith) in
      let b = ap {B = ℕ} (λ (t : Bool). cond t 1 0) (begins_line ℓ x h) in
      omega (arith, count_suc (ℓ * w + x), begun_step left false (line ℓ) x)

  -- the runs before line ℓ are those that begin in a cell before it
  pub count_start : (ℓ : ℕ) → count begins (ℓ * w) ≡ S ℓ
  unfolding frame_runs
  count_start zero = ap (count begins) (zero-mul w) ∙ (unfold count in sym start_zero)
  count_start (suc ℓ) =
      let c = ap (count begins) (suc-mul ℓ w) in
      let i = count_start ℓ in
      omega (arith, count_line ℓ w (le_refl w), start_suc ℓ, line_length left (line ℓ) w (short ℓ))

  -- ---- a line's runs

  -- in order, each within the line; the next may touch only where the left byte is zero
  pub runs_apart : (ℓ : ℕ) → Apart (gap_of left) 0 w (R ℓ)
  unfolding frame_runs
  runs_apart ℓ = line_apart left (line ℓ) w (short ℓ)

  -- at most document 01's h
  pub runs_few : (ℓ : ℕ) → length (R ℓ) ≤ per_line shape structure
  unfolding frame_runs per_line
  runs_few ℓ = line_few left (line ℓ) w (short ℓ)

  pub starts_few : (ℓ : ℕ) → S ℓ ≤ ℓ * per_line shape structure
  starts_few zero = rw start_zero (omega arith)
  starts_few (suc ℓ) = let i = starts_few ℓ in omega (arith, start_suc ℓ, runs_few ℓ, suc-mul ℓ (per_line shape structure))

  within : (ℓ i : ℕ) → i < length (R ℓ) → Within w (get_or (R ℓ) i none)
  within ℓ i h = apart_at (R ℓ) (gap_of left) 0 w i (runs_apart ℓ) h

  column : (ℓ i x : ℕ) → In (R ℓ) i x → x < w
  column ℓ i x h = omega (arith, (within ℓ i (in_below (R ℓ) i x h)).fits, h.1)

  in_nonzero : (ℓ i x : ℕ) → In (R ℓ) i x → nonzero cells (ℓ * w + x) ≡ true
  unfolding frame_runs
  in_nonzero ℓ i x h = sym (nonzero_line ℓ x (column ℓ i x h)) ∙ (line_in_lem left (line ℓ) i x h).0

  in_count : (ℓ i x : ℕ) → In (R ℓ) i x → count begins (suc (ℓ * w + x)) ≡ suc (S ℓ + i)
  unfolding frame_runs
  in_count ℓ i x h =
      let e : suc (ℓ * w + x) ≡ ℓ * w + suc x = omega arith in
      let c = ap (count begins) e in
      omega (arith, count_line ℓ (suc x) (column ℓ i x h), count_start ℓ, (line_in_lem left (line ℓ) i x h).1)

  in_run : (ℓ i x : ℕ) → In (R ℓ) i x → of (ℓ * w + x) ≡ S ℓ + i
  unfolding run_of
  in_run ℓ i x h = omega (arith, in_count ℓ i x h)

  -- ---- runs by number

  -- run r, of line ℓ, as its line lists it
  module _ (ℓ r : ℕ) (h : ℓ < lines shape) (low : S ℓ ≤ r) (high : r < S (suc ℓ)) where
    abbrev i : ℕ
    i = r - S ℓ

    is_i : i < length (R ℓ)
    is_i = omega (arith, start_suc ℓ)

    listed : run r ≡ get_or (R ℓ) i none
    listed = let e : r ≡ S ℓ + (r - S ℓ) = omega arith in ap run e ∙ run_at ℓ i h is_i

    -- it covers a column, and ends by the width
    pub run_within : Within w (run r)
    run_within = subst (Within w) (sym listed) (within ℓ i is_i)

    -- it covers nonzero cells alone, and they are of no other run
    pub run_cells : (x : ℕ) → Covers (run r) x → (x < w) × (nonzero cells (ℓ * w + x) ≡ true) × (of (ℓ * w + x) ≡ r)
    run_cells x k =
        let z : In (R ℓ) i x = subst (λ (u : Run). Covers u x) listed k in
        (column ℓ i x z, in_nonzero ℓ i x z, in_run ℓ i x z ∙ omega arith)

  -- a run ends before the next of its line starts, and with the left byte nonzero a cell lies between: the stretches are maximal
  pub run_order : (ℓ r s : ℕ) → ℓ < lines shape → S ℓ ≤ r → r < s → s < S (suc ℓ) → (run r).end + gap_of left ≤ (run s).start
  run_order ℓ r s h low l high =
      rw (listed ℓ r h low (omega arith), listed ℓ s h (omega arith) high)
      (apart_next (R ℓ) (gap_of left) 0 w (r - S ℓ) (s - S ℓ) (runs_apart ℓ) (omega arith) (omega (arith, start_suc ℓ)))

  -- of two runs of a line that cover one column, both are the same
  pub run_one : (ℓ r s x : ℕ) → ℓ < lines shape → S ℓ ≤ r → r < S (suc ℓ) → S ℓ ≤ s → s < S (suc ℓ)
      → Covers (run r) x → Covers (run s) x → r ≡ s
  run_one ℓ r s x h lr hr ls hs a b = sym (run_cells ℓ r h lr hr x a).2 ∙ (run_cells ℓ s h ls hs x b).2

  module _ (n : ℕ) (F : Fits shape n cells) where
    pub width_pos : (p : ℕ) → nonzero cells p ≡ true → 0 < w
    width_pos p a = factor_pos n w p (rw F.whole at (nonzero_below cells p a))

    pub line_below : (p : ℕ) → nonzero cells p ≡ true → p / w < n
    line_below p a = (div-lt_iff_lt-mul (width_pos p a)).1 (rw F.whole at (nonzero_below cells p a))

    -- a nonzero cell is in its run, which is one of its line
    pub record InRun (p : ℕ) : Type 0 where
      pub low : S (p / w) ≤ of p
      pub high : of p < S (suc (p / w))
      pub covers : Covers (run (of p)) (p % w)

    pub cell_run : (p : ℕ) → nonzero cells p ≡ true → InRun p
    unfolding frame_runs
    cell_run p a =
        let ℓ : ℕ = p / w in
        let x : ℕ = p % w in
        let e : ℓ * w + x ≡ p = div-add-mod' p w in
        let b : nonzero cells (ℓ * w + x) ≡ true = rw e a in
        let k = line_held left (line ℓ) x (nonzero_line ℓ x (mod-lt p (width_pos p a)) ∙ b) in
        let c : k.0 < length (R ℓ) = in_below (R ℓ) k.0 x k.1 in
        let q : of p ≡ S ℓ + k.0 = ap of (sym e) ∙ in_run ℓ k.0 x k.1 in
        let m : ℓ < lines shape = le_trans (line_below p a) F.below in
        record {
          low = omega arith;
          high = omega (arith, start_suc ℓ);
          covers = subst (λ (u : Run). Covers u x) (sym (ap run q ∙ run_at ℓ k.0 m c)) k.1;
        }

    -- there are as many runs as cells that begin one
    pub runs_all : runs shape structure cells ≡ S n
    runs_all = runs_counted shape structure cells (fits_size shape n cells F) ∙ ap (count begins) F.whole ∙ count_start n

    -- runs are numbered in C order of the cells that begin them: run i of line ℓ begins with the cell at its start
    pub first_cell : (ℓ i : ℕ) → i < length (R ℓ) → start_of shape structure cells (S ℓ + i) ≡ ℓ * w + (get_or (R ℓ) i none).start
    unfolding frame_runs
    first_cell ℓ i h = placed_only begins (size shape) (S ℓ + i) _ _ (start_right shape structure cells fits (S ℓ + i) less)
        (go s refl (left && before false (line ℓ) s) refl)
      where
        fits : length cells ≤ size shape
        fits = fits_size shape n cells F

        s : ℕ
        s = (get_or (R ℓ) i none).start

        holds : In (R ℓ) i s
        holds = (le_refl s, (within ℓ i h).full)

        less : S ℓ + i < runs shape structure cells
        less = subst (λ (k : ℕ). k < runs shape structure cells) (in_run ℓ i s holds)
            (run_below shape structure cells fits (ℓ * w + s) (in_nonzero ℓ i s holds))

        begins_at : (left && before false (line ℓ) s) ≡ false → begins (ℓ * w + s) ≡ true
        begins_at e = begins_line ℓ s (column ℓ i s holds) ∙ rw e (and_true _ _ (line_in_lem left (line ℓ) i s holds).0 refl)

        go : (k : ℕ) → s ≡ k → (b : Bool) → (left && before false (line ℓ) s) ≡ b → Placed begins (size shape) (S ℓ + i) (ℓ * w + s)
        go k q false e =
            record {
              under = nonzero_under shape structure cells fits (ℓ * w + s) (in_nonzero ℓ i s holds);
              passes = begins_at e;
              rank = omega (arith, in_count ℓ i s holds, count_suc (ℓ * w + s), ap {B = ℕ} (λ (t : Bool). cond t 1 0) (begins_at e));
            }
        go zero q true e = absurd (true≢false (sym (and_right left _ e) ∙ ap (before false (line ℓ)) q ∙ before_zero false (line ℓ)))
        go (suc k) q true e =
            let a : get_or (line ℓ) k false ≡ true = sym (before_suc false (line ℓ) k) ∙ ap (before false (line ℓ)) (sym q)
            ∙ and_right left _ e in
            let r = line_held left (line ℓ) k a in
            let none-begins : (get_or (line ℓ) s false && not (left && before false (line ℓ) s)) ≡ false = rw e
            (and_none (get_or (line ℓ) s false)) in
            let c = ap {B = ℕ} (λ (t : Bool). cond t 1 0) none-begins in
            let same : begun left false (line ℓ) s ≡ begun left false (line ℓ) (suc k) = ap (begun left false (line ℓ)) q in
            let j : r.0 ≡ i = omega (
              arith,
              (line_in_lem left (line ℓ) r.0 k r.1).1,
              (line_in_lem left (line ℓ) i s holds).1,
              begun_step left false (line ℓ) s,
            ) in
            let bad : s ≤ k = subst (λ (m : ℕ). (get_or (R ℓ) m none).start ≤ k) j r.1.0 in
            absurd (omega arith)
          where
            and_none : (t : Bool) → (t && false) ≡ false
            and_none true = refl
            and_none false = refl
