-- How many touches there can be: of two lines under one offset, and of all lines.
-- Assumes nothing.
use mathlib.Core.Path.{◌≡◌, refl}
use mathlib.Core.Logic.{◌⊎◌, inl, inr}
use mathlib.Core.Bool.{Bool, true, false, ◌&&◌, ◌||◌, false≢true}
use mathlib.Core.List.{List}
use Prim.Native.Nat.{ℕ, zero, suc, ◌+◌, ◌-◌, ◌*◌, ◌/◌, ◌^◌, ◌≤◌, ◌<◌}
use native.Mathlib.Decide.{le_ind}
use native.Mathlib.Nat.{le_refl, mul-le-mul, mul_left_comm}
use native.Mathlib.Omega.{arith}
use borrow.Author.Tests.{leb-true, leb-false}
use lib.Dec.{leb}
use lib.ListN.{length}
use Rattle.groups.specs.Groups.{tally}
use Rattle.groups.proofs.BoolLaws.{and_right, or_cases}
use Rattle.groups.proofs.GatherLaws.{gather_most}
use Rattle.groups.proofs.PairLaws.{pairs_counted, tally_none, Rise, rise_few}
use Rattle.frame.specs.Shape.{size, width, leading, lines}
use Rattle.frame.specs.Structure.{offset, left_on}
use Rattle.frame.specs.Runs.{Run, gap_of, frame_runs, runs_before, frame_run}
use Rattle.frame.specs.Memory.{most_runs, per_line}
use Rattle.frame.specs.Causes.{bad_rank, too_large}
use Rattle.frame.specs.Dearest.{middles_on, most_touches, touches_per_line}
use Rattle.frame.specs.Touches.{reach_prev, reach_adj, reach_next, reaches, used, has_nbr, nbr_line, touches_by, touches_of, touches}
use Rattle.frame.specs.Touches.{touch_count}
use Rattle.frame.proofs.ReachLaws.{over_parts}
use Rattle.frame.proofs.ShapeLaws.{size_lines_lem, length_leading}
use Rattle.frame.proofs.FrameRunLaws.{start_suc, runs_few, run_within, run_order}
use Rattle.frame.proofs.CauseLaws.{rank_right, within_limits}
use Rattle.frame.proofs.TouchLaws.{nbr_of, reach_by, nbr_earlier, touches_backward}

-- ---- runs in order

-- the runs a to before b, those of a line: none is empty, and `gap` columns at least lie between two
pub record LineOrder (gap : ℕ) (R : ℕ → Run) (a b : ℕ) : Type 0 where
  pub nonempty : (r : ℕ) → a ≤ r → r < b → (R r).start < (R r).end
  pub apart : (r : ℕ) → a ≤ r → suc r < b → (R r).end + gap ≤ (R (suc r)).start

module _ {gap : ℕ} {R : ℕ → Run} {a b : ℕ} (O : LineOrder gap R a b) where
  later : (r s : ℕ) → a ≤ r → r < s → s < b → (R r).end + gap ≤ (R s).start
  later r s ar rs = le_ind (λ k. k < b → (R r).end + gap ≤ (R k).start) (λ h. O.apart r ar h)
      (λ k l i h. omega (arith, i (omega arith), O.nonempty k (omega arith) (omega arith), O.apart k (omega arith) h)) s rs

  -- with no gap a run may start where the one before ends, but the one after that starts later
  past : gap ≤ 1 → (r s : ℕ) → a ≤ r → r + (1 - gap) < s → s < b → (R r).end < (R s).start
  past few r s ar rs sb = go gap refl
    where
      go : (g : ℕ) → gap ≡ g → (R r).end < (R s).start
      go zero e = omega (
        arith,
        later r (suc r) ar (omega arith) (omega arith),
        O.nonempty (suc r) (omega arith) (omega arith),
        later (suc r) s (omega arith) (omega arith) sb,
      )
      go (suc g) e = omega (arith, later r s ar (omega arith) sb)

-- ---- the widest reach

reaches_near : (prev adj next : Bool) (m c : Run) → reaches prev adj next m c ≡ true → (m.start ≤ c.end) × (c.start ≤ m.end)
unfolding reaches
reaches_near prev adj next m c h = go (or_cases P (A || N) h)
  where
    P : Bool
    P = prev && reach_prev m.start m.end c.start c.end

    A : Bool
    A = adj && reach_adj m.start m.end c.start c.end

    N : Bool
    N = next && reach_next m.start m.end c.start c.end

    side : (A ≡ true) ⊎ (N ≡ true) → (m.start ≤ c.end) × (c.start ≤ m.end)
    side (inl e) = let o = over_parts m.start m.end c.start c.end (and_right adj _ e) in (omega arith, omega arith)
    side (inr e) = let o = over_parts m.start m.end (c.start + 1) (c.end + 1) (and_right next _ e) in (omega arith, omega arith)

    go : (P ≡ true) ⊎ ((A || N) ≡ true) → (m.start ≤ c.end) × (c.start ≤ m.end)
    go (inl e) = let o = over_parts (m.start + 1) (m.end + 1) c.start c.end (and_right prev _ e) in (omega arith, omega arith)
    go (inr e) = side (or_cases A N e)

-- ---- two lines under one offset

module _ (ds structure : List ℕ) (S : ℕ → ℕ) (R : ℕ → Run) where
  -- how many runs line ℓ has, and its neighbour by the offset with code k
  abbrev runs_in : ℕ → ℕ
  runs_in ℓ = S (suc ℓ) - S ℓ

  abbrev nbr : ℕ → ℕ → ℕ
  nbr = nbr_of ds structure S R

  -- run i of line ℓ and run j of that neighbour reach each other
  abbrev meet : ℕ → ℕ → ℕ → ℕ → Bool
  meet ℓ k i j = reach_by ds structure S R k (S ℓ + i) (S (nbr ℓ k) + j)

  -- each such pair is counted once
  pub touches_counted : (ℓ k : ℕ) → used structure (length ds) k ≡ true → has_nbr ds (offset (length ds) k) ℓ ≡ true
      → length (touches_by ds structure S R ℓ k) ≡ tally (meet ℓ k) (runs_in ℓ) (runs_in (nbr ℓ k))
  unfolding touches_by
  touches_counted ℓ k u h = rw (u, h) (pairs_counted (reach_by ds structure S R k) (S ℓ) (S (nbr ℓ k)) (runs_in (nbr ℓ k)) (runs_in ℓ))

  -- the bounds of the touches by one code hold where they are none, and where they are those pairs
  by_cases : (P : ℕ → Type 0) (ℓ k : ℕ) → P 0
      → (used structure (length ds) k ≡ true → has_nbr ds (offset (length ds) k) ℓ ≡ true
      → P (tally (meet ℓ k) (runs_in ℓ) (runs_in (nbr ℓ k))))
      → P (length (touches_by ds structure S R ℓ k))
  by_cases P ℓ k none some = go (used structure (length ds) k) refl (has_nbr ds (offset (length ds) k) ℓ) refl
    where
      go : (u : Bool) → used structure (length ds) k ≡ u → (t : Bool) → has_nbr ds (offset (length ds) k) ℓ ≡ t
          → P (length (touches_by ds structure S R ℓ k))
      go false eu t et = unfold touches_by in rw eu none
      go true eu false et = unfold touches_by in rw (eu, et) none
      go true eu true et = rw (touches_counted ℓ k eu et) (some eu et)

  -- lines below b, whose runs are in order
  module _ (gap b : ℕ) (small : gap ≤ 1) (inside : b ≤ size ds) (order : (ℓ : ℕ) → ℓ < b → LineOrder gap R (S ℓ) (S (suc ℓ))) where
    rises : (ℓ k : ℕ) → ℓ < b → nbr ℓ k < b → Rise (meet ℓ k) (1 - gap) (runs_in ℓ) (runs_in (nbr ℓ k))
    rises ℓ k hl hm i u j v iu un jn vn e f = go (leb j (v + (1 - gap))) refl
      where
        go : (t : Bool) → leb j (v + (1 - gap)) ≡ t → j ≤ v + (1 - gap)
        go true t = leb-true _ _ t
        go false t =
            let l : v + (1 - gap) < j = leb-false _ _ t in
            let x = reaches_near _ _ _ (R (S (nbr ℓ k) + j)) (R (S ℓ + i)) e in
            let y = reaches_near _ _ _ (R (S (nbr ℓ k) + v)) (R (S ℓ + u)) f in
            absurd (omega (
              arith,
              later (order ℓ hl) (S ℓ + i) (S ℓ + u) (omega arith) (omega arith) (omega arith),
              past (order (nbr ℓ k) hm) small (S (nbr ℓ k) + v) (S (nbr ℓ k) + j) (omega arith) (omega arith) (omega arith),
            ))

    -- what bounds the pairs of two lines bounds the touches by one code
    by_bound : (ℓ k x : ℕ) → ℓ < b
        → (nbr ℓ k < b → (n : ℕ) → 0 < runs_in ℓ → n + suc (1 - gap) ≤ runs_in ℓ * suc (1 - gap) + runs_in (nbr ℓ k) → n ≤ x)
        → length (touches_by ds structure S R ℓ k) ≤ x
    by_bound ℓ k x hl f =
        by_cases (λ n. n ≤ x) ℓ k (omega arith) (λ u h. go (nbr_earlier ds structure ℓ k (omega arith) u h) (runs_in ℓ) refl)
      where
        go : nbr ℓ k < ℓ → (c : ℕ) → runs_in ℓ ≡ c → tally (meet ℓ k) (runs_in ℓ) (runs_in (nbr ℓ k)) ≤ x
        go m zero e = rw e (rw (tally_none (meet ℓ k) (runs_in (nbr ℓ k))) (omega arith))
        go m (suc c) e =
            f (omega arith) _ (omega arith)
            (rise_few (meet ℓ k) (1 - gap) (runs_in ℓ) (runs_in (nbr ℓ k)) (rises ℓ k hl (omega arith)) (omega arith))

-- ---- all lines

gap_small : (left : Bool) → gap_of left ≤ 1
unfolding gap_of
gap_small true = omega arith
gap_small false = omega arith

most_of_two : (left : Bool) (w c m n : ℕ) → c ≤ most_runs left w → m ≤ most_runs left w → 0 < c
    → n + suc (1 - gap_of left) ≤ c * suc (1 - gap_of left) + m → n ≤ most_touches left w
unfolding gap_of most_touches
most_of_two true w c m n hc hm p h = omega arith
most_of_two false w c m n hc hm p h = omega arith

most_small : (left : Bool) (w : ℕ) → most_touches left w ≤ 3 * w
unfolding most_touches
most_small true w = omega arith
most_small false w = omega arith

-- with a gap, and with or without one
gap_few : (left : Bool) (c m n : ℕ) → n + suc (1 - gap_of left) ≤ c * suc (1 - gap_of left) + m → left ≡ true → n ≤ c + m - 1
unfolding gap_of
gap_few true c m n h e = omega arith
gap_few false c m n h e = absurd (false≢true e)

any_few : (left : Bool) (c m n : ℕ) → n + suc (1 - gap_of left) ≤ c * suc (1 - gap_of left) + m → n ≤ m + 2 * c
unfolding gap_of
any_few true c m n h = omega arith
any_few false c m n h = omega arith

-- three leading dimensions at most
few_offsets : (r : ℕ) → r ≤ 3 → 3 ^ r / 2 ≤ 13
few_offsets zero h = omega arith
few_offsets (suc zero) h = omega arith
few_offsets (suc (suc zero)) h = omega arith
few_offsets (suc (suc (suc zero))) h = omega arith
few_offsets (suc (suc (suc (suc r)))) h = absurd (omega arith)

-- lines below b, whose runs are in order, with a gap where the left byte is nonzero, and no more than a line of w cells can have
module _ (ds structure : List ℕ) (S : ℕ → ℕ) (R : ℕ → Run) (left : Bool) (w b : ℕ) (inside : b ≤ size ds)
    (order : (ℓ : ℕ) → ℓ < b → LineOrder (gap_of left) R (S ℓ) (S (suc ℓ))) (few : (ℓ : ℕ) → ℓ < b → S (suc ℓ) - S ℓ ≤ most_runs left w) where
  by_most : (ℓ k : ℕ) → ℓ < b → length (touches_by ds structure S R ℓ k) ≤ most_touches left w
  by_most ℓ k hl = by_bound ds structure S R (gap_of left) b (gap_small left) inside order ℓ k (most_touches left w) hl
      (λ m n c h. most_of_two left w _ _ n (few ℓ hl) (few (nbr_of ds structure S R ℓ k) m) c h)

  of_most : (ℓ : ℕ) → ℓ < b → length (touches_of ds structure S R ℓ) ≤ 3 ^ length ds / 2 * most_touches left w
  of_most ℓ hl = rw (touches_backward ds structure S R ℓ)
      (gather_most (touches_by ds structure S R ℓ) (most_touches left w) 0 (3 ^ length ds / 2) (λ k l u. by_most ℓ k hl))

  pub order_most : (a n : ℕ) → a + n ≤ b → length (touches ds structure S R a n) ≤ n * (3 ^ length ds / 2 * most_touches left w)
  unfolding touches
  order_most a n h =
      gather_most (touches_of ds structure S R) (3 ^ length ds / 2 * most_touches left w) a n (λ ℓ l u. of_most ℓ (omega arith))

  -- they can be counted in 64 bits
  pub order_countable : length ds ≤ 3 → b * w < 4294967296 → (a n : ℕ) → a + n ≤ b
      → length (touches ds structure S R a n) < 18446744073709551616
  order_countable three small a n h =
      let most : 3 ^ length ds / 2 * most_touches left w ≤ 13 * (3 * w) = mul-le-mul (few_offsets (length ds) three) (most_small left w) in
      let each : 3 ^ length ds / 2 * most_touches left w ≤ 39 * w = omega arith in
      let all : n * (3 ^ length ds / 2 * most_touches left w) ≤ b * (39 * w) = mul-le-mul (omega arith) each in
      omega (arith, order_most a n h, mul_left_comm b 39 w)

-- ---- the lines of a frame

module _ (shape structure : List ℕ) (cells : List Bool) where
  abbrev S : ℕ → ℕ
  S = runs_before shape structure cells

  abbrev R : ℕ → Run
  R = frame_run shape structure cells

  frame_order : (ℓ : ℕ) → ℓ < lines shape → LineOrder (gap_of (left_on shape structure)) R (S ℓ) (S (suc ℓ))
  frame_order ℓ h = record {
    nonempty = λ r low high. (run_within shape structure cells ℓ r h low high).full;
    apart = λ r low high. run_order shape structure cells ℓ r (suc r) h low (le_refl (suc r)) high;
  }

  frame_runs_lem : (ℓ : ℕ) → S (suc ℓ) - S ℓ ≡ length (frame_runs shape structure cells ℓ)
  frame_runs_lem ℓ = omega (arith, start_suc shape structure cells ℓ)

  frame_few : (ℓ : ℕ) → ℓ < lines shape → S (suc ℓ) - S ℓ ≤ most_runs (left_on shape structure) (width shape)
  unfolding per_line
  frame_few ℓ h = omega (arith, frame_runs_lem ℓ, runs_few shape structure cells ℓ)

  -- how many runs line ℓ has, its neighbour by the offset with code c, and the touches of both under that offset
  abbrev runs_of : ℕ → ℕ
  runs_of ℓ = length (frame_runs shape structure cells ℓ)

  abbrev nbr_by : ℕ → ℕ → ℕ
  nbr_by ℓ c = nbr_line (leading shape) (offset (length (leading shape)) c) ℓ

  abbrev touching : ℕ → ℕ → ℕ
  touching ℓ c = length (touches_by (leading shape) structure S R ℓ c)

  abbrev gap : ℕ
  gap = gap_of (left_on shape structure)

  two_bound : (ℓ c x : ℕ) → ℓ < lines shape
      → ((n : ℕ) → n + suc (1 - gap) ≤ runs_of ℓ * suc (1 - gap) + runs_of (nbr_by ℓ c) → n ≤ x) → touching ℓ c ≤ x
  two_bound ℓ c x h f =
      by_bound (leading shape) structure S R gap (lines shape) (gap_small (left_on shape structure)) (le_refl (lines shape)) frame_order
      ℓ c x h (λ m n k b. f n (rw (frame_runs_lem ℓ, frame_runs_lem (nbr_by ℓ c)) at b))

  -- with the left byte nonzero, two lines under one offset have at most as many touches as runs together, less one: whatever its bytes are
  pub left_touches : left_on shape structure ≡ true → (ℓ c : ℕ) → ℓ < lines shape → touching ℓ c ≤ runs_of ℓ + runs_of (nbr_by ℓ c) - 1
  left_touches left ℓ c h = two_bound ℓ c _ h (λ n b. gap_few (left_on shape structure) (runs_of ℓ) (runs_of (nbr_by ℓ c)) n b left)

  -- so in particular as document 02 says it
  pub two_lines_touches : left_on shape structure ≡ true → middles_on shape structure ≡ true → (ℓ c : ℕ) → ℓ < lines shape
      → 0 < runs_of ℓ → 0 < runs_of (nbr_by ℓ c) → touching ℓ c ≤ runs_of ℓ + runs_of (nbr_by ℓ c) - 1
  two_lines_touches left middles ℓ c h some other = left_touches left ℓ c h

  -- under any structure, at most as many as the neighbour's runs and twice the line's
  pub any_touches : (ℓ c : ℕ) → ℓ < lines shape → touching ℓ c ≤ runs_of (nbr_by ℓ c) + 2 * runs_of ℓ
  any_touches ℓ c h = two_bound ℓ c _ h (any_few (left_on shape structure) (runs_of ℓ) (runs_of (nbr_by ℓ c)))

  -- the touches of n lines are at most n times the figure for a line
  pub touches_most : (a n : ℕ) → a + n ≤ lines shape → touch_count shape structure cells a n ≤ n * touches_per_line shape structure
  unfolding touch_count touches_per_line
  touches_most = order_most (leading shape) structure S R (left_on shape structure) (width shape) (lines shape) (le_refl (lines shape))
      frame_order frame_few

  -- of a shape that no opening refuses they can be counted in 64 bits
  pub touches_countable : bad_rank shape ≡ false → too_large shape ≡ false → (a n : ℕ) → a + n ≤ lines shape
      → touch_count shape structure cells a n < 18446744073709551616
  unfolding touch_count
  touches_countable ranked limits =
      let r = rank_right shape ranked in
      let w = within_limits shape limits in
      order_countable (leading shape) structure S R (left_on shape structure) (width shape) (lines shape) (le_refl (lines shape))
      frame_order frame_few (omega (arith, length_leading shape r.0)) (omega (arith, size_lines_lem shape))
