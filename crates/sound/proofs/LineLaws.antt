-- The runs of a line that is in order: they are within it and few, and their lengths are at most its own. Then the runs of all lines.
-- Assumes nothing.
use Rattle.std.proofs.Common.{◌≡◌, ℕ, zero, suc, ◌+◌, ◌-◌, ◌*◌, ◌<◌, ◌≤◌, Bool, true, false, leb, refl, ap, subst, le_trans, le_refl, suc-mul, arith, leb-false, leb-true}
use native.Mathlib.Decide.{ℕ_discrete, le_ind}
use Rattle.frame.specs.Runs.{Run, gap_of, run_lengths}
use Rattle.frame.specs.Memory.{most_runs}

module _ (run : ℕ → Run) (left : Bool) where
  -- the runs a to before b, those of a line
  pub record Ordered (a b : ℕ) : Type 0 where
    pub nonempty : (r : ℕ) → a ≤ r → r < b → (run r).start < (run r).end
    pub apart : (r : ℕ) → a ≤ r → suc r < b → (run r).end + gap_of left ≤ (run (suc r)).start

  module _ {a b : ℕ} (O : Ordered a b) where
    ends_rise : (r q : ℕ) → a ≤ r → r ≤ q → q < b → (run r).end ≤ (run q).end
    ends_rise r q m = le_ind (λ q. q < b → (run r).end ≤ (run q).end) (λ l. le_refl _)
        (λ q k below l. omega (arith, below (omega arith), O.apart q (omega arith) l, O.nonempty (suc q) (omega arith) l)) q

    -- the end of the line's run number k, from 0: each run before has a cell, and the gap after it
    far : (k : ℕ) → a + k < b → suc (k * suc (gap_of left)) ≤ (run (a + k)).end
    far zero l = omega (arith, O.nonempty (a + 0) (omega arith) l)
    far (suc k) l =
        let e : suc (a + k) ≡ a + suc k = omega arith in
        let o : (run (a + k)).end + gap_of left ≤ (run (a + suc k)).start = rw e at (O.apart (a + k) (omega arith) (omega arith)) in
        omega (arith, far k (omega arith), O.nonempty (a + suc k) (omega arith) l, suc-mul k (suc (gap_of left)))

    lengths_to : (k : ℕ) → a + k < b → run_lengths run (suc (a + k)) ≤ run_lengths run a + (run (a + k)).end
    unfolding run_lengths
    lengths_to zero l = let e : a + 0 ≡ a = omega arith in rw e (omega arith)
    lengths_to (suc k) l =
        let e : suc (a + k) ≡ a + suc k = omega arith in
        let o : (run (a + k)).end + gap_of left ≤ (run (a + suc k)).start = rw e at (O.apart (a + k) (omega arith) (omega arith)) in
        let below = subst (λ (x : ℕ). run_lengths run x ≤ run_lengths run a + (run (a + k)).end) e (lengths_to k (omega arith)) in
        omega (arith, O.nonempty (a + suc k) (omega arith) l)

    -- where the last one's end is within the line
    module _ (w : ℕ) (up : a ≤ b) (last : (r : ℕ) → a ≤ r → suc r ≡ b → (run r).end ≤ w) where
      pub within : (r : ℕ) → a ≤ r → r < b → (run r).end ≤ w
      within r m n = omega (arith, ends_rise r (b - 1) m (omega arith) (omega arith), last (b - 1) (omega arith) (omega arith))

      pub line_few : b ≤ a + most_runs left w
      unfolding gap_of
      line_few = pick (ℕ_discrete a b)
        where
          some : (t : Bool) → left ≡ t → (k : ℕ) → suc (a + k) ≡ b → b ≤ a + most_runs t w
          some true is k e =
              let m : suc (k * 2) ≤ (run (a + k)).end = rw is at (far k (omega arith)) in omega (arith, last (a + k) (omega arith) e)
          some false is k e =
              let m : suc (k * 1) ≤ (run (a + k)).end = rw is at (far k (omega arith)) in omega (arith, last (a + k) (omega arith) e)

          pick : Dec (a ≡ b) → b ≤ a + most_runs left w
          pick (yes e) = omega arith
          pick (no ne) = some left refl (b - suc a) (omega arith)

      pub line_lengths : run_lengths run b ≤ run_lengths run a + w
      line_lengths = pick (ℕ_discrete a b)
        where
          some : (k : ℕ) → suc (a + k) ≡ b → run_lengths run b ≤ run_lengths run a + w
          some k e =
              let m = subst (λ (x : ℕ). run_lengths run x ≤ run_lengths run a + (run (a + k)).end) e (lengths_to k (omega arith)) in
              omega (arith, last (a + k) (omega arith) e)

          pick : Dec (a ≡ b) → run_lengths run b ≤ run_lengths run a + w
          pick (yes e) = omega (arith, ap (run_lengths run) e)
          pick (no ne) = some (b - suc a) (omega arith)

-- ---- all lines: the runs of line ℓ are those from first ℓ to before first (suc ℓ)

module _ (first : ℕ → ℕ) where
  pub starts_rise : (n : ℕ) → ((ℓ : ℕ) → ℓ < n → first ℓ ≤ first (suc ℓ)) → (k m : ℕ) → k ≤ m → m ≤ n → first k ≤ first m
  starts_rise n h k = le_ind (λ m. m ≤ n → first k ≤ first m) (λ l. le_refl _) (λ m j below l. le_trans (below (omega arith)) (h m l))

  -- what holds of each line's runs holds of all
  pub by_lines : (P : ℕ → Type 0) (n : ℕ) → first 0 ≡ 0 → ((ℓ : ℕ) → ℓ < n → (r : ℕ) → first ℓ ≤ r → r < first (suc ℓ) → P r)
      → (r : ℕ) → r < first n → P r
  by_lines P zero z h r l = absurd (omega arith)
  by_lines P (suc n) z h r l = go (leb (first n) r) refl (by_lines P n z (λ ℓ m. h ℓ (omega arith)) r)
    where
      go : (t : Bool) → leb (first n) r ≡ t → (r < first n → P r) → P r
      go true t below = h n (le_refl (suc n)) r (leb-true _ _ t) l
      go false t below = below (leb-false _ _ t)

  pub all_few : (h n : ℕ) → first 0 ≡ 0 → ((ℓ : ℕ) → ℓ < n → first (suc ℓ) ≤ first ℓ + h) → first n ≤ n * h
  all_few h zero z f = omega arith
  all_few h (suc n) z f = omega (arith, f n (le_refl (suc n)), all_few h n z (λ ℓ l. f ℓ (omega arith)), suc-mul n h)

  pub all_lengths : (run : ℕ → Run) (w n : ℕ) → first 0 ≡ 0
      → ((ℓ : ℕ) → ℓ < n → run_lengths run (first (suc ℓ)) ≤ run_lengths run (first ℓ) + w) → run_lengths run (first n) ≤ n * w
  all_lengths run w zero z h = rw z (unfold run_lengths in omega arith)
  all_lengths run w (suc n) z h =
      omega (arith, h n (le_refl (suc n)), all_lengths run w n z (λ ℓ l. h ℓ (omega arith)), suc-mul n w)

-- ---- nonempty runs have as many cells as they are exactly where each has one

module _ (run : ℕ → Run) where
  lengths_many : (n : ℕ) → ((r : ℕ) → r < n → (run r).start < (run r).end) → n ≤ run_lengths run n
  unfolding run_lengths
  lengths_many zero h = omega arith
  lengths_many (suc n) h = omega (arith, h n (le_refl (suc n)), lengths_many n (λ r l. h r (omega arith)))

  pub lengths_single : (n : ℕ) → ((r : ℕ) → r < n → (run r).start < (run r).end) → run_lengths run n ≡ n
      → (r : ℕ) → r < n → (run r).end ≤ suc (run r).start
  unfolding run_lengths
  lengths_single zero h e r l = absurd (omega arith)
  lengths_single (suc n) h e r l =
      let many = lengths_many n (λ r l. h r (omega arith)) in
      let one = h n (le_refl (suc n)) in
      go (ℕ_discrete r n) (lengths_single n (λ r l. h r (omega arith)) (omega arith) r)
    where
      go : Dec (r ≡ n) → (r < n → (run r).end ≤ suc (run r).start) → (run r).end ≤ suc (run r).start
      go (yes is) below =
          rw is (let many = lengths_many n (λ r l. h r (omega arith)) in let one = h n (le_refl (suc n)) in omega arith)
      go (no ne) below = below (omega arith)

  pub single_lengths : (n : ℕ) → ((r : ℕ) → r < n → (run r).start < (run r).end) → ((r : ℕ) → r < n → (run r).end ≤ suc (run r).start)
      → run_lengths run n ≡ n
  unfolding run_lengths
  single_lengths zero h o = refl
  single_lengths (suc n) h o =
      let below = single_lengths n (λ r l. h r (omega arith)) (λ r l. o r (omega arith)) in
      omega (arith, h n (le_refl (suc n)), o n (le_refl (suc n)))
