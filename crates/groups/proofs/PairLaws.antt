-- Pairs that pass a test: each is counted once, and where their numbers rise together there are few.
-- Assumes nothing.
use mathlib.Core.Path.{◌≡◌, refl, ap, ◌∙◌}
use mathlib.Core.Bool.{Bool, true, false, cond}
use mathlib.Core.List.{List, [], ◌∷◌}
use Prim.Native.Nat.{ℕ, zero, suc, ◌+◌, ◌-◌, ◌*◌, ◌≤◌, ◌<◌}
use native.Mathlib.Nat.{le_refl, not-suc-le-zero, suc-mul}
use native.Mathlib.Omega.{arith}
use lib.ListN.{length, length-append}
use Rattle.groups.specs.Groups.{Edge, count, sum_over, tally, gather, pairs}
use Rattle.groups.proofs.CountLaws.{count_most, count_reach}
use Rattle.groups.proofs.GatherLaws.{gather_snoc}

-- ---- how long a list of pairs is

cond_length : {A : Type 0} (b : Bool) (x : A) → length (cond b (x ∷ []) []) ≡ cond b 1 0
cond_length true x = refl
cond_length false x = refl

module _ (t : ℕ → ℕ → Bool) (a b m : ℕ) where
  row_length : (i k : ℕ)
      → length (gather {A = Edge} (λ j. cond (t i j) (record { from = i; to = j } ∷ []) []) b k) ≡ count (λ j. t i (b + j)) k
  unfolding count
  row_length i zero = unfold gather in refl
  row_length i (suc k) =
      let f : ℕ → List Edge = λ j. cond (t i j) (record { from = i; to = j } ∷ []) [] in
      let s : length (gather f b (suc k)) ≡ length (gather f b k) + length (f (b + k)) =
      ap length (gather_snoc f b k) ∙ length-append (gather f b k) (f (b + k)) in
      omega (arith, row_length i k, cond_length {A = Edge} (t i (b + k)) (record { from = i; to = b + k }))

  -- each pair that passes is listed once
  pub pairs_counted : (n : ℕ) → length (pairs t a n b m) ≡ tally (λ i j. t (a + i) (b + j)) n m
  unfolding pairs tally sum_over
  pairs_counted zero = unfold gather in refl
  pairs_counted (suc n) =
      let f : ℕ → List Edge = λ i. gather (λ j. cond (t i j) (record { from = i; to = j } ∷ []) []) b m in
      let s : length (gather f a (suc n)) ≡ length (gather f a n) + length (f (a + n)) =
      ap length (gather_snoc f a n) ∙ length-append (gather f a n) (f (a + n)) in
      omega (arith, pairs_counted n, row_length (a + n) m)

-- ---- pairs that rise: of two that pass, the one with the later row has no earlier column, but for d columns

-- where none passes before m
late_few : (f : ℕ → Bool) (m n : ℕ) → ((j : ℕ) → j < n → f j ≡ true → m ≤ j) → count f n ≤ n - m
unfolding count
late_few f m zero h = omega arith
late_few f m (suc n) h = go (f n) refl (late_few f m n (λ j l e. h j (omega arith) e))
  where
    go : (b : Bool) → f n ≡ b → count f n ≤ n - m → cond (f n) 1 0 + count f n ≤ suc n - m
    go true e i = let l = h n (le_refl (suc n)) e in rw e (omega arith)
    go false e i = rw e (omega arith)

pub tally_none : (t : ℕ → ℕ → Bool) (m : ℕ) → tally t 0 m ≡ 0
unfolding tally sum_over
tally_none t m = refl

module _ (t : ℕ → ℕ → Bool) (d : ℕ) where
  abbrev pub Rise : ℕ → ℕ → Type 0
  Rise n m = (i k j l : ℕ) → i < k → k < n → j < m → l < m → t i j ≡ true → t k l ≡ true → j ≤ l + d

  row_more : (n m : ℕ) → tally t (suc n) m ≡ count (t n) m + tally t n m
  unfolding tally sum_over
  row_more n m = refl

  column_more : (n m : ℕ) → tally t n (suc m) ≡ count (λ i. t i m) n + tally t n m
  unfolding tally sum_over count
  column_more zero m = refl
  column_more (suc n) m = omega (arith, column_more n m)

  no_column : (n : ℕ) → tally t n 0 ≡ 0
  unfolding tally sum_over count
  no_column zero = refl
  no_column (suc n) = omega (arith, no_column n)

  one_row : (f : ℕ → Bool) (n : ℕ) → count f (suc n) ≤ suc (count f n)
  unfolding count
  one_row f n = go (f n)
    where
      go : (b : Bool) → cond b 1 0 + count f n ≤ suc (count f n)
      go true = omega arith
      go false = omega arith

  -- the last column has no pair before the last row, or the last row has only pairs by the last column
  corner : (n m : ℕ) → Rise (suc n) (suc m) → tally t n (suc m) + suc d ≤ n * suc d + suc m
      → tally t (suc n) m + suc d ≤ suc n * suc d + m → tally t (suc n) (suc m) + suc d ≤ suc n * suc d + suc m
  corner n m R rows columns = go (count (λ i. t i m) n) refl
    where
      go : (c : ℕ) → count (λ i. t i m) n ≡ c → tally t (suc n) (suc m) + suc d ≤ suc n * suc d + suc m
      go zero e = omega (arith, column_more (suc n) m, one_row (λ i. t i m) n)
      go (suc c) e =
          let p = count_reach (λ i. t i m) n 1 (omega arith) (omega arith) in
          let late = late_few (t n) (m - d) (suc m)
          (λ j l h. let r = R p.0 n m j p.1 (le_refl (suc n)) (le_refl (suc m)) l p.2 h in omega arith) in
          omega (arith, row_more n (suc m), suc-mul n (suc d))

  rows_few : (n m : ℕ) → Rise (suc n) m → tally t (suc n) m + suc d ≤ suc n * suc d + m
  rows_few zero m R = omega (arith, row_more 0 m, tally_none t m, count_most (t 0) m)
  rows_few (suc n) zero R = omega (arith, no_column (suc (suc n)), suc-mul (suc n) (suc d))
  rows_few (suc n) (suc m) R =
      corner (suc n) m R (rows_few n (suc m) (λ i k j l a b. R i k j l a (omega arith)))
      (rows_few (suc n) m (λ i k j l a b x y. R i k j l a b (omega arith) (omega arith)))

  -- then a step to the next pair goes on by a column, or by a row and back by d columns at most
  pub rise_few : (n m : ℕ) → Rise n m → 0 < n → tally t n m + suc d ≤ n * suc d + m
  rise_few zero m R h = absurd (not-suc-le-zero h)
  rise_few (suc n) m R h = rows_few n m R
