-- Pairs row by row: over runs in order, a sweep's rows visit exactly the pairs that its two comparisons pass.
-- Assumes nothing.
use mathlib.Core.Path.{◌≡◌, ap, ap₂, ◌∙◌}
use mathlib.Core.Bool.{Bool, true, false}
use mathlib.Core.List.{List, [], ◌∷◌, ◌++◌, append-nil}
use Prim.Native.Nat.{ℕ, suc, ◌+◌, ◌-◌, ◌≤◌, ◌<◌}
use native.Mathlib.Nat.{le_refl}
use native.Mathlib.Decide.{le_ind}
use native.Mathlib.Omega.{arith}
use borrow.Author.Tests.{ltb-false, le-ltb}
use lib.Dec.{ltb}
use Rattle.groups.specs.Groups.{Edge, gather, pairs}
use Rattle.groups.proofs.RepLaws.{Ends}
use Rattle.groups.proofs.GatherLaws.{pairs_same, pairs_none, pairs_rows, pairs_parts, pairs_ends}
use Rattle.frame.specs.Runs.{Run}
use Rattle.sweep.specs.declared.LinePair.{LinePair}
use Rattle.sweep.proofs.ReachedLaws.{swept_shut, swept_open}
use Rattle.sweep.specs.Sweeps.{InOrder, Skipped, swept, sweep_pairs, row_pairs}

-- ---- runs in order

module _ (R : ℕ → Run) (a b : ℕ) (O : InOrder R a b) where
  pub rises : (i j : ℕ) → a ≤ i → i ≤ j → j < b → ((R i).start ≤ (R j).start) × ((R i).end ≤ (R j).end)
  rises i j ai ij jb = le_ind (λ k. k < b → ((R i).start ≤ (R k).start) × ((R i).end ≤ (R k).end)) (λ h. (le_refl _, le_refl _)) step j ij jb
    where
      step : (k : ℕ) → i ≤ k → (k < b → ((R i).start ≤ (R k).start) × ((R i).end ≤ (R k).end)) → suc k < b
          → ((R i).start ≤ (R (suc k)).start) × ((R i).end ≤ (R (suc k)).end)
      step k ik below h =
          let u = below (omega arith) in
          let o = O.ordered k (omega arith) h in
          let v = O.nonempty k (omega arith) (omega arith) in
          let w = O.nonempty (suc k) (omega arith) h in
          (omega arith, omega arith)

  pub order_from : (k : ℕ) → a ≤ k → k ≤ b → InOrder R k b
  order_from k h l = record { upto = l; nonempty = λ r p q. O.nonempty r (omega arith) q; ordered = λ r p q. O.ordered r (omega arith) q }

-- ---- one row

-- does run s start before run r ends
abbrev pub starts : ℕ → (ℕ → Run) → ℕ → ℕ → Bool
starts lo R r s = ltb ((R s).start + 1) ((R r).end + lo)

module _ (lo : ℕ) (R : ℕ → Run) (i j : ℕ) where
  pub row_none : row_pairs lo R i j j ≡ []
  unfolding row_pairs
  row_none = pairs_none (starts lo R) i 1 j (j - j) (λ r s p q u v. absurd (omega arith))

  row_parts : (k nb : ℕ) → j ≤ k → k ≤ nb → row_pairs lo R i j nb ≡ row_pairs lo R i j k ++ row_pairs lo R i k nb
  unfolding row_pairs
  row_parts k nb h l =
      let x : nb - j ≡ (k - j) + (nb - k) = omega arith in
      let y : j + (k - j) ≡ k = omega arith in
      rw x (pairs_parts (starts lo R) i j (k - j) (nb - k)
      ∙ ap (λ (b : ℕ). pairs (starts lo R) i 1 j (k - j) ++ pairs (starts lo R) i 1 b (nb - k)) y)

  row_one : (k : ℕ) → starts lo R i k ≡ true → row_pairs lo R i k (k + 1) ≡ record { from = i; to = k } ∷ []
  unfolding row_pairs pairs gather
  row_one k e = let z : k + 1 - k ≡ 1 = omega arith in rw z (rw e)

  -- one run more, which starts in time
  pub row_more : (k : ℕ) → j ≤ k → starts lo R i k ≡ true
      → row_pairs lo R i j (k + 1) ≡ row_pairs lo R i j k ++ (record { from = i; to = k } ∷ [])
  row_more k h e = row_parts k (k + 1) h (omega arith) ∙ ap (λ (l : List Edge). row_pairs lo R i j k ++ l) (row_one k e)

  -- where run k does not start in time, none after it does
  pub row_stop : (k nb : ℕ) → InOrder R j nb → j ≤ k → k ≤ nb → (k < nb → starts lo R i k ≡ false)
      → row_pairs lo R i j nb ≡ row_pairs lo R i j k
  row_stop k nb O h l e = row_parts k nb h l ∙ ap (λ (l : List Edge). row_pairs lo R i j k ++ l) none ∙ append-nil (row_pairs lo R i j k)
    where
      late : (s : ℕ) → k ≤ s → s < nb → starts lo R i s ≡ false
      late s u v = le-ltb ((R s).start + 1) ((R i).end + lo) (omega (
        arith,
        ltb-false ((R k).start + 1) ((R i).end + lo) (e (omega arith)),
        rises R j nb O k s h u v,
      ))

      none : row_pairs lo R i k nb ≡ []
      none = unfold row_pairs in pairs_none (starts lo R) i 1 k (nb - k)
          (λ r s p q u v. let z : r ≡ i = omega arith in rw z (late s u (omega arith)))

  pub row_ends : (nb n : ℕ) → i < n → j ≤ nb → nb ≤ n → Ends (λ r. r < n) (row_pairs lo R i j nb)
  unfolding row_pairs
  row_ends nb n h l u = pairs_ends (starts lo R) i 1 j (nb - j) n (omega arith) (omega arith)

-- ---- the rows of a sweep

-- the same neighbouring runs, with the current runs a to before b
abbrev pub between : LinePair → ℕ → ℕ → LinePair
between at a b = record { ca = a; cb = b; na = at.na; nb = at.nb }

module _ (lo hi : ℕ) (R : ℕ → Run) (at : LinePair) where
  abbrev na : ℕ
  na = at.na

  abbrev nb : ℕ
  nb = at.nb

  abbrev passes : ℕ → ℕ → Bool
  passes r s = swept lo hi (R s) (R r)

  pub sweep_none : (ca : ℕ) → sweep_pairs lo hi R (between at ca ca) ≡ []
  unfolding sweep_pairs
  sweep_none ca = pairs_none passes ca (ca - ca) na (nb - na) (λ r s p q u v. absurd (omega arith))

  -- one row more
  pub sweep_more : (ca i : ℕ) → ca ≤ i
      → sweep_pairs lo hi R (between at ca (i + 1)) ≡ sweep_pairs lo hi R (between at ca i) ++ sweep_pairs lo hi R (between at i (i + 1))
  unfolding sweep_pairs
  sweep_more ca i h =
      let x : i + 1 - ca ≡ (i - ca) + 1 = omega arith in
      let y : i + 1 - i ≡ 1 = omega arith in
      let z : ca + (i - ca) ≡ i = omega arith in
      rw (x, y) (pairs_rows passes ca (i - ca) 1 na (nb - na)
      ∙ ap (λ (k : ℕ). pairs passes ca (i - ca) na (nb - na) ++ pairs passes k 1 na (nb - na)) z)

  pub sweep_ends : (ca i cb : ℕ) → ca ≤ i → i ≤ cb → at.na ≤ at.nb → at.nb ≤ cb
      → Ends (λ r. r < cb) (sweep_pairs lo hi R (between at ca i))
  unfolding sweep_pairs
  sweep_ends ca i cb h g k l = pairs_ends passes ca (i - ca) na (nb - na) cb (omega arith) (omega arith)

  -- a row: run j is the first that does not end by the start of run i
  pub sweep_row : (i j : ℕ) → InOrder R at.na at.nb → at.na ≤ j → Skipped hi R i at.na at.nb j
      → sweep_pairs lo hi R (between at i (i + 1)) ≡ row_pairs lo R i j at.nb
  unfolding sweep_pairs row_pairs
  sweep_row i j O h S =
      let z : i + 1 - i ≡ 1 = omega arith in
      let y : nb - na ≡ (j - na) + (nb - j) = omega (arith, S.high) in
      let x : na + (j - na) ≡ j = omega arith in
      rw (z, y)
      (pairs_parts passes i na (j - na) (nb - j)
      ∙ ap₂ (λ (u : List Edge) (k : ℕ). u ++ pairs passes i 1 k (nb - j)) (pairs_none passes i 1 na (j - na) before) x
      ∙ pairs_same passes (starts lo R) i 1 j (nb - j) from)
    where
      before : (r s : ℕ) → i ≤ r → r < i + 1 → na ≤ s → s < na + (j - na) → swept lo hi (R s) (R r) ≡ false
      before r s p q u v = let e : r ≡ i = omega arith in swept_shut lo hi (R s) (R r) (rw e (S.past s u (omega arith)))

      from : (r s : ℕ) → i ≤ r → r < i + 1 → j ≤ s → s < j + (nb - j) → swept lo hi (R s) (R r) ≡ ltb ((R s).start + 1) ((R r).end + lo)
      from r s p q u v =
          let e : r ≡ i = omega arith in
          swept_open lo hi (R s) (R r) (rw e (omega (arith, S.stop (omega arith), rises R na nb O j s h u (omega arith))))
