-- The list of touches holds exactly the touches, comes in pieces, and leads to runs before.
-- Assumes nothing.
use mathlib.Core.Path.{◌≡◌, refl, sym, ap, ◌∙◌}
use mathlib.Core.Bool.{Bool, true, false, cond, ◌&&◌}
use mathlib.Core.List.Memᴰ
use mathlib.Core.List.{List, [], ◌++◌, append-nil, Memᴰ}
use Prim.Native.Nat.{ℕ, suc, ◌+◌, ◌-◌, ◌*◌, ◌/◌, ◌^◌, ◌≤◌, ◌<◌}
use native.Mathlib.Nat.{pow-succ'}
use native.Mathlib.Omega.{arith}
use borrow.Author.Tests.{ltb-true, le-ltb}
use lib.ListN.{length, get_or}
use Rattle.groups.specs.Groups.{Edge, gather, pairs}
use Rattle.groups.proofs.BoolLaws.{and_left, and_right}
use Rattle.groups.proofs.GatherLaws.{gather_split, gather_same, gather_none, gather_from, from_gather, Pair, pairs_from, from_pairs}
use Rattle.groups.proofs.GatherLaws.{pairs_same}
use Rattle.groups.proofs.RepLaws.{Ends, ends_all}
use Rattle.frame.specs.Shape.{size}
use Rattle.frame.specs.Structure.{offset, backward, on}
use Rattle.frame.specs.Runs.{Run}
use Rattle.frame.specs.Touches.{reaches, used, has_nbr, nbr_line, touches_by, touches_of, touches}
use Rattle.frame.proofs.StructureLaws.{length_offset, mid, backward_mid, backward_below}
use Rattle.frame.proofs.NbrLaws.{nbr_before}

-- a leading offset that is used has a code below the middle, and leads to a line before
pub used_backward : (structure : List ℕ) (rank k : ℕ) → used structure rank k ≡ true → backward (offset rank k) ≡ true
unfolding used
used_backward structure rank k h = and_left (backward (offset rank k)) _ h

pub used_below : (structure : List ℕ) (rank k : ℕ) → k < 3 ^ rank → used structure rank k ≡ true → k < mid rank
used_below structure rank k l h = ltb-true _ _ (sym (backward_mid rank k l) ∙ used_backward structure rank k h)

pub nbr_earlier : (ds structure : List ℕ) (ℓ k : ℕ) → ℓ < size ds → used structure (length ds) k ≡ true
    → has_nbr ds (offset (length ds) k) ℓ ≡ true → nbr_line ds (offset (length ds) k) ℓ < ℓ
nbr_earlier ds structure ℓ k hl u h =
    nbr_before ds (offset (length ds) k) ℓ hl (length_offset (length ds) k) (used_backward structure (length ds) k u) h

module _ (ds structure : List ℕ) (S : ℕ → ℕ) (R : ℕ → Run) where
  -- the lines of the touch's runs, current and neighbouring, and the reach by the offset with code k
  abbrev pub nbr_of : ℕ → ℕ → ℕ
  nbr_of ℓ k = nbr_line ds (offset (length ds) k) ℓ

  abbrev pub reach_by : ℕ → ℕ → ℕ → Bool
  reach_by k r s = reaches (on structure (3 * k)) (on structure (3 * k + 1)) (on structure (3 * k + 2)) (R s) (R r)

  -- run r, of a line from a on and before a + n, touches run s of a neighbour's line
  pub record Touch (a n r s : ℕ) : Type 0 where
    pub line : ℕ
    pub line_low : a ≤ line
    pub line_high : line < a + n
    pub lead : ℕ
    pub is_lead : lead < 3 ^ length ds
    pub is_used : used structure (length ds) lead ≡ true
    pub nbr_there : has_nbr ds (offset (length ds) lead) line ≡ true
    pub r_low : S line ≤ r
    pub r_high : r < S (suc line)
    pub s_low : S (nbr_of line lead) ≤ s
    pub s_high : s < S (suc (nbr_of line lead))
    pub reached : reach_by lead r s ≡ true

  -- ---- the list holds the touches, and nothing else

  by_from : (ℓ k : ℕ) (e : Edge) → Memᴰ e (touches_by ds structure S R ℓ k)
      → ((used structure (length ds) k && has_nbr ds (offset (length ds) k) ℓ) ≡ true) × Pair (reach_by k) (S ℓ) (S (suc ℓ) - S ℓ)
      (S (nbr_of ℓ k)) (S (suc (nbr_of ℓ k)) - S (nbr_of ℓ k)) e
  unfolding touches_by
  by_from ℓ k e m = go (used structure (length ds) k && has_nbr ds (offset (length ds) k) ℓ) m
    where
      go : (b : Bool)
          → Memᴰ e (cond b (pairs (reach_by k) (S ℓ) (S (suc ℓ) - S ℓ) (S (nbr_of ℓ k)) (S (suc (nbr_of ℓ k)) - S (nbr_of ℓ k))) [])
          → (b ≡ true) × Pair (reach_by k) (S ℓ) (S (suc ℓ) - S ℓ) (S (nbr_of ℓ k)) (S (suc (nbr_of ℓ k)) - S (nbr_of ℓ k)) e
      go true h = (refl, pairs_from (reach_by k) (S ℓ) (S (suc ℓ) - S ℓ) (S (nbr_of ℓ k)) (S (suc (nbr_of ℓ k)) - S (nbr_of ℓ k)) e h)
      go false h = absurd (Memᴰ.not-nil h)

  from_by : (ℓ k : ℕ) (e : Edge) → used structure (length ds) k ≡ true → has_nbr ds (offset (length ds) k) ℓ ≡ true
      → Pair (reach_by k) (S ℓ) (S (suc ℓ) - S ℓ) (S (nbr_of ℓ k)) (S (suc (nbr_of ℓ k)) - S (nbr_of ℓ k)) e → Memᴰ e
      (touches_by ds structure S R ℓ k)
  unfolding touches_by
  from_by ℓ k e u h p = rw (u, h) (from_pairs (reach_by k) (S ℓ) (S (suc ℓ) - S ℓ) (S (nbr_of ℓ k)) (S (suc (nbr_of ℓ k)) - S (nbr_of ℓ k)) e p)

  pub touches_from_lem : (a n r s : ℕ) → Memᴰ (record { from = r; to = s }) (touches ds structure S R a n) → Touch a n r s
  unfolding touches touches_of
  touches_from_lem a n r s m =
      let e : Edge = record { from = r; to = s } in
      let x = gather_from (touches_of ds structure S R) a n e m in
      let y = gather_from (touches_by ds structure S R x.at) 0 (3 ^ length ds) e x.mem in
      let z = by_from x.at y.at e y.mem in
      let p = z.1 in
      record {
        line = x.at;
        line_low = x.low;
        line_high = x.high;
        lead = y.at;
        is_lead = omega (arith, y.high);
        is_used = and_left (used structure (length ds) y.at) (has_nbr ds (offset (length ds) y.at) x.at) z.0;
        nbr_there = and_right (used structure (length ds) y.at) (has_nbr ds (offset (length ds) y.at) x.at) z.0;
        r_low = p.from_low;
        r_high = omega (arith, p.from_low, p.from_high);
        s_low = p.to_low;
        s_high = omega (arith, p.to_low, p.to_high);
        reached = p.passes;
      }

  pub from_touches : (a n r s : ℕ) → Touch a n r s → Memᴰ (record { from = r; to = s }) (touches ds structure S R a n)
  unfolding touches touches_of
  from_touches a n r s T =
      let low : 0 ≤ T.lead = omega arith in
      let high : T.lead < 0 + 3 ^ length ds = omega (arith, T.is_lead) in
      from_gather (touches_of ds structure S R) a n T.line T.line_low T.line_high
      (from_gather (touches_by ds structure S R T.line) 0 (3 ^ length ds) T.lead low high
      (from_by T.line T.lead _ T.is_used T.nbr_there
      (record {
        from_low = T.r_low;
        from_high = omega (arith, T.r_low, T.r_high);
        to_low = T.s_low;
        to_high = omega (
          arith,
          T.s_low,
          T.s_high,
        );
        passes = T.reached;
      })))

  -- ---- pieces

  -- the touches of the first lines, followed by those of the later ones
  pub touches_split : (a n m : ℕ) → touches ds structure S R a (n + m) ≡ touches ds structure S R a n ++ touches ds structure S R (a + n) m
  unfolding touches
  touches_split a n m = gather_split (touches_of ds structure S R) a n m

  -- ---- only the offsets below the middle are used

  unused : (k : ℕ) → 3 ^ length ds / 2 ≤ k → k < 3 ^ length ds → used structure (length ds) k ≡ false
  unfolding used
  unused k l u =
      let e : backward (offset (length ds) k) ≡ false = backward_below (length ds) k u ∙ le-ltb k (3 ^ length ds / 2) l in
      rw e

  forward_none : (ℓ k : ℕ) → 3 ^ length ds / 2 ≤ k → k < 3 ^ length ds → touches_by ds structure S R ℓ k ≡ []
  unfolding touches_by
  forward_none ℓ k l u = rw (unused k l u)

  pub touches_backward : (ℓ : ℕ) → touches_of ds structure S R ℓ ≡ gather (touches_by ds structure S R ℓ) 0 (3 ^ length ds / 2)
  unfolding touches_of
  touches_backward ℓ =
      let n : ℕ = 3 ^ length ds in
      let by : ℕ → List Edge = touches_by ds structure S R ℓ in
      let e : n ≡ n / 2 + (n - n / 2) = omega arith in
      ap (gather by 0) e
      ∙ gather_split by 0 (n / 2) (n - n / 2)
      ∙ ap (λ (l : List Edge). gather by 0 (n / 2) ++ l)
      (gather_none by (0 + n / 2) (n - n / 2) (λ k l u. forward_none ℓ k (omega arith) (omega arith)))
      ∙ append-nil (gather by 0 (n / 2))

  -- ---- where the line starts rise

  module _ (rise : (x y : ℕ) → x ≤ y → S x ≤ S y) where
    -- a touch leads to a run before, and both are of the lines so far
    pub touch_below : (a n r s : ℕ) → a + n ≤ size ds → Touch a n r s → (r < S (a + n)) × (s < r)
    touch_below a n r s h T =
        let b = nbr_earlier ds structure T.line T.lead (omega (arith, T.line_high)) T.is_used T.nbr_there in (
          omega (arith, T.r_high, rise (suc T.line) (a + n) T.line_high),
          omega (arith, T.r_low, T.s_high, rise (suc (nbr_of T.line T.lead)) T.line b),
        )

    pub touches_below : (a n : ℕ) → a + n ≤ size ds → Ends (λ r. r < S (a + n)) (touches ds structure S R a n)
    touches_below a n h =
        ends_all (λ r. r < S (a + n)) (touches ds structure S R a n)
        (λ e m. let k = touch_below a n e.from e.to h (touches_from_lem a n e.from e.to m) in (k.0, omega arith))

-- where the runs of line ℓ and of the lines before it are the same, so are its touches by each code
module _ (ds structure : List ℕ) (S Z : ℕ → ℕ) (R Q : ℕ → Run) (ℓ k : ℕ) (within : ℓ < size ds) (starts : (m : ℕ) → m ≤ suc ℓ → S m ≡ Z m)
    (same : (m r : ℕ) → m ≤ ℓ → S m ≤ r → r < S m + (S (suc m) - S m) → R r ≡ Q r) where
  pub by_same : touches_by ds structure S R ℓ k ≡ touches_by ds structure Z Q ℓ k
  unfolding touches_by
  by_same = go (used structure (length ds) k) refl (has_nbr ds (offset (length ds) k) ℓ) refl
    where
      M : ℕ
      M = nbr_line ds (offset (length ds) k) ℓ

      T : (ℕ → ℕ) → (ℕ → Run) → List Edge
      T U P = pairs (λ r s. reaches (on structure (3 * k)) (on structure (3 * k + 1)) (on structure (3 * k + 2)) (P s) (P r)) (U ℓ)
          (U (suc ℓ) - U ℓ) (U M) (U (suc M) - U M)

      go : (u : Bool) → used structure (length ds) k ≡ u → (t : Bool) → has_nbr ds (offset (length ds) k) ℓ ≡ t
          → cond (used structure (length ds) k && has_nbr ds (offset (length ds) k) ℓ) (T S R) [] ≡ cond
          (used structure (length ds) k && has_nbr ds (offset (length ds) k) ℓ) (T Z Q) []
      go false eu t et = rw eu
      go true eu false et = rw (eu, et)
      go true eu true et =
          let m : M < ℓ = nbr_earlier ds structure ℓ k within eu et in
          let q : T S R ≡ T S Q = pairs_same _ _ (S ℓ) (S (suc ℓ) - S ℓ) (S M) (S (suc M) - S M) (λ r s lr ur ls us. rw (
            same ℓ r (omega arith) lr ur,
            same M s (omega arith) ls us,
          )) in
          rw (eu, et) (q ∙ rw (starts ℓ (omega arith), starts (suc ℓ) (omega arith), starts M (omega arith), starts (suc M) (omega arith)))

-- where the runs of the first b lines are the same, so are their touches
module _ (ds structure : List ℕ) (S Z : ℕ → ℕ) (R Q : ℕ → Run) (b : ℕ) (starts : (ℓ : ℕ) → ℓ ≤ b → S ℓ ≡ Z ℓ)
    (rise : (x y : ℕ) → x ≤ y → S x ≤ S y) (same : (r : ℕ) → r < S b → R r ≡ Q r) where
  lines_same : (ℓ k : ℕ) → b ≤ size ds → ℓ < b → touches_by ds structure S R ℓ k ≡ touches_by ds structure Z Q ℓ k
  lines_same ℓ k hb hl =
      by_same ds structure S Z R Q ℓ k (omega arith) (λ m h. starts m (omega arith))
      (λ m r h lo hi. same r (omega (arith, rise m (suc m) (omega arith), rise (suc m) b (omega arith))))

  pub touches_same : b ≤ size ds → (a n : ℕ) → a + n ≤ b → touches ds structure S R a n ≡ touches ds structure Z Q a n
  unfolding touches touches_of
  touches_same hb a n h =
      gather_same (touches_of ds structure S R) (touches_of ds structure Z Q) a n
      (λ ℓ l u. gather_same (touches_by ds structure S R ℓ) (touches_by ds structure Z Q ℓ) 0 (3 ^ length ds)
      (λ k z v. lines_same ℓ k hb (omega arith)))

-- touches look at no byte past those of one dimension more than the leading ones
module _ (ds a b : List ℕ) (S : ℕ → ℕ) (R : ℕ → Run) (same : (c : ℕ) → c < 3 ^ suc (length ds) → get_or a c 0 ≡ get_or b c 0) where
  on_same : (c : ℕ) → c < 3 ^ suc (length ds) → on a c ≡ on b c
  unfolding on
  on_same c h = rw (same c h)

  bytes_same : (ℓ k : ℕ) → k < 3 ^ length ds → touches_by ds a S R ℓ k ≡ touches_by ds b S R ℓ k
  unfolding touches_by used
  bytes_same ℓ k h =
      let below : 3 * k + 2 < 3 ^ suc (length ds) = omega (arith, pow-succ' 3 (length ds)) in
      rw (on_same (3 * k) (omega arith), on_same (3 * k + 1) (omega arith), on_same (3 * k + 2) below)

  pub touches_bytes : (ℓ n : ℕ) → touches ds a S R ℓ n ≡ touches ds b S R ℓ n
  unfolding touches touches_of
  touches_bytes ℓ n =
      gather_same (touches_of ds a S R) (touches_of ds b S R) ℓ n
      (λ m l u. gather_same (touches_by ds a S R m) (touches_by ds b S R m) 0 (3 ^ length ds) (λ k z v. bytes_same m k (omega arith)))
