-- The touches of a line, one leading offset after another.
-- Assumes nothing.
use mathlib.Core.Path.{◌≡◌, refl, sym, ap, ◌∙◌, subst}
use mathlib.Core.Bool.{Bool, true, false, cond, ◌&&◌}
use mathlib.Core.List.{List, [], ◌++◌, append-nil}
use Prim.Native.Nat.{ℕ, suc, ◌+◌, ◌-◌, ◌*◌, ◌/◌, ◌^◌, ◌≤◌, ◌<◌}
use native.Mathlib.Nat.{le_refl, zero-add}
use native.Mathlib.Numerals.{add-one}
use native.Mathlib.Omega.{arith}
use borrow.Author.Tests.{le-ltb}
use lib.ListN.{length}
use Rattle.groups.specs.Groups.{Edge, gather, pairs}
use Rattle.groups.proofs.RepLaws.{Ends, mem_ends, ends_all}
use Rattle.groups.proofs.GatherLaws.{gather_split, gather_snoc, gather_from, gather_none, pairs_ends}
use Rattle.frame.specs.Shape.{size}
use Rattle.frame.specs.Structure.{offset, backward, on}
use Rattle.frame.specs.Runs.{Run}
use Rattle.frame.specs.Words.{line_start, stored_run}
use Rattle.frame.specs.Touches.{used, has_nbr, nbr_line, reaches, touches_by, touches_of}
use Rattle.frame.proofs.StructureLaws.{backward_below}
use Rattle.frame.proofs.TouchLaws.{nbr_earlier, by_same}
use Rattle.geo.specs.declared.Geo.{Geo}
use Rattle.geo.specs.Geometry.{leading_of}
use Rattle.link.specs.Lines.{LineReady, UnitedIn, touches_by_in, touches_in, runs_to}
use Rattle.sweep.proofs.TurnLaws.{united_few}
use Rattle.link.proofs.PartLaws.{part_ready, starts_rise, in_start, in_runs, in_then}
use Rattle.link.proofs.TouchByLaws.{leading_length, leading_size}

module _ (g : Geo) (structure ws : List ℕ) (ℓ : ℕ) (R : LineReady g structure ws ℓ) (three : length g.dims ≡ 3) where
  abbrev n : ℕ
  n = g.leads

  abbrev L : ℕ
  L = g.lines

  abbrev ds : List ℕ
  ds = leading_of g.leads g.dims

  abbrev N : ℕ
  N = runs_to ws ℓ

  -- the touches by code k, and by the codes before k
  abbrev by : ℕ → List Edge
  by k = touches_by_in g structure ws ℓ k

  below : ℓ < size ds
  below = rw (leading_size n g.dims L R.leading three) R.lines.within

  -- the pairs of line ℓ and line m, by that code
  abbrev with_line : (ℕ → ℕ) → (ℕ → Run) → ℕ → ℕ → List Edge
  with_line S Q k m = pairs (λ r s. reaches (on structure (3 * k)) (on structure (3 * k + 1)) (on structure (3 * k + 2)) (Q s) (Q r)) (S ℓ)
      (S (suc ℓ) - S ℓ) (S m) (S (suc m) - S m)

  -- the touches by one code are these, or none
  by_cases : (P : List Edge → Type 0) (S : ℕ → ℕ) (Q : ℕ → Run) (k : ℕ) → P []
      → ((m : ℕ) → m < ℓ → P (with_line S Q k m))
      → P (touches_by (leading_of g.leads g.dims) structure S Q ℓ k)
  unfolding touches_by
  by_cases P S Q k none some = go (used structure (length ds) k) refl (has_nbr ds (offset (length ds) k) ℓ) refl
    where
      m : ℕ
      m = nbr_line ds (offset (length ds) k) ℓ

      go : (u : Bool) → used structure (length ds) k ≡ u → (t : Bool) → has_nbr ds (offset (length ds) k) ℓ ≡ t
          → P (cond (used structure (length ds) k && has_nbr ds (offset (length ds) k) ℓ) (with_line S Q k m) [])
      go false eu t et = rw eu none
      go true eu false et = rw (eu, et) none
      go true eu true et = rw (eu, et) (some m (nbr_earlier ds structure ℓ k below eu et))

  by_ends : (k : ℕ) → Ends (λ r. r < N) (by k)
  by_ends k =
      by_cases (Ends (λ r. r < N)) (line_start ws) (stored_run L ws) k tt
      (λ m h.
      let a = starts_rise L ws ℓ R.lines ℓ (suc ℓ) (omega arith) (le_refl (suc ℓ)) in
      let b = starts_rise L ws ℓ R.lines m (suc m) (omega arith) (omega arith) in
      let c = starts_rise L ws ℓ R.lines (suc m) (suc ℓ) (omega arith) (le_refl (suc ℓ)) in
      pairs_ends _ _ _ _ _ N (omega arith) (omega arith))

  upto_ends : (k : ℕ) → Ends (λ r. r < N) (gather by 0 k)
  upto_ends k = ends_all (λ r. r < N) (gather by 0 k)
      (λ e i. let f = gather_from by 0 k e i in mem_ends (λ r. r < N) (by f.at) (by_ends f.at) e f.mem)

  -- ---- none, where the line has no run

  pub no_touches : line_start ws ℓ ≡ line_start ws (suc ℓ) → touches_in g structure ws ℓ ≡ []
  unfolding touches_of
  no_touches e = gather_none by 0 (3 ^ length ds)
      (λ k l u. by_cases (λ es. es ≡ []) (line_start ws) (stored_run L ws) k refl
      (λ m h. let z : line_start ws (suc ℓ) - line_start ws ℓ ≡ 0 = omega arith in rw z (unfold pairs gather in refl)))

  -- ---- by one code more

  module _ (now : List ℕ) (k t : ℕ) (E : UnitedIn L ws now (runs_to ws ℓ) (gather (touches_by_in g structure ws ℓ) 0 k) t) where
    same_by : touches_by_in g structure now ℓ k ≡ by k
    same_by =
        by_same ds structure (line_start now) (line_start ws) (stored_run L now) (stored_run L ws) ℓ k below
        (λ m h. in_start L ws now N (gather by 0 k) t E m (let w = R.lines.within in omega arith))
        (λ m r h lo hi. ap (λ (run : ℕ → Run). run r) (in_runs L ws now N (gather by 0 k) t E))

    pub touches_more : (vs : List ℕ) (u : ℕ) → UnitedIn L now vs (runs_to now ℓ) (touches_by_in g structure now ℓ k) u
        → UnitedIn L ws vs (runs_to ws ℓ) (gather (touches_by_in g structure ws ℓ) 0 (k + 1)) (t + u)
    touches_more vs u F =
        subst (λ (es : List Edge). UnitedIn L ws vs N es (t + u)) (sym more)
        (in_then L ws ℓ R.lines now (gather by 0 k) t E (upto_ends k) vs (by k) u
        (subst (λ (es : List Edge). UnitedIn L now vs (runs_to now ℓ) es u) same_by F))
      where
        more : gather by 0 (k + 1) ≡ gather by 0 k ++ by k
        more = ap (gather by 0) (add-one k) ∙ gather_snoc by 0 k ∙ ap (λ (x : ℕ). gather by 0 k ++ by x) (zero-add k)

    -- how many joins there can be
    pub joins_most : t ≤ runs_to ws ℓ
    joins_most = united_few (part_ready L ws ℓ R.lines).parents (upto_ends k) E.runs

  -- ---- all of them: only the codes below the middle are backward

  unused : (k : ℕ) → 3 ^ n / 2 ≤ k → k < 3 ^ n → used structure (length ds) k ≡ false
  unfolding used
  unused k l u =
      let e : backward (offset (length ds) k) ≡ false = ap (λ (x : ℕ). backward (offset x k))
      (leading_length n g.dims L R.leading three) ∙ backward_below n k u ∙ le-ltb k (3 ^ n / 2) l in
      rw e

  forward : (k : ℕ) → 3 ^ n / 2 ≤ k → k < 3 ^ n → by k ≡ []
  unfolding touches_by
  forward k l u = rw (unused k l u)

  pub touches_all : gather (touches_by_in g structure ws ℓ) 0 (3 ^ n / 2) ≡ touches_in g structure ws ℓ
  unfolding touches_of
  touches_all =
      let e : 3 ^ n ≡ 3 ^ n / 2 + (3 ^ n - 3 ^ n / 2) = omega arith in
      sym
      (ap (λ (x : ℕ). gather by 0 (3 ^ x)) (leading_length n g.dims L R.leading three)
      ∙ ap (gather by 0) e
      ∙ gather_split by 0 (3 ^ n / 2) (3 ^ n - 3 ^ n / 2)
      ∙ ap (λ (l : List Edge). gather by 0 (3 ^ n / 2) ++ l)
      (gather_none by (0 + 3 ^ n / 2) (3 ^ n - 3 ^ n / 2) (λ k l u. forward k (omega arith) (omega arith)))
      ∙ append-nil (gather by 0 (3 ^ n / 2)))
