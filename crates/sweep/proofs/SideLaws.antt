-- The pairs of a link: those of one sweep with widened ends, or those of the sweeps shifted to either side.
-- Assumes nothing.
use mathlib.Core.Path.{◌≡◌, refl, subst}
use mathlib.Core.Logic.{◌⊎◌, inl, inr}
use mathlib.Core.Bool.{Bool, true, false, cond, ◌||◌}
use mathlib.Core.List.Memᴰ
use mathlib.Core.List.{List, [], ◌++◌, Memᴰ}
use Prim.Native.Nat.{ℕ, ◌+◌, ◌-◌, ◌≤◌, ◌<◌}
use native.Mathlib.Nat.{add-zero}
use native.Mathlib.Omega.{arith}
use borrow.Author.Tests.{eqb-true}
use lib.Dec.{eqb}
use Rattle.groups.specs.Groups as Groups
use Rattle.groups.specs.Groups.{Edge}
use Rattle.groups.proofs.BoolLaws.{or_cases}
use Rattle.groups.proofs.RepLaws.{Ends, ends_all, mem_ends}
use Rattle.groups.proofs.GatherLaws.{Pair, pairs_from, from_pairs, pairs_same, pairs_none, pairs_ends}
use Rattle.frame.specs.Runs.{Run}
use Rattle.frame.specs.Touches.{reaches}
use Rattle.forest.specs.Unions.{United}
use Rattle.forest.proofs.ParentLaws.{kept_parents}
use Rattle.forest.proofs.UnitedLaws.{united_none, united_then, united_same}
use Rattle.sweep.specs.declared.LinePair.{LinePair}
use Rattle.sweep.specs.declared.Nbr.{Nbr}
use Rattle.sweep.specs.Sweeps.{run_in, InOrder, TwoLines, swept, sweep_pairs, link_pairs}
use Rattle.sweep.proofs.ReachedLaws.{wide, reaches_wide, reaches_sides, prev_reaches, next_reaches}
use Rattle.sweep.proofs.TurnLaws.{runs_kept, united_few}

module _ (R : ℕ → Run) (at : LinePair) where
  -- the pairs of a sweep to a side where its byte is set, and of the two
  abbrev pub side : Bool → ℕ → ℕ → List Edge
  side b lo hi = cond b (sweep_pairs lo hi R at) []

  abbrev sides : Bool → Bool → List Edge
  sides prev next = side prev 0 2 ++ side next 2 0

  -- a line without runs
  pub link_none : (by : Nbr) → (eqb at.ca at.cb || eqb at.na at.nb) ≡ true → link_pairs by R at ≡ []
  link_none by e = pairs_none _ at.ca (at.cb - at.ca) at.na (at.nb - at.na)
      (λ i j p q u v. absurd (empty i j p q u v (or_cases (eqb at.ca at.cb) (eqb at.na at.nb) e)))
    where
      empty : (i j : ℕ) → at.ca ≤ i → i < at.ca + (at.cb - at.ca) → at.na ≤ j → j < at.na + (at.nb - at.na)
          → (eqb at.ca at.cb ≡ true) ⊎ (eqb at.na at.nb ≡ true) → ⊥
      empty i j p q u v (inl h) = omega (arith, eqb-true at.ca at.cb h)
      empty i j p q u v (inr h) = omega (arith, eqb-true at.na at.nb h)

-- three bytes with the middle one set, and zero
abbrev on_middle : Bool → Bool → Nbr
on_middle prev next = record { prev = prev; adj = true; next = next }

abbrev off_middle : Bool → Bool → Nbr
off_middle prev next = record { prev = prev; adj = false; next = next }

module _ {R : ℕ → Run} (at : LinePair) (C : InOrder R at.ca at.cb) (N : InOrder R at.na at.nb) where
  -- the middle byte set
  pub link_wide : (prev next : Bool) → link_pairs (on_middle prev next) R at ≡ sweep_pairs (wide next) (wide prev) R at
  unfolding sweep_pairs
  link_wide prev next = pairs_same _ _ at.ca (at.cb - at.ca) at.na (at.nb - at.na)
      (λ i j p q u v. reaches_wide (R j) (R i) (N.nonempty j u (omega arith)) (C.nonempty i p (omega arith)) prev next)

  -- the middle byte zero: an edge e is a pair that passes a test
  module _ (e : Edge) where
    abbrev Passes : (Run → Run → Bool) → Type 0
    Passes t = Pair (λ r s. t (R s) (R r)) at.ca (at.cb - at.ca) at.na (at.nb - at.na) e

    -- and another one, as both its runs are not empty
    pass : (t u : Run → Run → Bool) → Passes t
        → ((R e.to).start < (R e.to).end → (R e.from).start < (R e.from).end → u (R e.to) (R e.from) ≡ true) → Passes u
    pass t u k h =
        record {
          from_low = k.from_low;
          from_high = k.from_high;
          to_low = k.to_low;
          to_high = k.to_high;
          passes = h (N.nonempty e.to k.to_low (omega (arith, k.to_high)))
              (C.nonempty e.from k.from_low (omega (arith, k.from_high)));
        }

    side_in : (b : Bool) (lo hi : ℕ) → b ≡ true → Passes (swept lo hi) → Memᴰ e (side R at b lo hi)
    unfolding sweep_pairs
    side_in b lo hi h k = rw h (from_pairs _ at.ca (at.cb - at.ca) at.na (at.nb - at.na) e k)

    side_out : (b : Bool) (lo hi : ℕ) → Memᴰ e (side R at b lo hi) → (b ≡ true) × Passes (swept lo hi)
    unfolding sweep_pairs
    side_out true lo hi m = (refl, pairs_from _ at.ca (at.cb - at.ca) at.na (at.nb - at.na) e m)
    side_out false lo hi m = absurd (Memᴰ.not-nil m)

    module _ (prev next : Bool) where
      pub sides_link : Memᴰ e (sides R at prev next) → Memᴰ e (link_pairs (off_middle prev next) R at)
      sides_link m =
          from_pairs _ at.ca (at.cb - at.ca) at.na (at.nb - at.na) e (go (Memᴰ.append_cases (side R at prev 0 2) m))
        where
          go : Memᴰ e (side R at prev 0 2) ⊎ Memᴰ e (side R at next 2 0) → Passes (reaches prev false next)
          go (inl i) =
              let k = side_out prev 0 2 i in
              pass (swept 0 2) (reaches prev false next) k.1
              (λ x y. rw k.0 (prev_reaches (R e.to) (R e.from) x y false next k.1.passes))
          go (inr i) =
              let k = side_out next 2 0 i in
              pass (swept 2 0) (reaches prev false next) k.1
              (λ x y. rw k.0 (next_reaches (R e.to) (R e.from) x y prev false k.1.passes))

      pub link_sides : Memᴰ e (link_pairs (off_middle prev next) R at) → Memᴰ e (sides R at prev next)
      link_sides m = go (reaches_sides (R e.to) (R e.from) (N.nonempty e.to k.to_low (omega (arith, k.to_high)))
          (C.nonempty e.from k.from_low (omega (arith, k.from_high))) prev next k.passes)
        where
          k : Passes (reaches prev false next)
          k = pairs_from _ at.ca (at.cb - at.ca) at.na (at.nb - at.na) e m

          go : ((prev ≡ true) × (swept 0 2 (R e.to) (R e.from) ≡ true)) ⊎
              ((next ≡ true) × (swept 2 0 (R e.to) (R e.from) ≡ true)) → Memᴰ e (sides R at prev next)
          go (inl h) =
              Memᴰ.append_left (side R at next 2 0) (side_in prev 0 2 h.0 (pass (reaches prev false next) (swept 0 2) k (λ x y. h.1)))
          go (inr h) =
              Memᴰ.append_right (side R at prev 0 2) (side_in next 2 0 h.0 (pass (reaches prev false next) (swept 2 0) k (λ x y. h.1)))

-- ---- as unions

module _ {p : List ℕ} {at : LinePair} (L : TwoLines p at) where
  abbrev edges : Nbr → List Edge
  edges by = link_pairs by (run_in p) at

  abbrev one : Bool → ℕ → ℕ → List Edge
  one = side (run_in p) at

  abbrev both : Bool → Bool → List Edge
  both = sides (run_in p) at

  edges_ends : (by : Nbr) → Ends (λ r. r < at.cb) (edges by)
  edges_ends by = pairs_ends _ at.ca (at.cb - at.ca) at.na (at.nb - at.na) at.cb (omega (arith, L.current.upto))
      (omega (arith, L.neighbour.upto, L.before))

  pub link_few : {q : List ℕ} {t : ℕ} (by : Nbr) → United p q at.cb (edges by) t → t ≤ at.cb
  link_few by U = united_few L.sized.parents (edges_ends by) U

  pub link_idle : (by : Nbr) → (eqb at.ca at.cb || eqb at.na at.nb) ≡ true → United p p at.cb (edges by) 0
  link_idle by e = rw (link_none (run_in p) at by e) (united_none p at.cb L.sized.parents)

  pub link_widened : {q : List ℕ} {lo hi t : ℕ} (by : Nbr) → by.adj ≡ true → lo ≡ wide by.next → hi ≡ wide by.prev
      → United p q at.cb (sweep_pairs lo hi (run_in p) at) t → United p q at.cb (edges by) t
  link_widened by e x y U = rw (e, link_wide at L.current L.neighbour by.prev by.next) (rw (x, y) at U)

  -- a sweep to a side where its byte is set
  abbrev pub Side : List ℕ → Bool → ℕ → ℕ → ℕ → Type 0
  Side q b lo hi t = United p q at.cb (one b lo hi) t

  pub side_on : {q : List ℕ} {t : ℕ} (b : Bool) (lo hi : ℕ) → b ≡ true → United p q at.cb (sweep_pairs lo hi (run_in p) at) t
      → Side q b lo hi t
  side_on b lo hi e U = rw e U

  pub side_off : (b : Bool) (lo hi : ℕ) → b ≡ false → Side p b lo hi 0
  side_off b lo hi e = rw e (united_none p at.cb L.sized.parents)

  module _ {m : List ℕ} {s : ℕ} (by : Nbr) (e : by.adj ≡ false) (U : Side m by.prev 0 2 s) where
    into : {a b : ℕ} → Groups.Joined (both by.prev by.next) a b → Groups.Joined (edges (off_middle by.prev by.next)) a b
    into (inl i) = inl (sides_link at L.current L.neighbour _ by.prev by.next i)
    into (inr i) = inr (sides_link at L.current L.neighbour _ by.prev by.next i)

    out : {a b : ℕ} → Groups.Joined (edges (off_middle by.prev by.next)) a b → Groups.Joined (both by.prev by.next) a b
    out (inl i) = inl (link_sides at L.current L.neighbour _ by.prev by.next i)
    out (inr i) = inr (link_sides at L.current L.neighbour _ by.prev by.next i)

    linked_sides : (q : List ℕ) (t : ℕ) → United m q at.cb (cond by.next (sweep_pairs 2 0 (run_in m) at) []) t
        → United p q at.cb (edges by) (s + t)
    linked_sides q t W = rw e (united_same p at.cb L.sized.parents q (both by.prev by.next) (s + t) ends whole
        (edges (off_middle by.prev by.next)) (edges_ends (off_middle by.prev by.next)) (λ a b j. into j) (λ a b j. out j))
      where
        ends : Ends (λ r. r < at.cb) (both by.prev by.next)
        ends = ends_all (λ r. r < at.cb) (both by.prev by.next)
            (λ f i. mem_ends (λ r. r < at.cb) (edges (off_middle by.prev by.next)) (edges_ends (off_middle by.prev by.next)) f
            (sides_link at L.current L.neighbour f by.prev by.next i))

        first : Ends (λ r. r < at.cb) (one by.prev 0 2)
        first = ends_all (λ r. r < at.cb) (one by.prev 0 2)
            (λ f i. mem_ends (λ r. r < at.cb) (both by.prev by.next) ends f (Memᴰ.append_left (one by.next 2 0) i))

        whole : United p q at.cb (both by.prev by.next) (s + t)
        whole =
            united_then p at.cb L.sized.parents m (one by.prev 0 2) s first U q (one by.next 2 0) t
            (subst (λ (R : ℕ → Run). United m q at.cb (cond by.next (sweep_pairs 2 0 R at) []) t) (runs_kept U.kept) W)

    -- then the sweep to the other side, or none
    pub linked_both : {q : List ℕ} {t : ℕ} → by.next ≡ true → United m q at.cb (sweep_pairs 2 0 (run_in m) at) t
        → United p q at.cb (edges by) (s + t)
    linked_both {q} {t} h W = linked_sides q t (rw h W)

    pub linked_one : by.next ≡ false → United p m at.cb (edges by) s
    linked_one h = rw add-zero at (linked_sides m 0
        (rw h (united_none m at.cb (kept_parents p m at.cb L.sized.parents U.kept))))
