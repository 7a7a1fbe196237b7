-- Lines united one after another, where the runs of the later lines are groups of their own.
-- Assumes nothing.
use mathlib.Core.Path.{◌≡◌, sym, ap, ◌∙◌, subst}
use mathlib.Core.List.{List, append-nil}
use Prim.Native.Nat.{ℕ, suc, ◌+◌, ◌^◌, ◌≤◌, ◌<◌}
use native.Mathlib.Nat.{le_refl}
use native.Mathlib.Omega.{arith}
use lib.ListN.{length, drop}
use Rattle.groups.specs.Groups.{Edge, gather}
use Rattle.groups.proofs.GatherLaws.{gather_same}
use Rattle.groups.proofs.RepLaws.{Ends, ends_all}
use Rattle.frame.specs.Shape.{size}
use Rattle.frame.specs.Runs.{Run}
use Rattle.frame.specs.Words.{parent_place, line_start, parent_of, size_word, stored_run}
use Rattle.frame.specs.Touches.{touches_by, touches_of, touches}
use Rattle.frame.proofs.TouchLaws.{nbr_of, nbr_earlier, touches_from_lem, touches_split, by_same}
use Rattle.forest.specs.Unions.{parent_in}
use Rattle.forest.proofs.SizeLaws.{sizes_fewer}
use Rattle.geo.specs.declared.Geo.{Geo}
use Rattle.geo.specs.Geometry.{leading_of}
use Rattle.link.specs.Lines.{runs_to, LinesReady, LineReady, UnitedIn, touches_in}
use Rattle.link.proofs.PartLaws.{part_parents, part_ready, starts_rise, in_start, in_others, in_runs, in_none, in_ready, in_then}
use Rattle.link.proofs.TouchByLaws.{leading_size}
use Rattle.sweep.proofs.TurnLaws.{united_few}
use Rattle.block.specs.Blocks.{touches_from}
use Rattle.block.proofs.WideLaws.{united_wide}

-- ---- touches, where the line starts and the runs are the same

module _ (ds structure : List ℕ) (S Z : ℕ → ℕ) (R Q : ℕ → Run) (b : ℕ) (starts : (m : ℕ) → m ≤ b → S m ≡ Z m) (same : R ≡ Q)
    (within : b ≤ size ds) where
  line_stands : (ℓ : ℕ) → ℓ < b → touches_of ds structure S R ℓ ≡ touches_of ds structure Z Q ℓ
  unfolding touches_of
  line_stands ℓ h =
      gather_same (touches_by ds structure S R ℓ) (touches_by ds structure Z Q ℓ) 0 (3 ^ length ds)
      (λ k z v. by_same ds structure S Z R Q ℓ k (omega arith) (λ m q. starts m (omega arith))
      (λ m r q lo hi. ap (λ (f : ℕ → Run). f r) same))

  pub touches_stand : (a n : ℕ) → a + n ≤ b → touches ds structure S R a n ≡ touches ds structure Z Q a n
  unfolding touches
  touches_stand a n h = gather_same (touches_of ds structure S R) (touches_of ds structure Z Q) a n (λ ℓ l u. line_stands ℓ (omega arith))

-- ---- lines united one after another

lines_fewer : (L : ℕ) (ws : List ℕ) (ℓ : ℕ) → LinesReady L ws ℓ → (m : ℕ) → m ≤ ℓ → LinesReady L ws m
lines_fewer L ws ℓ R m h =
    let rise = starts_rise L ws ℓ R (suc m) (suc ℓ) (omega arith) (le_refl (suc ℓ)) in
    record {
      within = omega (arith, R.within);
      room = omega (arith, R.room, rise);
      sorted = λ x l. R.sorted x
          (omega arith);
      parents = λ r l. R.parents r (omega (arith, rise));
      small = omega (arith, R.small, sizes_fewer (parent_of L ws) (size_word L ws) (runs_to ws m) (runs_to ws ℓ) rise);
    }

-- of the lines from `fed` on up to line `last` the first i are united, and the runs of the others are their own parents
pub record Going (n : ℕ) (dims : List ℕ) (L : ℕ) (structure ws : List ℕ) (fed last i : ℕ) (now : List ℕ) (t : ℕ) : Type 0 where
  pub united : UnitedIn L ws now (runs_to ws last) (touches_from n dims L structure ws fed i) t
  pub own : (r : ℕ) → line_start ws (fed + i) ≤ r → r < runs_to ws last → parent_of L now r ≡ r

module _ (g : Geo) (structure ws : List ℕ) (fed last : ℕ) (R : LineReady g structure ws last) (three : length g.dims ≡ 3) where
  abbrev n : ℕ
  n = g.leads

  abbrev dims : List ℕ
  dims = g.dims

  abbrev L : ℕ
  L = g.lines

  abbrev ds : List ℕ
  ds = leading_of n dims

  abbrev N : ℕ
  N = runs_to ws last

  -- the touches of m lines from line a on
  abbrev of : ℕ → ℕ → List Edge
  of a m = touches (leading_of n dims) structure (line_start ws) (stored_run L ws) a m

  size_is : size ds ≡ L
  size_is = leading_size n dims L R.leading three

  rise : (m k : ℕ) → m ≤ k → k ≤ suc last → line_start ws m ≤ line_start ws k
  rise = starts_rise L ws last R.lines

  of_ends : (a m b : ℕ) → a + m ≤ b → b ≤ suc last → Ends (λ r. r < line_start ws b) (of a m)
  of_ends a m b h l =
      ends_all (λ r. r < line_start ws b) (of a m)
      (λ e i.
      let T = touches_from_lem ds structure (line_start ws) (stored_run L ws) a m e.from e.to i in
      let x = nbr_earlier ds structure T.line T.lead (omega (arith, T.line_high, R.lines.within, size_is)) T.is_used
      T.nbr_there in (
        omega (arith, T.r_high, rise (suc T.line) b (omega (arith, T.line_high)) l),
        omega (
          arith,
          T.s_high,
          rise (suc (nbr_of ds structure (line_start ws) (stored_run L ws) T.line T.lead)) b (omega (arith, x, T.line_high)) l,
        ),
      ))

  pub going_none : ((r : ℕ) → line_start ws fed ≤ r → r < runs_to ws last → parent_of g.lines ws r ≡ r)
      → Going g.leads g.dims g.lines structure ws fed last 0 ws 0
  going_none own =
      let e : fed + 0 ≡ fed = omega arith in
      record {
        united = unfold touches gather in in_none L ws last R.lines;
        own = λ r a h. own r
            (subst (λ (x : ℕ). line_start ws x ≤ r) e a) h;
      }

  module _ (i : ℕ) (h : fed + i ≤ suc last) (now : List ℕ) (t : ℕ) (G : Going n dims L structure ws fed last i now t) where
    ends : Ends (λ r. r < N) (of fed i)
    ends = of_ends fed i (suc last) h (le_refl (suc last))

    -- how many joins there can be
    pub going_few : t ≤ runs_to ws last
    going_few = united_few (part_ready L ws last R.lines).parents ends G.united.runs

    ready : LinesReady L now last
    ready = in_ready L ws last R.lines now (of fed i) t G.united

    same_start : (m : ℕ) → m ≤ suc last → line_start now m ≡ line_start ws m
    same_start m l = in_start L ws now N (of fed i) t G.united m (omega (arith, R.lines.within))

    -- the next line
    module _ (l : fed + i ≤ last) where
      pub going_ready : LineReady g structure now (fed + i)
      going_ready = record { leading = R.leading; bytes = R.bytes; lines = lines_fewer L now last ready (fed + i) l }

      line_same : touches_in g structure now (fed + i) ≡ of (fed + i) 1
      line_same =
          line_stands ds structure (line_start now) (line_start ws) (stored_run L now) (stored_run L ws) (suc last) same_start
          (in_runs L ws now N (of fed i) t G.united) (omega (arith, R.lines.within, size_is)) (fed + i) (omega arith)
          ∙ (unfold touches gather in sym (append-nil (touches_in g structure ws (fed + i))))

      module _ (next : List ℕ) (u : ℕ) (F : UnitedIn L now next (runs_to now (fed + i)) (touches_in g structure now (fed + i)) u) where
        here : UnitedIn L now next (runs_to now (fed + i)) (of (fed + i) 1) u
        here = subst (λ (es : List Edge). UnitedIn L now next (runs_to now (fed + i)) es u) line_same F

        wide : UnitedIn L now next (runs_to now last) (of (fed + i) 1) u
        wide = record {
          starts = here.starts;
          runs = united_wide (drop (L + 1) now) (drop (L + 1) next) (runs_to now (fed + i)) (runs_to now last)
              (part_ready L now last ready).parents
              (starts_rise L now last ready (suc (fed + i)) (suc last) (omega arith) (le_refl (suc last))) own_now (of (fed + i) 1) u
              (subst (λ (x : ℕ). Ends (λ r. r < x) (of (fed + i) 1)) (sym (same_start (suc (fed + i)) (omega arith)))
              (of_ends (fed + i) 1 (suc (fed + i)) (omega arith) (omega arith))) here.runs;
        }
          where
            own_now : (r : ℕ) → runs_to now (fed + i) ≤ r → r < runs_to now last → parent_in (drop (L + 1) now) r ≡ r
            own_now r a b =
                subst (λ (f : ℕ → ℕ). f r ≡ r) (sym (part_parents L now))
                (G.own r (omega (
                  arith,
                  same_start (suc (fed + i)) (omega arith),
                  rise (fed + i) (suc (fed + i)) (omega arith) (omega arith),
                )) (omega (arith, same_start (suc last) (le_refl (suc last)))))

        pub going_then : Going n dims L structure ws fed last (i + 1) next (t + u)
        going_then = record {
          united = subst (λ (es : List Edge). UnitedIn L ws next N es (t + u))
              (sym (touches_split ds structure (line_start ws) (stored_run L ws) fed i 1))
              (in_then L ws last R.lines now (of fed i) t G.united ends next (of (fed + i) 1) u wide);
          own = λ r a b.
              let e : fed + (i + 1) ≡ suc (fed + i) = omega arith in
              let s : line_start ws (suc (fed + i)) ≤ r = subst (λ (x : ℕ). line_start ws x ≤ r) e a in
              in_others L now next (runs_to now (fed + i)) (of (fed + i) 1) u here (parent_place L r) (λ x k. (
                omega (arith, same_start (suc (fed + i)) (omega arith)),
                omega (arith, same_start (suc (fed + i)) (omega arith)),
              ))
              ∙ G.own r (omega (arith, rise (fed + i) (suc (fed + i)) (omega arith) (omega arith))) b;
        }
