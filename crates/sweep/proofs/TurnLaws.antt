-- A sweep as unions so far: where each of its loops begins, what one turn adds, and where it ends.
-- Assumes nothing.
use mathlib.Core.Path.{◌≡◌, refl, sym, ap, ap₂, ◌∙◌, subst, fun_ext}
use mathlib.Core.Bool.{Bool, true, false, cond}
use mathlib.Core.List.{List, [], ◌∷◌}
use Prim.Native.Nat.{ℕ, suc, ◌+◌, ◌-◌, ◌≤◌, ◌<◌, max}
use native.Mathlib.Nat.{le_refl}
use native.Mathlib.Omega.{arith}
use borrow.Author.Tests.{eqb-true, eqb-false, ltb-true, ltb-false, leb-true, leb-false}
use lib.Dec.{eqb, ltb, leb}
use lib.IntN.{ℤ}
use lib.ListN.{length, get_or}
use mir.Val.{bool_byte}
use Rattle.groups.specs.Groups.{Edge}
use Rattle.groups.proofs.RepLaws.{Ends}
use Rattle.frame.specs.Runs.{Run}
use Rattle.frame.specs.Words.{start_at, end_at}
use Rattle.forest.specs.Unions.{parent_in, Parents, Sized, GroupWordsOnly, United, Unites}
use Rattle.forest.proofs.ForestLaws.{roots_others}
use Rattle.forest.proofs.ParentLaws.{sized_fewer, kept_parents}
use Rattle.forest.proofs.UnitedLaws.{united_none, united_then, united_groups, united_sized, joined_united}
use Rattle.sweep.specs.declared.LinePair.{LinePair}
use Rattle.frame.specs.Structure.{digit}
use Rattle.sweep.specs.Sweeps.{run_in, InOrder, TwoLines, ToSkip, Skipped, ToRow, row_pairs, RowUnites, sweep_pairs}
use Rattle.sweep.proofs.SweepLaws.{starts, order_from, row_none, row_more, row_stop, row_ends, between, sweep_none, sweep_more}
use Rattle.sweep.proofs.SweepLaws.{sweep_row, sweep_ends, rises}

-- ---- unions leave starts and ends

module _ {p q : List ℕ} {n : ℕ} (K : GroupWordsOnly p q n) where
  start_kept : (r : ℕ) → get_or q (start_at r) 0 ≡ get_or p (start_at r) 0
  start_kept r = K.others (start_at r) (λ x h. (omega arith, omega arith))

  end_kept : (r : ℕ) → get_or q (end_at r) 0 ≡ get_or p (end_at r) 0
  end_kept r = K.others (end_at r) (λ x h. (omega arith, omega arith))

  pub runs_kept : run_in q ≡ run_in p
  runs_kept = fun_ext (λ r. ap₂ (λ (s : ℕ) (e : ℕ). record { start = s; end = e }) (start_kept r) (end_kept r))

pub lines_kept : {p q : List ℕ} {at : LinePair} {es : List Edge} {t : ℕ} → TwoLines p at → United p q at.cb es t → TwoLines q at
lines_kept {p} {q} {at} {es} {t} L U = record {
  sized = united_sized p q at.cb es t L.sized U;
  current = rw (runs_kept U.kept) L.current;
  neighbour = rw (runs_kept U.kept) L.neighbour;
  before = L.before;
}

-- no more joins than runs
pub united_few : {p q : List ℕ} {n : ℕ} {es : List Edge} {t : ℕ} → Parents p n → Ends (λ r. r < n) es → United p q n es t → t ≤ n
united_few {p} {q} {n} {es} {t} P w U = omega (arith, united_groups p n P q es t w U, roots_others (parent_in p) n)

-- ---- skip: the runs j to before k end by the start of run i

pub record SkipTo (hi : ℕ) (R : ℕ → Run) (i j nb k : ℕ) : Type 0 where
  pub low : j ≤ k
  pub high : k ≤ nb
  pub past : (s : ℕ) → j ≤ s → s < k → (R s).end + hi ≤ (R i).start + 1

module _ {hi : ℕ} {R : ℕ → Run} {i j nb : ℕ} where
  pub skip_begins : j ≤ nb → SkipTo hi R i j nb j
  skip_begins h = record { low = le_refl j; high = h; past = λ s a b. absurd (omega arith) }

  module _ {k : ℕ} (T : SkipTo hi R i j nb k) where
    pub skip_turn : k < nb → leb ((R k).end + hi) ((R i).start + 1) ≡ true → SkipTo hi R i j nb (k + 1)
    skip_turn h e = record { low = omega (arith, T.low); high = omega arith; past = λ s a b. go s a b (eqb s k) refl }
      where
        go : (s : ℕ) → j ≤ s → s < k + 1 → (t : Bool) → eqb s k ≡ t → (R s).end + hi ≤ (R i).start + 1
        go s a b true q = rw (eqb-true s k q) (leb-true ((R k).end + hi) ((R i).start + 1) e)
        go s a b false q = T.past s a (omega (arith, eqb-false s k q))

    pub skip_done : (k < nb → leb ((R k).end + hi) ((R i).start + 1) ≡ false) → Skipped hi R i j nb k
    skip_done e = record { low = T.low; high = T.high; past = T.past; stop = λ h. leb-false _ _ (e h) }

-- ---- row: from p, run i was united with those of the runs j to before k that start before it ends

pub record RowTo (p : List ℕ) (lo i j nb : ℕ) (q : List ℕ) (k t : ℕ) : Type 0 where
  pub low : j ≤ k
  pub high : k ≤ nb
  pub few : t ≤ k - j
  pub long : length q ≡ length p
  pub united : (n : ℕ) → Parents p n → i < n → nb ≤ n → United p q n (row_pairs lo (run_in p) i j k) t

module _ {p : List ℕ} {lo i j nb : ℕ} where
  pub row_begins : j ≤ nb → RowTo p lo i j nb p j 0
  row_begins h = record {
    low = le_refl j;
    high = h;
    few = omega arith;
    long = refl;
    united = λ n P a b. rw (row_none lo (run_in p) i j)
        (united_none p n P);
  }

  module _ {q : List ℕ} {k t : ℕ} (Z : Sized p (max (suc i) nb)) (T : RowTo p lo i j nb q k t) where
    row_united : United p q (max (suc i) nb) (row_pairs lo (run_in p) i j k) t
    row_united = T.united (max (suc i) nb) Z.parents (omega arith) (omega arith)

    pub row_sized : k < nb → Sized q (suc (max i k))
    row_sized h = sized_fewer q (max (suc i) nb) (suc (max i k)) (united_sized p q (max (suc i) nb) _ t Z row_united) (omega arith)

    -- the test that the loop makes, of words as they are now
    row_test : (b : Bool) → ltb ((run_in q k).start + 1) ((run_in p i).end + lo) ≡ b → starts lo (run_in p) i k ≡ b
    row_test b e = ap (λ (x : ℕ). ltb (x + 1) ((run_in p i).end + lo)) (sym (start_kept row_united.kept k)) ∙ e

    pub row_turn : {s : List ℕ} {b : Bool} → k < nb → ltb ((run_in q k).start + 1) ((run_in p i).end + lo) ≡ true → Unites q s i k b
        → RowTo p lo i j nb s (k + 1) (t + bool_byte b)
    row_turn {s} {b} h e J =
        record {
          low = omega (arith, T.low);
          high = omega arith;
          few = few b;
          long = (J (suc (max i k)) (row_sized h).parents (omega arith) (omega arith)).kept.long ∙ T.long;
          united = λ n Q a c.
              let U = T.united n Q a c in
              let Q' = kept_parents p q n Q U.kept in
              rw (byte b, row_more lo (run_in p) i j k T.low (row_test true e))
              (united_then p n Q q (row_pairs lo (run_in p) i j k) t (row_ends lo (run_in p) i j k n a T.low (omega arith)) U s
              (record { from = i; to = k } ∷ []) (cond b 1 0)
              (joined_united q n Q' s i k b a (omega arith) (J n Q' a (omega arith))));
        }
      where
        byte : (b : Bool) → bool_byte b ≡ cond b 1 0
        byte true = refl
        byte false = refl

        few : (b : Bool) → t + bool_byte b ≤ k + 1 - j
        few true = omega (arith, T.few, T.low)
        few false = omega (arith, T.few, T.low)

    pub row_done : InOrder (run_in p) j nb → (k < nb → ltb ((run_in q k).start + 1) ((run_in p i).end + lo) ≡ false) → RowUnites p q i j nb lo t
    row_done O e n Q a b = rw (row_stop lo (run_in p) i j k nb O T.low T.high (λ h. row_test false (e h))) (T.united n Q a b)

-- ---- sweep: from p, the current runs before i were swept, and the neighbours before j end by the start of run i

pub record SweepTo (p : List ℕ) (lo hi : ℕ) (at : LinePair) (q : List ℕ) (i j t : ℕ) : Type 0 where
  pub from : at.ca ≤ i
  pub upto : i ≤ at.cb
  pub low : at.na ≤ j
  pub high : j ≤ at.nb
  pub past : i < at.cb → (k : ℕ) → at.na ≤ k → k < j → (run_in p k).end + hi ≤ (run_in p i).start + 1
  pub united : United p q at.cb (sweep_pairs lo hi (run_in p) (between at at.ca i)) t

module _ {p : List ℕ} {lo hi : ℕ} {at : LinePair} (L : TwoLines p at) where
  pub sweep_begins : SweepTo p lo hi at p at.ca at.na 0
  sweep_begins =
      record {
        from = le_refl at.ca;
        upto = L.current.upto;
        low = le_refl at.na;
        high = L.neighbour.upto;
        past = λ h k a b. absurd (omega arith);
        united = rw (sweep_none lo hi (run_in p) at at.ca) (united_none p at.cb L.sized.parents);
      }

  module _ {q : List ℕ} {i j t : ℕ} (T : SweepTo p lo hi at q i j t) where
    now_lines : TwoLines q at
    now_lines = lines_kept L T.united

    ends : Ends (λ r. r < at.cb) (sweep_pairs lo hi (run_in p) (between at at.ca i))
    ends = sweep_ends lo hi (run_in p) at at.ca i at.cb T.from T.upto L.neighbour.upto L.before

    -- what skip and row ask, and a bound of the sum
    pub skip_asked : {o : ℤ} → digit o ≤ 2 → i < at.cb → ToSkip q i j at.nb o
    skip_asked h l = record {
      here = omega (arith, now_lines.sized.parents.room);
      room = omega (arith, now_lines.sized.parents.room, L.before);
      upto = T.high;
      is_hi = h;
    }

    pub row_asked : {o : ℤ} {r : ℕ} → digit o ≤ 2 → i < at.cb → Skipped hi (run_in q) i j at.nb r → ToRow q i r at.nb o
    row_asked {r = r} h l S =
        record {
          sized = sized_fewer q at.cb (max (suc i) at.nb) now_lines.sized (omega (arith, L.before));
          order = order_from (run_in q) at.na at.nb now_lines.neighbour r (omega (arith, T.low, S.low)) S.high;
          is_lo = h;
        }

    pub sweep_few : t ≤ at.cb
    sweep_few = united_few L.sized.parents ends T.united

    pub sweep_turn : {s : List ℕ} {r u : ℕ} → i < at.cb → Skipped hi (run_in q) i j at.nb r → RowUnites q s i r at.nb lo u
        → SweepTo p lo hi at s (i + 1) r (t + u)
    sweep_turn {s} {r} {u} h S W =
        record {
          from = omega (arith, T.from);
          upto = omega arith;
          low = omega (arith, T.low, S.low);
          high = S.high;
          past = λ l k a b. omega (
            arith,
            before k a b (ltb k j) refl,
            rises (run_in p) at.ca at.cb L.current i (i + 1) T.from (omega arith) l,
          );
          united =
              rw (
                sweep_more lo hi (run_in p) at at.ca i T.from,
                sweep_row lo hi (run_in p) at i r L.neighbour (omega (arith, T.low, S.low)) whole,
              )
              (united_then p at.cb L.sized.parents q (sweep_pairs lo hi (run_in p) (between at at.ca i)) t ends T.united s
              (row_pairs lo (run_in p) i r at.nb) u row);
        }
      where
        same : run_in q ≡ run_in p
        same = runs_kept T.united.kept

        skipped : Skipped hi (run_in p) i j at.nb r
        skipped = subst (λ (R : ℕ → Run). Skipped hi R i j at.nb r) same S

        before : (k : ℕ) → at.na ≤ k → k < r → (b : Bool) → ltb k j ≡ b → (run_in p k).end + hi ≤ (run_in p i).start + 1
        before k a c true e = T.past h k a (ltb-true k j e)
        before k a c false e = skipped.past k (ltb-false k j e) c

        whole : Skipped hi (run_in p) i at.na at.nb r
        whole = record {
          low = omega (arith, T.low, S.low);
          high = S.high;
          past = λ k a c. before k a c
              (ltb k j) refl;
          stop = skipped.stop;
        }

        row : United q s at.cb (row_pairs lo (run_in p) i r at.nb) u
        row = subst (λ (R : ℕ → Run). United q s at.cb (row_pairs lo R i r at.nb) u) same
            (W at.cb now_lines.sized.parents h L.before)

    pub sweep_done : at.cb ≤ i → United p q at.cb (sweep_pairs lo hi (run_in p) at) t
    sweep_done h =
        let e : i ≡ at.cb = omega (arith, T.upto) in
        subst (λ (k : ℕ). United p q at.cb (sweep_pairs lo hi (run_in p) (between at at.ca k)) t) e T.united
