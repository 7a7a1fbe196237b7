-- One line whose runs are named: its runs painted in turn.
-- Assumes nothing.
use mathlib.Core.Path.{◌≡◌, refl, sym, ap, ◌∙◌, subst}
use mathlib.Core.Bool.{Bool, true, false}
use mathlib.Core.List.{List}
use Prim.Native.Nat.{ℕ, suc, ◌+◌, ◌*◌, ◌-◌, ◌≤◌, ◌<◌}
use native.Mathlib.Numerals.{add-one}
use native.Mathlib.Omega.{arith}
use borrow.Author.Tests.{eqb-true, eqb-false, ltb-true, ltb-false}
use lib.Dec.{eqb, ltb}
use lib.ListN.{length, get_or}
use Rattle.frame.specs.Kinds.{Number, largest, Value, write}
use Rattle.frame.specs.Memory.{stride}
use Rattle.frame.specs.Runs.{Run, Covers}
use Rattle.frame.specs.Words.{line_start, run_start, run_end, name_of, stored_run}
use Rattle.sweep.specs.Sweeps.{InOrder}
use Rattle.sweep.proofs.SweepLaws.{rises}
use Rattle.write.specs.Writes.{output_at}
use Rattle.write.specs.Steps.{Filled, PaintReady, LineToPaint, Painted, LinePainted}

-- ---- the cells

-- a run ends by the start of each later one
module _ (R : ℕ → Run) (a b : ℕ) (O : InOrder R a b) where
  before : (i j : ℕ) → a ≤ i → i < j → j < b → (R i).end ≤ (R j).start
  before i j l h u =
      let e : suc (j - 1) ≡ j = omega arith in
      let o : (R (j - 1)).end ≤ (R j).start = subst (λ (k : ℕ). (R (j - 1)).end ≤ (R k).start) e
      (O.ordered (j - 1) (omega arith) (omega arith)) in
      omega (arith, rises R a b O i (j - 1) l (omega arith) (omega arith))

module _ (kind : Number) {R : ℕ → Run} {number : ℕ → ℕ} {a w : ℕ} where
  -- a line of zeros, no run of which is painted
  painted_none : {out now : List (Value kind)} → Filled kind 0 w (write kind 0) out now → Painted kind R number a a w now now
  painted_none F =
      record { long = refl; covered = λ x r l h c. absurd (omega arith); zeros = λ x h c. F.inside x (omega arith) h; past = λ x h. refl }

  painted_after : {b : ℕ} {out now later : List (Value kind)} → Filled kind 0 w (write kind 0) out now
      → Painted kind R number a b w now later → Painted kind R number a b w out later
  painted_after F P = record { long = P.long ∙ F.long; covered = P.covered; zeros = P.zeros; past = λ x h. P.past x h ∙ F.past x h }

  -- only the numbers of the runs painted matter
  pub painted_as : {other : ℕ → ℕ} {b : ℕ} {out now : List (Value kind)} → ((r : ℕ) → a ≤ r → r < b → number r ≡ other r)
      → Painted kind R number a b w out now → Painted kind R other a b w out now
  painted_as same P = record {
    long = P.long;
    covered = λ x r l h c. P.covered x r l h c ∙ ap (write kind) (same r l h);
    zeros = P.zeros;
    past = P.past;
  }

  module _ {b : ℕ} (O : InOrder R a b) (inside : (r : ℕ) → a ≤ r → r < b → (R r).end ≤ w) where
    module _ {r : ℕ} {out now : List (Value kind)} (P : Painted kind R number a r w out now) (l : a ≤ r) (h : r < b) where
      cells_ready : w ≤ length now → PaintReady kind (R r).start (R r).end w now
      cells_ready room =
          let u = O.nonempty r l h in
          record {
            upward = omega arith;
            within = inside r l h;
            room = room;
            zeros = λ x e k. P.zeros x k (λ i il ih c. omega (arith, before R a b O i r il ih h, c.1));
          }

      painted_more : {later : List (Value kind)} → Filled kind (R r).start (R r).end (write kind (number r)) now later
          → Painted kind R number a (r + 1) w out later
      painted_more {later} F = record {
        long = F.long ∙ P.long;
        covered = λ x i il ih c. cover x i il ih c (eqb i r) refl;
        zeros = λ x k none. zero x k none (ltb x (R r).start) refl (ltb x (R r).end) refl;
        past = λ x k. F.past x (omega (arith, inside r l h)) ∙ P.past x k;
      }
        where
          cover : (x i : ℕ) → a ≤ i → i < r + 1 → Covers (R i) x → (t : Bool) → eqb i r ≡ t → output_at kind later x ≡ write kind (number i)
          cover x i il ih c true t =
              let d : Covers (R r) x = subst (λ (k : ℕ). Covers (R k) x) (eqb-true i r t) c in
              F.inside x d.0 d.1 ∙ ap (λ (k : ℕ). write kind (number k)) (sym (eqb-true i r t))
          cover x i il ih c false t =
              let ne = eqb-false i r t in
              F.before x (omega (arith, before R a b O i r il (omega arith) h, c.1)) ∙ P.covered x i il (omega arith) c

          zero : (x : ℕ) → x < w → ((i : ℕ) → a ≤ i → i < r + 1 → Covers (R i) x → ⊥) → (t : Bool) → ltb x (R r).start ≡ t → (u : Bool)
              → ltb x (R r).end ≡ u → output_at kind later x ≡ write kind 0
          zero x k none true t u e = F.before x (ltb-true x (R r).start t) ∙ P.zeros x k (λ i il ih c. none i il (omega arith) c)
          zero x k none false t true e = absurd (none r l (omega arith) (ltb-false x (R r).start t, ltb-true x (R r).end e))
          zero x k none false t false e = F.past x (ltb-false x (R r).end e) ∙ P.zeros x k (λ i il ih c. none i il (omega arith) c)

-- ---- a line's runs, painted up to before r, where `last` is the line's end

pub record PaintedTo (kind : Number) (L w ℓ : ℕ) (ws : List ℕ) (last : ℕ) (out cells : List (Value kind)) (r : ℕ) : Type 0 where
  pub asked : LineToPaint kind L w ℓ ws (length cells)
  pub is_last : last ≡ line_start ws (suc ℓ)
  pub from : line_start ws ℓ ≤ r
  pub upto : r ≤ last
  pub painted : Painted kind (stored_run L ws) (name_of L ws) (line_start ws ℓ) r w out cells

module _ (kind : Number) {L w ℓ : ℕ} {ws : List ℕ} {last : ℕ} where
  -- no run of it, where the line's cells are 0
  pub paint_begins : {out now : List (Value kind)} {r : ℕ} → LineToPaint kind L w ℓ ws (length out) → Filled kind 0 w (write kind 0) out now
      → last ≡ line_start ws (ℓ + 1) → r ≡ line_start ws ℓ → PaintedTo kind L w ℓ ws last now now r
  paint_begins A F e is-r = record {
    asked = subst (LineToPaint kind L w ℓ ws) (sym F.long) A;
    is_last = next;
    from = omega (arith, is-r);
    upto = omega (arith, is-r, next, A.sorted.upto);
    painted = rw is-r (painted_none kind F);
  }
    where
      next : last ≡ line_start ws (suc ℓ)
      next = e ∙ ap (line_start ws) (add-one ℓ)

  module _ {out cells : List (Value kind)} {r : ℕ} (T : PaintedTo kind L w ℓ ws last out cells r) where
    module _ (taken : r < last) where
      under : r < line_start ws (suc ℓ)
      under = omega (arith, T.is_last)

      -- the run's words are there
      pub run_words : L + 1 + stride * suc r ≤ length ws
      run_words = omega (arith, T.asked.words, under)

      module _ {name : ℕ} (is_name : name ≡ name_of L ws r) where
        pub name_fits : name ≤ largest kind
        name_fits = rw is_name (T.asked.fits r T.from under)

        module _ {start end : ℕ} (at-start : start ≡ get_or ws (L + 1 + (stride * r + 0)) 0) (is-end : end ≡ run_end L ws r) where
          is_start : start ≡ run_start L ws r
          is_start = let e : L + 1 + (stride * r + 0) ≡ L + 1 + stride * r = omega arith in at-start ∙ ap (λ (j : ℕ). get_or ws j 0) e

          pub cells_asked : PaintReady kind start end w cells
          cells_asked =
              rw (is_start, is-end)
              (cells_ready kind T.asked.sorted T.asked.inside T.painted T.from under T.asked.places)

          pub paint_turn : {v : Value kind} {more : List (Value kind)} → v ≡ write kind name → Filled kind start end v cells more
              → PaintedTo kind L w ℓ ws last out more (r + 1)
          paint_turn {v} {more} is-v F = record {
            asked = subst (LineToPaint kind L w ℓ ws) (sym F.long) T.asked;
            is_last = T.is_last;
            from = omega (arith, T.from);
            upto = omega arith;
            painted = painted_more kind T.asked.sorted T.asked.inside T.painted T.from under filled;
          }
            where
              filled : Filled kind (run_start L ws r) (run_end L ws r) (write kind (name_of L ws r)) cells more
              filled = rw (← is_start, ← is-end, ← is_name, ← is-v) F

    pub line_painted : {first : List (Value kind)} → Filled kind 0 w (write kind 0) first out → last ≤ r
        → LinePainted kind L w ℓ ws first cells
    line_painted F left =
        let e : r ≡ line_start ws (suc ℓ) = omega (arith, T.upto, T.is_last) in
        painted_after kind F
        (subst (λ (k : ℕ). Painted kind (stored_run L ws) (name_of L ws) (line_start ws ℓ) k w out cells) e T.painted)
