-- The reach: a neighbouring run reaches a current one exactly where a step along the line leads from a cell of the one to a cell of the
-- other.
-- Assumes nothing.
use mathlib.Core.Path.{◌≡◌}
use mathlib.Core.Logic.{◌⊎◌, inl, inr}
use mathlib.Core.Bool.{Bool, true, ◌&&◌, ◌||◌}
use Prim.Native.Nat.{ℕ, zero, suc, ◌+◌, ◌-◌, ◌<◌, max}
use native.Mathlib.Omega.{arith}
use borrow.Author.Tests.{ltb-true, lt-ltb}
use lib.Dec.{ltb}
use Rattle.groups.proofs.BoolLaws.{and_true, and_left, and_right, or_left, or_right, or_cases}
use Rattle.frame.specs.Runs.{Run, Covers}
use Rattle.frame.specs.Touches.{overlap, reach_prev, reach_adj, reach_next, reaches}

pub over : (s e cs ce : ℕ) → s < ce → cs < e → overlap s e cs ce ≡ true
over s e cs ce h k = and_true _ _ (lt-ltb s ce h) (lt-ltb cs e k)

pub over_parts : (s e cs ce : ℕ) → overlap s e cs ce ≡ true → (s < ce) × (cs < e)
over_parts s e cs ce h = (ltb-true s ce (and_left (ltb s ce) (ltb cs e) h), ltb-true cs e (and_right (ltb s ce) (ltb cs e) h))

-- column x of the current run c, column y of the neighbouring run m; the byte's digit t leads from x to y
pub record Meeting (f : ℕ → Bool) (m c : Run) : Type 0 where
  pub t : ℕ
  pub is_t : t < 3
  pub is_on : f t ≡ true
  pub x : ℕ
  pub in_c : Covers c x
  pub y : ℕ
  pub in_m : Covers m y
  pub along : x + t ≡ suc y

pub meeting_reaches : (f : ℕ → Bool) (m c : Run) → Meeting f m c → reaches (f 0) (f 1) (f 2) m c ≡ true
unfolding reaches
meeting_reaches f m c M = go M.t M.is_t M.is_on M.along
  where
    P : Bool
    P = f 0 && reach_prev m.start m.end c.start c.end

    A : Bool
    A = f 1 && reach_adj m.start m.end c.start c.end

    N : Bool
    N = f 2 && reach_next m.start m.end c.start c.end

    go : (t : ℕ) → t < 3 → f t ≡ true → M.x + t ≡ suc M.y → (P || (A || N)) ≡ true
    go zero h o a = or_left P (A || N) (and_true _ _ o
        (over (m.start + 1) (m.end + 1) c.start c.end (omega (arith, M.in_c, M.in_m)) (omega (arith, M.in_c, M.in_m))))
    go (suc zero) h o a = or_right P (A || N)
        (or_left A N (and_true _ _ o (over m.start m.end c.start c.end (omega (arith, M.in_c, M.in_m))
        (omega (arith, M.in_c, M.in_m)))))
    go (suc (suc zero)) h o a = or_right P (A || N)
        (or_right A N (and_true _ _ o (over m.start m.end (c.start + 1) (c.end + 1) (omega (arith, M.in_c, M.in_m))
        (omega (arith, M.in_c, M.in_m)))))
    go (suc (suc (suc t))) h o a = absurd (omega arith)

pub reaches_meeting : (f : ℕ → Bool) (m c : Run) → m.start < m.end → c.start < c.end → reaches (f 0) (f 1) (f 2) m c ≡ true
    → Meeting f m c
unfolding reaches
reaches_meeting f m c hm hc h = go (or_cases P (A || N) h)
  where
    P : Bool
    P = f 0 && reach_prev m.start m.end c.start c.end

    A : Bool
    A = f 1 && reach_adj m.start m.end c.start c.end

    N : Bool
    N = f 2 && reach_next m.start m.end c.start c.end

    side : (A ≡ true) ⊎ (N ≡ true) → Meeting f m c
    side (inl e) =
        let o = over_parts m.start m.end c.start c.end (and_right (f 1) _ e) in
        let k : ℕ = max m.start c.start in
        record {
          t = 1;
          is_t = omega arith;
          is_on = and_left (f 1) _ e;
          x = k;
          in_c = (omega arith, omega arith);
          y = k;
          in_m =
              (omega arith, omega arith);
          along = omega arith;
        }
    side (inr e) =
        let o = over_parts m.start m.end (c.start + 1) (c.end + 1) (and_right (f 2) _ e) in
        let k : ℕ = max m.start (c.start + 1) in
        record {
          t = 2;
          is_t = omega arith;
          is_on = and_left (f 2) _ e;
          x = k - 1;
          in_c = (omega arith, omega arith);
          y = k;
          in_m =
              (omega arith, omega arith);
          along = omega arith;
        }

    go : (P ≡ true) ⊎ ((A || N) ≡ true) → Meeting f m c
    go (inl e) =
        let o = over_parts (m.start + 1) (m.end + 1) c.start c.end (and_right (f 0) _ e) in
        let k : ℕ = max (m.start + 1) c.start in
        record {
          t = 0;
          is_t = omega arith;
          is_on = and_left (f 0) _ e;
          x = k;
          in_c = (omega arith, omega arith);
          y = k - 1;
          in_m =
              (omega arith, omega arith);
          along = omega arith;
        }
    go (inr e) = side (or_cases A N e)
