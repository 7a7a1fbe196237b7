-- A sweep's two comparisons say what the reach by three bytes says, of runs that are not empty.
-- Assumes nothing.
use mathlib.Core.Path.{◌≡◌, refl, sym, ap}
use mathlib.Core.Logic.{◌⊎◌, inl, inr}
use mathlib.Core.Bool.{Bool, true, false, not, cond, ◌&&◌, ◌||◌, true≢false, and-false}
use mathlib.Core.Bool as Bool
use Prim.Native.Nat.{ℕ, suc, ◌+◌, ◌≤◌, ◌<◌}
use native.Mathlib.Omega.{arith}
use borrow.Author.Tests.{ltb-true, ltb-false, leb-false, lt-ltb, le-leb, lt-leb, not-true}
use lib.Dec.{ltb}
use Rattle.groups.proofs.BoolLaws.{and_true, and_left, and_right, or_left, or_right, or_cases, bool_same}
use Rattle.frame.specs.Runs.{Run}
use Rattle.frame.specs.Touches.{reach_prev, reach_adj, reach_next, reaches}
use Rattle.frame.proofs.ReachLaws.{over, over_parts}
use Rattle.sweep.specs.Sweeps.{swept}

module _ (lo hi : ℕ) (m c : Run) where
  pub swept_true : m.start + 1 < c.end + lo → c.start + 1 < m.end + hi → swept lo hi m c ≡ true
  unfolding swept
  swept_true a b = and_true _ _ (lt-ltb _ _ a) (ap not (lt-leb _ _ b))

  pub swept_parts : swept lo hi m c ≡ true → (m.start + 1 < c.end + lo) × (c.start + 1 < m.end + hi)
  unfolding swept
  swept_parts e = (
    ltb-true _ _ (and_left (ltb (m.start + 1) (c.end + lo)) _ e),
    leb-false _ _
        (not-true _ (and_right (ltb (m.start + 1) (c.end + lo)) _ e)),
  )

  -- the second comparison alone decides, or leaves it to the first
  pub swept_shut : m.end + hi ≤ c.start + 1 → swept lo hi m c ≡ false
  unfolding swept
  swept_shut h = rw (le-leb (m.end + hi) (c.start + 1) h) (and-false (ltb (m.start + 1) (c.end + lo)))

  pub swept_open : c.start + 1 < m.end + hi → swept lo hi m c ≡ ltb (m.start + 1) (c.end + lo)
  unfolding swept
  swept_open h = rw (lt-leb (m.end + hi) (c.start + 1) h) (Bool.and-true (ltb (m.start + 1) (c.end + lo)))

-- the digit of 1 where a byte is set, of 0 where it is not
abbrev pub wide : Bool → ℕ
wide b = suc (cond b 1 0)

module _ (m c : Run) (hm : m.start < m.end) (hc : c.start < c.end) where
  -- one of the three is a pair of comparisons
  data Way (prev adj next : Bool) : Type 0 where
    by_prev : prev ≡ true → (m.start + 1 < c.end) × (c.start < m.end + 1) → Way prev adj next
    by_adj : adj ≡ true → (m.start < c.end) × (c.start < m.end) → Way prev adj next
    by_next : next ≡ true → (m.start < c.end + 1) × (c.start + 1 < m.end) → Way prev adj next

  module _ (prev adj next : Bool) where
    abbrev P : Bool
    P = prev && reach_prev m.start m.end c.start c.end

    abbrev A : Bool
    A = adj && reach_adj m.start m.end c.start c.end

    abbrev N : Bool
    N = next && reach_next m.start m.end c.start c.end

    way : reaches prev adj next m c ≡ true → Way prev adj next
    unfolding reaches
    way e = go (or_cases P (A || N) e)
      where
        rest : (A ≡ true) ⊎ (N ≡ true) → Way prev adj next
        rest (inl k) = by_adj (and_left adj _ k) (over_parts _ _ _ _ (and_right adj _ k))
        rest (inr k) = by_next (and_left next _ k) (over_parts _ _ _ _ (and_right next _ k))

        go : (P ≡ true) ⊎ ((A || N) ≡ true) → Way prev adj next
        go (inl k) = by_prev (and_left prev _ k) (over_parts _ _ _ _ (and_right prev _ k))
        go (inr k) = rest (or_cases A N k)

    back : Way prev adj next → reaches prev adj next m c ≡ true
    unfolding reaches
    back (by_prev e k) = or_left P (A || N) (and_true _ _ e (over _ _ _ _ k.0 k.1))
    back (by_adj e k) = or_right P (A || N) (or_left A N (and_true _ _ e (over _ _ _ _ k.0 k.1)))
    back (by_next e k) = or_right P (A || N) (or_right A N (and_true _ _ e (over _ _ _ _ k.0 k.1)))

  -- the middle byte set: widened by next before the start and by prev past the end
  pub reaches_wide : (prev next : Bool) → reaches prev true next m c ≡ swept (wide next) (wide prev) m c
  reaches_wide prev next = bool_same _ _ (λ e. there prev next (way prev true next e))
      (λ e. let k = swept_parts (wide next) (wide prev) m c e in back prev true next
      (here prev next k.0 k.1 (ltb m.start c.end) refl (ltb c.start m.end) refl))
    where
      there : (prev next : Bool) → Way prev true next → swept (wide next) (wide prev) m c ≡ true
      there true next (by_prev e k) = swept_true (wide next) 2 m c (omega arith) (omega arith)
      there false next (by_prev e k) = absurd (true≢false (sym e))
      there prev next (by_adj e k) = swept_true (wide next) (wide prev) m c (omega arith) (omega arith)
      there prev true (by_next e k) = swept_true 2 (wide prev) m c (omega arith) (omega arith)
      there prev false (by_next e k) = absurd (true≢false (sym e))

      here : (prev next : Bool) → m.start + 1 < c.end + wide next → c.start + 1 < m.end + wide prev → (x : Bool)
          → ltb m.start c.end ≡ x → (y : Bool) → ltb c.start m.end ≡ y → Way prev true next
      here prev next a b true x true y = by_adj refl (ltb-true _ _ x, ltb-true _ _ y)
      here true next a b x' x false y = let l = ltb-false c.start m.end y in by_prev refl (omega arith, omega arith)
      here false next a b x' x false y = let l = ltb-false c.start m.end y in absurd (omega arith)
      here prev true a b false x true y = let l = ltb-false m.start c.end x in by_next refl (omega arith, omega arith)
      here prev false a b false x true y = let l = ltb-false m.start c.end x in absurd (omega arith)

  -- the middle byte zero: shifted by one, to either side whose byte is set. Digits 0 and 2 are those of -1 and 1
  pub reaches_sides : (prev next : Bool) → reaches prev false next m c ≡ true
      → ((prev ≡ true) × (swept 0 2 m c ≡ true)) ⊎ ((next ≡ true) × (swept 2 0 m c ≡ true))
  reaches_sides prev next e = go (way prev false next e)
    where
      go : Way prev false next → ((prev ≡ true) × (swept 0 2 m c ≡ true)) ⊎ ((next ≡ true) × (swept 2 0 m c ≡ true))
      go (by_prev s k) = inl (s, swept_true 0 2 m c (omega arith) (omega arith))
      go (by_adj s k) = absurd (true≢false (sym s))
      go (by_next s k) = inr (s, swept_true 2 0 m c (omega arith) (omega arith))

  pub prev_reaches : (adj next : Bool) → swept 0 2 m c ≡ true → reaches true adj next m c ≡ true
  prev_reaches adj next e = let k = swept_parts 0 2 m c e in back true adj next (by_prev refl (omega arith, omega arith))

  pub next_reaches : (prev adj : Bool) → swept 2 0 m c ≡ true → reaches prev adj true m c ≡ true
  next_reaches prev adj e = let k = swept_parts 2 0 m c e in back prev adj true (by_next refl (omega arith, omega arith))
