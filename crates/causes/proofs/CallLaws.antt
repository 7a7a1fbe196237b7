-- What the checks of a sound record's calls find: each cause by its condition, where those before it do not hold.
-- Assumes nothing.
use mathlib.Core.Path.{◌≡◌, refl, ◌∙◌}
use mathlib.Core.Logic.{◌≢◌}
use mathlib.Core.Bool.{true, false}
use mathlib.Core.List.{List}
use Prim.Native.Nat.{ℕ, ◌-◌, ◌*◌, ◌^◌, ◌≤◌, ◌<◌}
use native.Mathlib.Nat.{mul-le-mul_right}
use native.Mathlib.Omega.{arith}
use borrow.Author.Tests.{le-ltb, lt-ltb, eq-eqb, ne_eqb, le-leb, lt-leb}
use lib.ListN.{length}
use Rattle.frame.specs.Lists.{entries}
use Rattle.frame.specs.Kinds.{Number, largest, holds}
use Rattle.frame.specs.Causes.{first_cause, feed_tests, feed_cause, read_tests, read_cause, sizes_tests, sizes_cause}
use Rattle.frame.specs.Causes.{lopsided, not_wider, widen_tests, widen_cause}
use Rattle.frame.proofs.WiderLaws.{wider_entries}
use Rattle.geo.specs.declared.Geo.{Geo}
use Rattle.causes.specs.Checks.{FeedAsked}

-- ---- feed

-- the cells of lines that the frame still has can be counted
pub feed_product : (g : Geo) (fed k : ℕ) → FeedAsked g fed → k ≤ g.lines - fed → k * g.width < 4294967293
feed_product g fed k A h = let few : k ≤ g.lines = omega arith in omega (arith, mul-le-mul_right g.width few, A.cells)

module _ (left k w cells : ℕ) where
  pub feed_gets_7 : left < k → 7 ≡ feed_cause true left k w cells
  unfolding feed_cause feed_tests first_cause
  feed_gets_7 h = rw (lt-ltb left k h) refl

  module _ (few : k ≤ left) where
    pub feed_gets_8 : cells ≢ k * w → 8 ≡ feed_cause true left k w cells
    unfolding feed_cause feed_tests first_cause
    feed_gets_8 ne = rw (le-ltb left k few, ne_eqb cells (k * w) ne) refl

    pub feed_gets_none : cells ≡ k * w → 0 ≡ feed_cause true left k w cells
    unfolding feed_cause feed_tests first_cause
    feed_gets_none e = rw (le-ltb left k few, eq-eqb cells (k * w) e) refl

-- ---- reading

module _ (kind : Number) (n out wanted : ℕ) where
  pub read_gets_9 : out ≢ wanted → 9 ≡ read_cause true out wanted (holds kind n)
  unfolding read_cause read_tests first_cause
  read_gets_9 ne = rw (ne_eqb out wanted ne) refl

  module _ (exact : out ≡ wanted) (most : ℕ) (is : most ≡ largest kind) where
    pub read_gets_10 : most < n → 10 ≡ read_cause true out wanted (holds kind n)
    unfolding read_cause read_tests first_cause holds
    read_gets_10 h = rw (eq-eqb out wanted exact, lt-leb n (largest kind) (rw (← is) h)) refl

    pub read_gets_none : n ≤ most → 0 ≡ read_cause true out wanted (holds kind n)
    unfolding read_cause read_tests first_cause holds
    read_gets_none h = rw (eq-eqb out wanted exact, le-leb n (largest kind) (rw (← is) h)) refl

-- ---- sizes

module _ (n out : ℕ) where
  pub sizes_gets_9 : out ≢ n → 9 ≡ sizes_cause true out n
  unfolding sizes_cause sizes_tests first_cause
  sizes_gets_9 ne = rw (ne_eqb out n ne) refl

  pub sizes_gets_none : out ≡ n → 0 ≡ sizes_cause true out n
  unfolding sizes_cause sizes_tests first_cause
  sizes_gets_none e = rw (eq-eqb out n e) refl

-- ---- structure change

-- of the structure held, the first 3^rank bytes count
module _ (rank : ℕ) (old new : List ℕ) where
  abbrev widen_finds : ℕ
  widen_finds = widen_cause true rank (entries (3 ^ rank) old) new

  pub widen_gets_2 : length new ≢ 3 ^ rank → 2 ≡ widen_finds
  unfolding widen_cause widen_tests first_cause
  widen_gets_2 ne = rw (ne_eqb (length new) (3 ^ rank) ne) refl

  module _ (bytes : length new ≡ 3 ^ rank) where
    pub widen_gets_12 : lopsided rank new ≡ true → 12 ≡ widen_finds
    unfolding widen_cause widen_tests first_cause
    widen_gets_12 h = rw (eq-eqb (length new) (3 ^ rank) bytes, h) refl

    module _ (alike : lopsided rank new ≡ false) where
      pub widen_gets_19 : not_wider rank old new ≡ true → 19 ≡ widen_finds
      unfolding widen_cause widen_tests first_cause
      widen_gets_19 h = rw (eq-eqb (length new) (3 ^ rank) bytes, alike, wider_entries rank old new ∙ h) refl

      pub widen_gets_none : not_wider rank old new ≡ false → 0 ≡ widen_finds
      unfolding widen_cause widen_tests first_cause
      widen_gets_none h = rw (eq-eqb (length new) (3 ^ rank) bytes, alike, wider_entries rank old new ∙ h) refl
