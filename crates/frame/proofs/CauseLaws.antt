-- Causes: a call is accepted exactly when no condition holds, and 6 comes of an unsound record alone.
-- Assumes nothing.
use mathlib.Core.Path.{◌≡◌, refl, sym, ap, ◌∙◌}
use mathlib.Core.Logic.{◌↔◌, ◌≢◌}
use mathlib.Core.Bool.{Bool, true, false, not, cond, ◌||◌, true≢false}
use mathlib.Core.List.{List, [], ◌∷◌, ◌++◌}
use Prim.Native.Nat.{ℕ, suc, ◌*◌, ◌^◌, ◌≤◌, ◌<◌}
use native.Mathlib.Omega.{arith}
use borrow.Author.Tests.{eqb-true, eqb-false, eq-eqb, ltb-false, le-ltb, leb-false, not-false}
use lib.Dec.{eqb, ltb, leb}
use lib.ListN.{length}
use Rattle.groups.proofs.BoolLaws.{or_left, or₃_false}
use Rattle.frame.specs.Shape.{size, width, leading, lines}
use Rattle.frame.specs.Memory.{words_needed}
use Rattle.frame.specs.Causes.{bad_rank, has_zero, too_large, lopsided, Test, when, first_cause, open_tests, open_cause, feed_tests}
use Rattle.frame.specs.Causes.{feed_cause, read_tests, read_cause, sizes_tests, sizes_cause, not_wider, widen_tests, widen_cause}
use Rattle.frame.specs.Causes.{rest_tests, frame_tests, frame_cause}

-- ---- accepted

-- every cause has a number, and none of the conditions holds
abbrev pub Real : List Test → Type 0
Real [] = Unit {0}
Real (t ∷ ts) = (t.number ≢ 0) × Real ts

abbrev pub NoneHolds : List Test → Type 0
NoneHolds [] = Unit {0}
NoneHolds (t ∷ ts) = (t.holds ≡ false) × NoneHolds ts

-- no cause exactly when none of the conditions holds
pub accepted : (ts : List Test) → Real ts → first_cause ts ≡ 0 ↔ NoneHolds ts
unfolding first_cause
accepted [] r = (λ e. tt, λ h. refl)
accepted (t ∷ ts) r = go t.holds refl (accepted ts r.1)
  where
    go : (b : Bool) → t.holds ≡ b → first_cause ts ≡ 0 ↔ NoneHolds ts
        → cond t.holds t.number (first_cause ts) ≡ 0 ↔ ((t.holds ≡ false) × NoneHolds ts)
    go true e i = (λ h. absurd (r.0 (rw e at h)), λ h. absurd (true≢false (sym e ∙ h.0)))
    go false e i = (λ h. (e, i.0 (rw e at h)), λ h. rw e (i.1 h.1))

-- tests, and more tests after them
real_both : (ts us : List Test) → Real ts → Real us → Real (ts ++ us)
real_both [] us r s = s
real_both (t ∷ ts) us r s = (r.0, real_both ts us r.1 s)

none_both : (ts us : List Test) → NoneHolds (ts ++ us) → NoneHolds ts × NoneHolds us
none_both [] us h = (tt, h)
none_both (t ∷ ts) us h = let k = none_both ts us h.1 in ((h.0, k.0), k.1)

-- where none of the first holds, the others decide
pub first_none : (ts us : List Test) → NoneHolds ts → first_cause (ts ++ us) ≡ first_cause us
unfolding first_cause
first_none [] us h = refl
first_none (t ∷ ts) us h = rw h.0 (first_none ts us h.1)

-- so of every call
pub open_real : (shape structure : List ℕ) (memory : ℕ) → Real (open_tests shape structure memory)
unfolding open_tests
open_real shape structure memory =
    ((λ z. omega arith), ((λ z. omega arith), ((λ z. omega arith), ((λ z. omega arith), ((λ z. omega arith), ((λ z. omega arith), tt))))))

pub feed_real : (sound : Bool) (left k w cells : ℕ) → Real (feed_tests sound left k w cells)
unfolding feed_tests
feed_real sound left k w cells = ((λ z. omega arith), ((λ z. omega arith), ((λ z. omega arith), tt)))

pub read_real : (sound : Bool) (out wanted : ℕ) (fits : Bool) → Real (read_tests sound out wanted fits)
unfolding read_tests
read_real sound out wanted fits = ((λ z. omega arith), ((λ z. omega arith), ((λ z. omega arith), tt)))

pub sizes_real : (sound : Bool) (out n : ℕ) → Real (sizes_tests sound out n)
unfolding sizes_tests
sizes_real sound out n = ((λ z. omega arith), ((λ z. omega arith), tt))

pub widen_real : (sound : Bool) (rank : ℕ) (old new : List ℕ) → Real (widen_tests sound rank old new)
unfolding widen_tests
widen_real sound rank old new = ((λ z. omega arith), ((λ z. omega arith), ((λ z. omega arith), ((λ z. omega arith), tt))))

pub frame_real : (shape structure : List ℕ) (memory cells out : ℕ) (fits : Bool) → Real (frame_tests shape structure memory cells out fits)
unfolding frame_tests
frame_real shape structure memory cells out fits =
    real_both (open_tests shape structure memory) (rest_tests shape cells out fits) (open_real shape structure memory)
    ((λ z. omega arith), ((λ z. omega arith), ((λ z. omega arith), tt)))

-- the condition that two counts differ does not hold: they are equal
same_count : (a b : ℕ) → not (eqb a b) ≡ false → a ≡ b
same_count a b h = eqb-true a b (not-false (eqb a b) h)

pub rank_right : (shape : List ℕ) → bad_rank shape ≡ false → (0 < length shape) × (length shape ≤ 4)
unfolding bad_rank
rank_right shape h = go (eqb (length shape) 0) refl
  where
    go : (b : Bool) → eqb (length shape) 0 ≡ b → (0 < length shape) × (length shape ≤ 4)
    go true e = absurd (true≢false (sym (or_left (eqb (length shape) 0) (ltb 4 (length shape)) e) ∙ h))
    go false e =
        let ne = eqb-false (length shape) 0 e in
        (omega arith, ltb-false 4 (length shape) (sym (ap (λ (t : Bool). t || ltb 4 (length shape)) e) ∙ h))

pub within_limits : (shape : List ℕ) → too_large shape ≡ false
    → (width shape < 2147483647) × (lines shape < 4294967293) × (size shape < 4294967293)
unfolding too_large
within_limits shape h =
    let f = or₃_false (leb 2147483647 (width shape)) (leb 4294967293 (lines shape)) (leb 4294967293 (size shape)) h in
    (leb-false 2147483647 (width shape) f.0, leb-false 4294967293 (lines shape) f.1, leb-false 4294967293 (size shape) f.2)

-- what an accepted opening was given
pub record Allowed (shape structure : List ℕ) (memory : ℕ) : Type 0 where
  pub ranked : bad_rank shape ≡ false
  pub bytes : length structure ≡ 3 ^ length shape
  pub not_lopsided : lopsided (length shape) structure ≡ false
  pub dimensions : has_zero (leading shape) ≡ false
  pub limits : too_large shape ≡ false
  pub enough : words_needed shape structure ≤ memory

pub open_accepted : (shape structure : List ℕ) (memory : ℕ) → open_cause shape structure memory ≡ 0 → Allowed shape structure memory
unfolding open_cause open_tests
open_accepted shape structure memory e =
    let h = (accepted (open_tests shape structure memory) (open_real shape structure memory)).0 e in
    record {
      ranked = h.0;
      bytes = same_count (length structure) (3 ^ length shape) h.1.0;
      not_lopsided = h.1.1.0;
      dimensions = h.1.1.1.0;
      limits = h.1.1.1.1.0;
      enough = ltb-false memory (words_needed shape structure) h.1.1.1.1.1.0;
    }

pub feed_accepted : (sound : Bool) (left k w cells : ℕ) → feed_cause sound left k w cells ≡ 0 → (sound ≡ true) × (k ≤ left) × (cells ≡ k * w)
unfolding feed_cause feed_tests
feed_accepted sound left k w cells e =
    let h = (accepted (feed_tests sound left k w cells) (feed_real sound left k w cells)).0 e in
    (not-false sound h.0, ltb-false left k h.1.0, same_count cells (k * w) h.1.1.0)

pub accepted_feed : (left k w cells : ℕ) → k ≤ left → cells ≡ k * w → feed_cause true left k w cells ≡ 0
unfolding feed_cause feed_tests first_cause
accepted_feed left k w cells h e = rw (le-ltb left k h, eq-eqb cells (k * w) e)

pub read_accepted : (sound : Bool) (out wanted : ℕ) (fits : Bool) → read_cause sound out wanted fits ≡ 0
    → (sound ≡ true) × (out ≡ wanted) × (fits ≡ true)
unfolding read_cause read_tests
read_accepted sound out wanted fits e =
    let h = (accepted (read_tests sound out wanted fits) (read_real sound out wanted fits)).0 e in
    (not-false sound h.0, same_count out wanted h.1.0, not-false fits h.1.1.0)

-- a reading of exact length into a kind that holds n is accepted
pub accepted_read : (out wanted : ℕ) (fits : Bool) → out ≡ wanted → fits ≡ true → read_cause true out wanted fits ≡ 0
unfolding read_cause read_tests first_cause
accepted_read out wanted fits e h = rw (eq-eqb out wanted e, h)

pub sizes_accepted : (sound : Bool) (out n : ℕ) → sizes_cause sound out n ≡ 0 → (sound ≡ true) × (out ≡ n)
unfolding sizes_cause sizes_tests
sizes_accepted sound out n e =
    let h = (accepted (sizes_tests sound out n) (sizes_real sound out n)).0 e in
    (not-false sound h.0, same_count out n h.1.0)

pub accepted_sizes : (out n : ℕ) → out ≡ n → sizes_cause true out n ≡ 0
unfolding sizes_cause sizes_tests first_cause
accepted_sizes out n e = rw (eq-eqb out n e)

pub widen_accepted : (sound : Bool) (rank : ℕ) (old new : List ℕ) → widen_cause sound rank old new ≡ 0
    → (sound ≡ true) × (length new ≡ 3 ^ rank) × (lopsided rank new ≡ false) × (not_wider rank old new ≡ false)
unfolding widen_cause widen_tests
widen_accepted sound rank old new e =
    let h = (accepted (widen_tests sound rank old new) (widen_real sound rank old new)).0 e in
    (not-false sound h.0, same_count (length new) (3 ^ rank) h.1.0, h.1.1.0, h.1.1.1.0)

-- what is known of a whole frame before anything is written: it opens, and its cells and its output are L × w
module _ (shape structure : List ℕ) (memory cells out : ℕ) (none : frame_cause shape structure memory cells out true ≡ 0) where
  parts : NoneHolds (open_tests shape structure memory) × NoneHolds (rest_tests shape cells out true)
  unfolding frame_cause frame_tests
  parts = none_both (open_tests shape structure memory) (rest_tests shape cells out true)
      ((accepted (frame_tests shape structure memory cells out true) (frame_real shape structure memory cells out true)).0 none)

  pub frame_accepted : (open_cause shape structure memory ≡ 0) × (cells ≡ size shape) × (out ≡ size shape)
  unfolding open_cause
  frame_accepted = (
    (accepted (open_tests shape structure memory) (open_real shape structure memory)).1 parts.0,
    same_count cells (size shape) parts.1.0,
    same_count out (size shape) parts.1.1.0,
  )

  -- and then its cause is a reading's
  pub frame_reads : (fits : Bool) → frame_cause shape structure memory cells out fits ≡ read_cause true out (size shape) fits
  unfolding frame_cause frame_tests read_cause read_tests
  frame_reads fits =
      first_none (open_tests shape structure memory) (rest_tests shape cells out fits) parts.0
      ∙ (unfold first_cause in rw parts.1.0 refl)

-- a cause that is known before then is the cause
first_known : (ts us vs : List Test) (c : ℕ) → first_cause us ≡ 0 → first_cause (ts ++ us) ≡ suc c → first_cause (ts ++ vs) ≡ suc c
unfolding first_cause
first_known [] us vs c z e = absurd (omega arith)
first_known (t ∷ ts) us vs c z e = go t.holds e (first_known ts us vs c z)
  where
    go : (b : Bool) → cond b t.number (first_cause (ts ++ us)) ≡ suc c → (first_cause (ts ++ us) ≡ suc c → first_cause (ts ++ vs) ≡ suc c)
        → cond b t.number (first_cause (ts ++ vs)) ≡ suc c
    go true e i = e
    go false e i = i e

pub frame_known : (shape structure : List ℕ) (memory cells out c : ℕ) (fits : Bool)
    → frame_cause shape structure memory cells out true ≡ suc c → frame_cause shape structure memory cells out fits ≡ suc c
unfolding frame_cause frame_tests open_tests
frame_known shape structure memory cells out c fits e =
    first_known (open_tests shape structure memory ++ when (not (eqb cells (size shape))) 8 ∷ when (not (eqb out (size shape))) 9 ∷ [])
    (when (not true) 10 ∷ []) (when (not fits) 10 ∷ []) c (unfold first_cause in refl) e

-- ---- 6 comes of an unsound record alone

-- no condition that holds has that number
abbrev Without : ℕ → List Test → Type 0
Without c [] = c ≢ 0
Without c (t ∷ ts) = (t.holds ≡ true → t.number ≢ c) × Without c ts

never : (c : ℕ) (ts : List Test) → Without c ts → first_cause ts ≢ c
unfolding first_cause
never c [] w e = w (sym e)
never c (t ∷ ts) w e = go t.holds refl (never c ts w.1) e
  where
    go : (b : Bool) → t.holds ≡ b → first_cause ts ≢ c → cond b t.number (first_cause ts) ≢ c
    go true h i q = w.0 h q
    go false h i q = i q

pub feed_six : (left k w cells : ℕ) → feed_cause true left k w cells ≢ 6
unfolding feed_cause feed_tests
feed_six left k w cells = never 6 (feed_tests true left k w cells)
    ((λ h. absurd (true≢false (sym h))), ((λ h z. omega arith), ((λ h z. omega arith), (λ z. omega arith))))

pub read_six : (out wanted : ℕ) (fits : Bool) → read_cause true out wanted fits ≢ 6
unfolding read_cause read_tests
read_six out wanted fits = never 6 (read_tests true out wanted fits)
    ((λ h. absurd (true≢false (sym h))), ((λ h z. omega arith), ((λ h z. omega arith), (λ z. omega arith))))

pub sizes_six : (out n : ℕ) → sizes_cause true out n ≢ 6
unfolding sizes_cause sizes_tests
sizes_six out n = never 6 (sizes_tests true out n) ((λ h. absurd (true≢false (sym h))), ((λ h z. omega arith), (λ z. omega arith)))

pub widen_six : (rank : ℕ) (old new : List ℕ) → widen_cause true rank old new ≢ 6
unfolding widen_cause widen_tests
widen_six rank old new = never 6 (widen_tests true rank old new)
    ((λ h. absurd (true≢false (sym h))), ((λ h z. omega arith), ((λ h z. omega arith), ((λ h z. omega arith), (λ z. omega arith)))))
