-- The new lines' runs as groups of their own: what the lent part tells of the whole words, and what stands.
-- Assumes nothing.
use mathlib.Core.Path.{◌≡◌, refl, sym, ap₂, ◌∙◌, subst, fun_ext}
use mathlib.Core.Logic.{◌≢◌}
use mathlib.Core.Bool.{Bool, true, false}
use mathlib.Core.List.{List, ◌++◌}
use Prim.Native.Nat.{ℕ, ◌+◌, ◌-◌, ◌*◌, ◌≤◌, ◌<◌}
use native.Mathlib.Omega.{arith}
use borrow.Rule.Slice.PartMut.{put_mid, mid_of}
use borrow.Author.Tests.{ltb-true, ltb-false}
use lib.Dec.{ltb}
use lib.ListN.{length, get_or, take, drop, length-take, length-drop, length-append, get_or-append}
use lib.Seq.{get_or-take, get_or-drop, get_or-append-add, length-take-le}
use Rattle.frame.specs.Memory.{stride}
use Rattle.frame.specs.Words.{start_at, end_at, parent_at, size_at, start_place, end_place, parent_place, size_place, line_start, stored_run}
use Rattle.forest.specs.Unions.{ToReset, Reset}
use Rattle.link.proofs.PartLaws.{tail_mid, tail_put}
use Rattle.block.specs.Blocks.{ResetReady, ResetIn}

-- ---- the part lent to `reset`, and handed back

module _ (L : ℕ) (ws : List ℕ) (fed k : ℕ) (R : ResetReady L ws fed k) where
  reset_room : stride * line_start ws (fed + k) ≤ length (mid_of (L + 1) (length ws - (L + 1)) ws)
  reset_room = omega (arith, R.room, length-take (length ws - (L + 1)) (drop (L + 1) ws), length-drop (L + 1) ws)

  pub reset_asked : line_start ws (fed + k) ≤ 4294967296
      → ToReset (mid_of (L + 1) (length ws - (L + 1)) ws) (get_or ws fed 0) (get_or ws (fed + k) 0)
  reset_asked few = record {
    room = reset_room;
    few = few;
    upward = λ r a b. rw (tail_mid (L + 1) ws, get_or-drop (L + 1) ws (start_at r) 0, get_or-drop (L + 1) ws (end_at r) 0) (R.upward r a b);
  }

  module _ (p : List ℕ) (X : Reset (mid_of (L + 1) (length ws - (L + 1)) ws) p (get_or ws fed 0) (get_or ws (fed + k) 0)) where
    plain : Reset (drop (L + 1) ws) p (line_start ws fed) (line_start ws (fed + k))
    plain = rw (← tail_mid (L + 1) ws) X

    front : length (take (L + 1) ws) ≡ L + 1
    front = length-take-le (L + 1) ws (omega (arith, R.room))

    -- the words then, before the runs' words and from there on
    low : (j : ℕ) → j < L + 1 → get_or (take (L + 1) ws ++ p) j 0 ≡ get_or ws j 0
    low j h = get_or-append (take (L + 1) ws) p 0 j (omega (arith, front)) ∙ get_or-take (L + 1) ws j 0 h

    high : (i : ℕ) → get_or (take (L + 1) ws ++ p) (L + 1 + i) 0 ≡ get_or p i 0
    high i = subst (λ (x : ℕ). get_or (take (L + 1) ws ++ p) (x + i) 0 ≡ get_or p i 0) front (get_or-append-add (take (L + 1) ws) p i 0)

    reset_joined : ResetIn L ws (take (L + 1) ws ++ p) fed k
    reset_joined = record {
      long = omega (arith, length-append (take (L + 1) ws) p, front, plain.long, length-drop (L + 1) ws, R.room);
      own = λ r a b. high (parent_at r) ∙ plain.own r a b;
      sizes =
          λ r a b. high (size_at r) ∙ plain.sizes r a b
          ∙ ap₂ (λ (x : ℕ) (y : ℕ). x - y) (get_or-drop (L + 1) ws (end_at r) 0) (get_or-drop (L + 1) ws (start_at r) 0);
      others = λ j o. go j o (ltb j (L + 1)) refl;
    }
      where
        go : (j : ℕ) → ((r : ℕ) → line_start ws fed ≤ r → r < line_start ws (fed + k) → (j ≢ parent_place L r) × (j ≢ size_place L r))
            → (t : Bool) → ltb j (L + 1) ≡ t → get_or (take (L + 1) ws ++ p) j 0 ≡ get_or ws j 0
        go j o true t = low j (ltb-true j (L + 1) t)
        go j o false t =
            let l = ltb-false j (L + 1) t in
            let e : L + 1 + (j - (L + 1)) ≡ j = omega arith in
            subst (λ (x : ℕ). get_or (take (L + 1) ws ++ p) x 0 ≡ get_or ws x 0) e
            (high (j - (L + 1)) ∙ plain.others (j - (L + 1)) (λ r a b. (λ q. (o r a b).0 (omega arith), λ q. (o r a b).1 (omega arith)))
            ∙ get_or-drop (L + 1) ws (j - (L + 1)) 0)

    pub reset_back : ResetIn L ws (put_mid (L + 1) (length ws - (L + 1)) ws p) fed k
    reset_back = subst (λ (vs : List ℕ). ResetIn L ws vs fed k) (sym (tail_put (L + 1) ws p (omega (arith, R.room)))) reset_joined

-- ---- what stands

module _ (L : ℕ) (ws ws' : List ℕ) (fed k : ℕ) (X : ResetIn L ws ws' fed k) where
  pub reset_start : (ℓ : ℕ) → ℓ ≤ L → line_start ws' ℓ ≡ line_start ws ℓ
  reset_start ℓ h = X.others ℓ (λ r a b. (omega arith, omega arith))

  pub reset_runs : stored_run L ws' ≡ stored_run L ws
  reset_runs = fun_ext (λ r. ap₂ (λ (s : ℕ) (e : ℕ). record { start = s; end = e })
      (X.others (start_place L r) (λ x a b. (omega arith, omega arith)))
      (X.others (end_place L r) (λ x a b. (omega arith, omega arith))))

  -- the same of the runs' words, as a part
  pub reset_part : Reset (drop (L + 1) ws) (drop (L + 1) ws') (line_start ws fed) (line_start ws (fed + k))
  reset_part = record {
    long = omega (arith, X.long, length-drop (L + 1) ws, length-drop (L + 1) ws');
    own = λ r a b. get_or-drop (L + 1) ws' (parent_at r) 0 ∙ X.own r a b;
    sizes =
        λ r a b. get_or-drop (L + 1) ws' (size_at r) 0 ∙ X.sizes r a b
        ∙ sym (ap₂ (λ (x : ℕ) (y : ℕ). x - y) (get_or-drop (L + 1) ws (end_at r) 0) (get_or-drop (L + 1) ws (start_at r) 0));
    others =
        λ j o. get_or-drop (L + 1) ws' j 0
        ∙ X.others (L + 1 + j) (λ r a b. (λ e. (o r a b).0 (omega arith), λ e. (o r a b).1 (omega arith))) ∙ sym (get_or-drop (L + 1) ws j 0);
  }
