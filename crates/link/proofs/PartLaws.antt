-- The runs' words as a part of the memory: what holds of the part, in the names of the whole; and unions one after another.
-- Assumes nothing.
use mathlib.Core.Path.{◌≡◌, refl, sym, ap, ap₂, ◌∙◌, subst, fun_ext}
use mathlib.Core.Bool.{Bool, true, false}
use mathlib.Core.List.{List, [], ◌++◌, append-nil}
use Prim.Native.Nat.{ℕ, zero, suc, ◌+◌, ◌-◌, ◌≤◌, ◌<◌}
use native.Mathlib.Nat.{le_refl}
use native.Mathlib.Numerals.{add-one}
use native.Mathlib.Omega.{arith}
use borrow.Rule.Slice.PartMut.{put_mid, mid_of, post_of}
use borrow.Author.Tests.{ltb-true, ltb-false}
use lib.Dec.{ltb}
use lib.ListN.{length, get_or, take, drop, length-take, length-drop, drop_of_length-le}
use lib.Seq.{get_or-take, get_or-drop, length-take-le, take_all, take_at, drop_at}
use Rattle.groups.specs.Groups.{Edge, rep, joins, visit}
use Rattle.groups.proofs.RepLaws.{Ends}
use Rattle.frame.specs.Runs.{Run}
use Rattle.frame.specs.Words.{start_at, end_at, parent_at, size_at, line_start, parent_of, size_word, stored_run, NoGroupWord}
use Rattle.forest.specs.Forest.{root_of, grouping, root_sizes, Sums}
use Rattle.forest.specs.Unions.{parent_in, size_in, Sized, Summed, GroupWordsOnly, United}
use Rattle.forest.proofs.UnitedLaws.{united_none, united_then, united_sizes}
use Rattle.sweep.specs.declared.LinePair.{LinePair}
use Rattle.sweep.specs.declared.Nbr.{Nbr}
use Rattle.sweep.specs.Sweeps.{run_in, InOrder, TwoLines, link_pairs}
use Rattle.link.specs.Lines.{LinesReady, UnitedIn, pairs_of, runs_to}

-- the starts of lines in order rise
pub sorted_rise : (L : ℕ) (ws : List ℕ) (ℓ : ℕ)
    → ((m : ℕ) → m ≤ ℓ → InOrder (stored_run L ws) (line_start ws m) (line_start ws (suc m))) → (m k : ℕ) → m ≤ k → k ≤ suc ℓ
    → line_start ws m ≤ line_start ws k
sorted_rise L ws ℓ sorted m zero a b =
    let e : m ≡ 0 = omega arith in subst (λ (x : ℕ). line_start ws x ≤ line_start ws 0) (sym e) (le_refl (line_start ws 0))
sorted_rise L ws ℓ sorted m (suc k) a b = go (ltb k m) refl (sorted_rise L ws ℓ sorted m k)
  where
    go : (t : Bool) → ltb k m ≡ t → (m ≤ k → k ≤ suc ℓ → line_start ws m ≤ line_start ws k) → line_start ws m ≤ line_start ws (suc k)
    go true t below =
        let l = ltb-true k m t in
        let e : m ≡ suc k = omega arith in subst (λ (x : ℕ). line_start ws m ≤ line_start ws x) e (le_refl (line_start ws m))
    go false t below = let l = ltb-false k m t in let i = below l (omega arith) in let u = (sorted k (omega arith)).upto in omega arith

-- ---- the part

module _ (L : ℕ) (ws : List ℕ) where
  part_word : (i : ℕ) → get_or (drop (L + 1) ws) i 0 ≡ get_or ws (L + 1 + i) 0
  part_word i = get_or-drop (L + 1) ws i 0

  pub part_parents : parent_in (drop (L + 1) ws) ≡ parent_of L ws
  part_parents = fun_ext (λ r. part_word (parent_at r))

  pub part_sizes : size_in (drop (L + 1) ws) ≡ size_word L ws
  part_sizes = fun_ext (λ r. part_word (size_at r))

  -- sizes that are sums over groups are so of the part, and back
  pub to_part : (v : ℕ → ℕ) (n : ℕ) → Sums (root_of (parent_of L ws)) (size_word L ws) v n → Summed (drop (L + 1) ws) n v
  to_part v n S = subst (λ (f : ℕ → ℕ). Sums (root_of f) (size_in (drop (L + 1) ws)) v n) (sym part_parents)
      (subst (λ (g : ℕ → ℕ). Sums (root_of (parent_of L ws)) g v n) (sym part_sizes) S)

  pub from_part : (v : ℕ → ℕ) (n : ℕ) → Summed (drop (L + 1) ws) n v → Sums (root_of (parent_of L ws)) (size_word L ws) v n
  from_part v n S = subst (λ (f : ℕ → ℕ). Sums (root_of f) (size_word L ws) v n) part_parents
      (subst (λ (g : ℕ → ℕ). Sums (root_of (parent_in (drop (L + 1) ws))) g v n) part_sizes S)

  pub part_runs : run_in (drop (L + 1) ws) ≡ stored_run L ws
  part_runs = fun_ext (λ r. ap₂ (λ (s : ℕ) (e : ℕ). record { start = s; end = e }) (part_word (start_at r)) (part_word (end_at r)))

  -- lines that are ready, as a part
  module _ (ℓ : ℕ) (R : LinesReady L ws ℓ) where
    pub part_ready : Sized (drop (L + 1) ws) (runs_to ws ℓ)
    part_ready = record {
      parents = record {
        room = omega (arith, R.room, length-drop (L + 1) ws);
        low = λ r h. subst (λ (f : ℕ → ℕ). f r ≤ r) (sym part_parents) (R.parents r h);
      };
      small = rw (part_parents, part_sizes) R.small;
    }

    pub starts_rise : (m k : ℕ) → m ≤ k → k ≤ suc ℓ → line_start ws m ≤ line_start ws k
    starts_rise = sorted_rise L ws ℓ R.sorted

    -- two of them, to be linked
    pub part_lines : (m : ℕ) → m < ℓ
        → TwoLines (drop (L + 1) ws) (record {
          ca = line_start ws ℓ;
          cb = line_start ws (suc ℓ);
          na = line_start ws m;
          nb = line_start ws
              (suc m);
        })
    part_lines m h = record {
      sized = part_ready;
      current = subst (λ (f : ℕ → Run). InOrder f (line_start ws ℓ) (line_start ws (suc ℓ))) (sym part_runs) (R.sorted ℓ (le_refl ℓ));
      neighbour = subst (λ (f : ℕ → Run). InOrder f (line_start ws m) (line_start ws (suc m))) (sym part_runs) (R.sorted m (omega arith));
      before = starts_rise (suc m) (suc ℓ) (omega arith) (omega arith);
    }

-- ---- the part lent to `sweep::link`, and handed back

-- `&mut words[a..]`, and the words once it is back
pub tail_mid : (a : ℕ) (ws : List ℕ) → mid_of a (length ws - a) ws ≡ drop a ws
tail_mid a ws = take_all (length ws - a) (drop a ws) (simp length-drop (omega arith))

pub tail_put : (a : ℕ) (ws p : List ℕ) → a ≤ length ws → put_mid a (length ws - a) ws p ≡ take a ws ++ p
tail_put a ws p h =
    let e : post_of a (length ws - a) ws ≡ [] = drop_of_length-le (drop a ws) {i = length ws - a} (simp length-drop (omega arith)) in
    ap (λ (r : List ℕ). take a ws ++ (p ++ r)) e ∙ ap (λ (r : List ℕ). take a ws ++ r) (append-nil p)

module _ (L : ℕ) (ws : List ℕ) (ℓ m : ℕ) (R : LinesReady L ws ℓ) (h : m < ℓ) where
  abbrev lent : List ℕ
  lent = mid_of (L + 1) (length ws - (L + 1)) ws

  -- the runs' numbers as they are read
  abbrev pub at : LinePair
  at = record { ca = get_or ws ℓ 0; cb = get_or ws (ℓ + 1) 0; na = get_or ws m 0; nb = get_or ws (m + 1) 0 }

  pub lent_lines : TwoLines (mid_of (L + 1) (length ws - (L + 1)) ws) at
  lent_lines = rw (tail_mid (L + 1) ws, add-one ℓ, add-one m) (part_lines L ws ℓ R m h)

  pub lent_back : (by : Nbr) (p : List ℕ) (t : ℕ)
      → United (mid_of (L + 1) (length ws - (L + 1)) ws) p (get_or ws (ℓ + 1) 0)
      (link_pairs by (run_in (mid_of (L + 1) (length ws - (L + 1)) ws)) at) t
      → UnitedIn L ws (put_mid (L + 1) (length ws - (L + 1)) ws p) (runs_to ws ℓ) (pairs_of L ws ℓ m by) t
  lent_back by p t U =
      subst (λ (vs : List ℕ). UnitedIn L ws vs (runs_to ws ℓ) (pairs_of L ws ℓ m by) t) (sym (tail_put (L + 1) ws p (omega (arith, R.room))))
      (record {
        starts = take_at (take (L + 1) ws) p (L + 1) front;
        runs = rw (drop_at (take (L + 1) ws) p (L + 1) front) there;
      })
    where
      front : length (take (L + 1) ws) ≡ L + 1
      front = length-take-le (L + 1) ws (omega (arith, R.room))

      lines : LinePair
      lines = record { ca = line_start ws ℓ; cb = line_start ws (suc ℓ); na = line_start ws m; nb = line_start ws (suc m) }

      plain : United (drop (L + 1) ws) p (line_start ws (suc ℓ)) (link_pairs by (run_in (drop (L + 1) ws)) lines) t
      plain = rw (← tail_mid (L + 1) ws, ← add-one ℓ, ← add-one m) U

      there : United (drop (L + 1) ws) p (runs_to ws ℓ) (pairs_of L ws ℓ m by) t
      there = subst (λ (f : ℕ → Run). United (drop (L + 1) ws) p (runs_to ws ℓ) (link_pairs by f lines) t) (part_runs L ws) plain

-- ---- unions in the part, and what they leave

module _ (L : ℕ) (ws ws' : List ℕ) (n : ℕ) (es : List Edge) (t : ℕ) (E : UnitedIn L ws ws' n es t) where
  abbrev kept : GroupWordsOnly (drop (L + 1) ws) (drop (L + 1) ws') n
  kept = E.runs.kept

  pub in_start : (ℓ : ℕ) → ℓ ≤ L → line_start ws' ℓ ≡ line_start ws ℓ
  in_start ℓ h =
      sym (get_or-take (L + 1) ws' ℓ 0 (omega arith)) ∙ ap (λ (l : List ℕ). get_or l ℓ 0) E.starts ∙ get_or-take (L + 1) ws ℓ 0 (omega arith)

  pub in_others : (j : ℕ) → NoGroupWord L n j → get_or ws' j 0 ≡ get_or ws j 0
  in_others j h = go (ltb j (L + 1)) refl
    where
      go : (b : Bool) → ltb j (L + 1) ≡ b → get_or ws' j 0 ≡ get_or ws j 0
      go true e = in_start j (let l = ltb-true j (L + 1) e in omega arith)
      go false e =
          let l = ltb-false j (L + 1) e in
          let is-j : L + 1 + (j - (L + 1)) ≡ j = omega arith in
          let k : get_or (drop (L + 1) ws') (j - (L + 1)) 0 ≡ get_or (drop (L + 1) ws) (j - (L + 1)) 0 = kept.others (j - (L + 1))
          (λ r b. (λ q. (h r b).0 (omega arith), λ q. (h r b).1 (omega arith))) in
          subst (λ (x : ℕ). get_or ws' x 0 ≡ get_or ws x 0) is-j (sym (part_word L ws' (j - (L + 1))) ∙ k ∙ part_word L ws (j - (L + 1)))

  pub in_parents : (r : ℕ) → r < n → parent_of L ws' r ≤ r
  in_parents r h = subst (λ (f : ℕ → ℕ). f r ≤ r) (part_parents L ws') (kept.low r h)

  pub in_grouped : (r : ℕ) → r < n → root_of (parent_of L ws') r ≡ rep (visit es (grouping (parent_of L ws) n)) r
  in_grouped r h = subst (λ (f : ℕ → ℕ). root_of f r ≡ rep (visit es (grouping (parent_of L ws) n)) r) (part_parents L ws')
      (subst (λ (f : ℕ → ℕ). root_of (parent_in (drop (L + 1) ws')) r ≡ rep (visit es (grouping f n)) r) (part_parents L ws)
      (E.runs.grouped r h))

  pub in_counted : t + joins (grouping (parent_of L ws) n) ≡ joins (visit es (grouping (parent_of L ws) n))
  in_counted = subst (λ (f : ℕ → ℕ). t + joins (grouping f n) ≡ joins (visit es (grouping f n))) (part_parents L ws) E.runs.counted

  pub in_sized : (v : ℕ → ℕ) → Sums (root_of (parent_of L ws)) (size_word L ws) v n → Sums (root_of (parent_of L ws')) (size_word L ws') v n
  in_sized v S = from_part L ws' v n (E.runs.sized v (to_part L ws v n S))

  -- starts and ends stand
  pub in_runs : stored_run L ws' ≡ stored_run L ws
  in_runs = fun_ext (λ r. ap₂ (λ (s : ℕ) (e : ℕ). record { start = s; end = e })
      (in_others (L + 1 + start_at r) (λ x h. (omega arith, omega arith)))
      (in_others (L + 1 + end_at r) (λ x h. (omega arith, omega arith))))

  module _ (big : L + 1 ≤ length ws) where
    pub in_long : length ws' ≡ length ws
    in_long = omega (
      arith,
      big,
      ap length E.starts,
      kept.long,
      length-take (L + 1) ws,
      length-take (L + 1) ws',
      length-drop (L + 1) ws,
      length-drop (L + 1) ws',
    )

-- ---- one after another

module _ (L : ℕ) (ws : List ℕ) (ℓ : ℕ) (R : LinesReady L ws ℓ) where
  pub in_none : UnitedIn L ws ws (runs_to ws ℓ) [] 0
  in_none = record { starts = refl; runs = united_none (drop (L + 1) ws) (runs_to ws ℓ) (part_ready L ws ℓ R).parents }

  -- after unions the lines are as ready as before
  module _ (ws' : List ℕ) (es : List Edge) (t : ℕ) (E : UnitedIn L ws ws' (runs_to ws ℓ) es t) where
    same_start : (m : ℕ) → m ≤ suc ℓ → line_start ws' m ≡ line_start ws m
    same_start m h = in_start L ws ws' (runs_to ws ℓ) es t E m (let w = R.within in omega arith)

    sizes_stand : root_sizes (parent_of L ws') (size_word L ws') (runs_to ws ℓ) ≡ root_sizes (parent_of L ws) (size_word L ws) (runs_to ws ℓ)
    sizes_stand = rw (← part_parents L ws', ← part_sizes L ws', ← part_parents L ws, ← part_sizes L ws)
        (united_sizes (drop (L + 1) ws) (runs_to ws ℓ) (part_ready L ws ℓ R).parents (drop (L + 1) ws') es t E.runs)

    pub in_ready : LinesReady L ws' ℓ
    in_ready = record {
      within = R.within;
      room = rw (same_start (suc ℓ) (le_refl (suc ℓ)), in_long L ws ws' (runs_to ws ℓ) es t E (omega (arith, R.room))) R.room;
      sorted =
          λ m h. rw (same_start m (omega arith), same_start (suc m) (omega arith), in_runs L ws ws' (runs_to ws ℓ) es t E) (R.sorted m h);
      parents = λ r h. in_parents L ws ws' (runs_to ws ℓ) es t E r (subst (λ (x : ℕ). r < x) (same_start (suc ℓ) (le_refl (suc ℓ))) h);
      small = rw (same_start (suc ℓ) (le_refl (suc ℓ)), sizes_stand) R.small;
    }

    pub in_then : Ends (λ r. r < runs_to ws ℓ) es → (vs : List ℕ) (fs : List Edge) (u : ℕ) → UnitedIn L ws' vs (runs_to ws' ℓ) fs u
        → UnitedIn L ws vs (runs_to ws ℓ) (es ++ fs) (t + u)
    in_then w vs fs u F = record {
      starts = F.starts ∙ E.starts;
      runs = united_then (drop (L + 1) ws) (runs_to ws ℓ) (part_ready L ws ℓ R).parents
          (drop (L + 1) ws') es t w E.runs (drop (L + 1) vs) fs u
          (subst (λ (x : ℕ). United (drop (L + 1) ws') (drop (L + 1) vs) x fs u) (same_start (suc ℓ) (le_refl (suc ℓ))) F.runs);
    }
