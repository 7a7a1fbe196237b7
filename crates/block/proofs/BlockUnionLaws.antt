-- The union of a block: from the words before the reset to those after the last line.
-- Assumes nothing.
use mathlib.Core.Path.{◌≡◌, refl, sym, ap, ◌∙◌, subst}
use mathlib.Core.Logic.{◌≢◌}
use mathlib.Core.Bool.{Bool, true, false}
use mathlib.Core.List.{List, []}
use Prim.Native.Nat.{ℕ, zero, suc, ◌+◌, ◌-◌, ◌*◌, ◌≤◌, ◌<◌}
use native.Mathlib.Nat.{le_refl}
use native.Mathlib.Omega.{arith}
use borrow.Author.Tests.{ltb-true, ltb-false}
use lib.Dec.{ltb}
use lib.ListN.{length, drop, length-drop}
use Rattle.groups.specs.Groups.{Edge, gather, rep, joins, visit}
use Rattle.groups.proofs.VisitLaws.{rep_over, joins_over}
use Rattle.frame.specs.Memory.{stride}
use Rattle.frame.specs.Runs.{Run, run_length}
use Rattle.frame.specs.Words.{parent_place, line_start, run_start, run_end, parent_of, size_word, stored_run}
use Rattle.frame.specs.Touches.{touches}
use Rattle.forest.specs.Forest.{root_of, grouping, root_sizes, Sums}
use Rattle.forest.specs.Unions.{parent_in, Parents}
use Rattle.forest.proofs.ForestLaws.{grouping_rep}
use Rattle.forest.proofs.SizeLaws.{sums_total, brought_new, brought_sums}
use Rattle.forest.proofs.ResetLaws.{reset_grouping, reset_sized}
use Rattle.geo.specs.declared.Geo.{Geo}
use Rattle.geo.specs.Geometry.{leading_of}
use Rattle.link.specs.Lines.{runs_to, LineReady, UnitedIn, touches_in}
use Rattle.link.proofs.PartLaws.{sorted_rise, part_parents, part_runs, to_part, from_part}
use Rattle.link.proofs.PartLaws.{in_others, in_parents, in_grouped, in_counted, in_sized, in_long}
use Rattle.link.proofs.TouchByLaws.{leading_size}
use Rattle.block.specs.Blocks.{brought_in, BlockReady, BlockUnited, ResetReady, ResetIn, touches_from}
use Rattle.block.proofs.BlockResetLaws.{reset_start, reset_runs, reset_part}
use Rattle.block.proofs.LineUnionLaws.{touches_stand, Going, going_none, going_few, going_ready, going_then}

module _ (g : Geo) {structure ws : List ℕ} {fed k : ℕ} (R : BlockReady g.leads g.dims g.lines structure ws fed k) where
  abbrev n : ℕ
  n = g.leads

  abbrev dims : List ℕ
  dims = g.dims

  abbrev L : ℕ
  L = g.lines

  abbrev a : ℕ
  a = line_start ws fed

  abbrev b : ℕ
  b = line_start ws (fed + k)

  -- what each run brings to its group
  abbrev brings : ℕ → ℕ
  brings = brought_in L ws fed

  -- no line
  pub block_idle : k ≡ 0 → BlockUnited n dims L structure ws ws fed k 0
  block_idle e =
      let f : fed + k ≡ fed = omega arith in
      let same : b ≡ a = ap (line_start ws) f in
      let z : touches_from n dims L structure ws fed k ≡ [] = subst (λ (x : ℕ). touches_from n dims L structure ws fed x ≡ []) (sym e)
      (unfold touches gather in refl) in
      let v : visit (touches_from n dims L structure ws fed k) (grouping (parent_of L ws) a) ≡ grouping (parent_of L ws) a =
      ap (λ (es : List Edge). visit es (grouping (parent_of L ws) a)) z ∙ (unfold visit in refl) in
      record {
        long = refl;
        others = λ j o. refl;
        parents = λ r h. R.parents r (omega arith);
        grouped = λ r h. sym (ap (λ (es : List Edge). rep es r) v ∙ grouping_rep (parent_of L ws) a R.parents r (omega arith));
        counted = omega (arith, ap joins v);
        sized = subst (λ (x : ℕ). Sums (root_of (parent_of L ws)) (size_word L ws) brings x) (sym same)
            (brought_sums a (parent_of L ws) (size_word L ws) (λ r. run_length (stored_run L ws r)) R.parents);
        no_lines = λ q. refl;
      }

  -- no new run ends before it starts
  upward : (i : ℕ) → i ≤ k → (r : ℕ) → line_start ws fed ≤ r → r < line_start ws (fed + i) → run_start L ws r ≤ run_end L ws r
  upward zero h r c d = let e : fed + 0 ≡ fed = omega arith in absurd (omega (arith, ap (line_start ws) e))
  upward (suc i) h r c d = go (ltb r (line_start ws (fed + i))) refl (upward i (omega arith) r c)
    where
      e : fed + suc i ≡ suc (fed + i)
      e = omega arith

      go : (t : Bool) → ltb r (line_start ws (fed + i)) ≡ t → (r < line_start ws (fed + i) → run_start L ws r ≤ run_end L ws r)
          → run_start L ws r ≤ run_end L ws r
      go true t below = below (ltb-true _ _ t)
      go false t below = omega (
        arith,
        (R.sorted (fed + i) (omega arith)).nonempty r (ltb-false _ _ t) (subst (λ (x : ℕ). r < line_start ws x) e d),
      )

  pub reset_may : ResetReady L ws fed k
  reset_may = record { within = R.within; room = R.room; upward = upward k (le_refl k) }

  -- some
  module _ {ws' : List ℕ} (X : ResetIn L ws ws' fed k) (some : k ≢ 0) where
    abbrev last : ℕ
    last = fed + k - 1

    end_start : line_start ws' (suc (fed + k - 1)) ≡ line_start ws (fed + k)
    end_start =
        let e : suc (fed + k - 1) ≡ fed + k = omega arith in ap (line_start ws') e ∙ reset_start L ws ws' fed k X (fed + k) R.within

    low : (r : ℕ) → r < b → parent_of L ws' r ≤ r
    low r h = go (ltb r a) refl
      where
        go : (t : Bool) → ltb r a ≡ t → parent_of L ws' r ≤ r
        go true t = let l = ltb-true r a t in omega (
          arith,
          X.others (parent_place L r) (λ x c d. (omega arith, omega arith)),
          R.parents r l,
        )
        go false t = omega (arith, X.own r (ltb-false r a t) h)

    upto : a ≤ b
    upto =
        let e : suc last ≡ fed + k = omega arith in
        subst (λ (x : ℕ). a ≤ line_start ws x) e
        (sorted_rise L ws last (λ m h. R.sorted m (omega arith)) fed (suc last) (omega arith) (le_refl (suc last)))

    P : Parents (drop (L + 1) ws) a
    P = record {
      room = omega (arith, length-drop (L + 1) ws, R.room, upto);
      low = λ r h. subst (λ (f : ℕ → ℕ). f r ≤ r) (sym (part_parents L ws)) (R.parents r h);
    }

    room : stride * b ≤ length (drop (L + 1) ws)
    room = omega (arith, length-drop (L + 1) ws, R.room)

    stands : Parents (drop (L + 1) ws') b × ((r : ℕ) → rep (grouping (parent_in (drop (L + 1) ws')) b) r ≡ rep
        (grouping (parent_in (drop (L + 1) ws)) a) r)
        × (joins (grouping (parent_in (drop (L + 1) ws')) b) ≡ joins (grouping (parent_in (drop (L + 1) ws)) a))
    stands = reset_grouping (drop (L + 1) ws) (drop (L + 1) ws') a b P room upto (reset_part L ws ws' fed k X)

    -- after the reset each root's size is the sum of what its group's runs bring
    reset_sums : Sums (root_of (parent_of L ws')) (size_word L ws') brings b
    reset_sums = from_part L ws' brings b
        (reset_sized (drop (L + 1) ws) (drop (L + 1) ws') a b P room upto (reset_part L ws ws' fed k X) brings
        (to_part L ws brings a (brought_sums a (parent_of L ws) (size_word L ws) (λ r. run_length (stored_run L ws r)) R.parents))
        (λ r c d. brought_new a (parent_of L ws) (size_word L ws) (λ r. run_length (stored_run L ws r)) r c
        ∙ ap (λ (f : ℕ → Run). run_length (f r)) (sym (part_runs L ws))))

    -- so a word holds the sum of the sizes
    reset_small : root_sizes (parent_of L ws') (size_word L ws') b < 4294967296
    reset_small = omega (arith, sums_total (parent_of L ws') (size_word L ws') b low brings reset_sums, R.small)

    reset_ready : LineReady g structure ws' (fed + k - 1)
    reset_ready = record {
      leading = R.leading;
      bytes = R.bytes;
      lines = record {
        within = omega (arith, R.within);
        room = omega (arith, end_start, X.long, R.room);
        sorted = λ m h. rw (
          reset_start L ws ws' fed k X m (omega (arith, R.within)),
          reset_start L ws ws' fed k X (suc m) (omega (arith, R.within)),
          reset_runs L ws ws' fed k X,
        ) (R.sorted m (omega arith));
        parents = λ r h. low r (omega (arith, end_start));
        small = rw end_start reset_small;
      };
    }

    reset_own : (r : ℕ) → line_start ws' fed ≤ r → r < runs_to ws' (fed + k - 1) → parent_of L ws' r ≡ r
    reset_own r c d = X.own r (omega (arith, reset_start L ws ws' fed k X fed (omega (arith, R.within)))) (omega (arith, end_start))

    same_rep : (r : ℕ) → rep (grouping (parent_of L ws') b) r ≡ rep (grouping (parent_of L ws) a) r
    same_rep r = subst (λ (f : ℕ → ℕ). rep (grouping f b) r ≡ rep (grouping (parent_of L ws) a) r) (part_parents L ws')
        (subst (λ (f : ℕ → ℕ). rep (grouping (parent_in (drop (L + 1) ws')) b) r ≡ rep (grouping f a) r) (part_parents L ws) (stands.1 r))

    -- the loop over the lines
    module _ (three : length dims ≡ 3) where
      pub block_begin : Going n dims L structure ws' fed last 0 ws' 0
      block_begin = going_none g structure ws' fed last reset_ready three reset_own

      module _ {i : ℕ} (h : i < k) {now : List ℕ} {t : ℕ} (G : Going n dims L structure ws' fed last i now t) where
        pub block_line : LineReady g structure now (fed + i)
        block_line = going_ready g structure ws' fed last reset_ready three i (omega arith) now t G (omega arith)

        module _ {next : List ℕ} {u : ℕ} (F : UnitedIn L now next (runs_to now (fed + i)) (touches_in g structure now (fed + i)) u) where
          pub block_turn : Going n dims L structure ws' fed last (i + 1) next (t + u)
          block_turn = going_then g structure ws' fed last reset_ready three i (omega arith) now t G (omega arith) next u F

          -- there are no more joins than words
          pub block_joins : t + u ≤ length ws
          block_joins =
              omega (arith, going_few g structure ws' fed last reset_ready three (i + 1) (omega arith) next (t + u) block_turn, end_start, R.room)

    -- all of them are united
    module _ (three : length dims ≡ 3) {i : ℕ} (h : i ≤ k) (l : k ≤ i) {end : List ℕ} {t : ℕ}
        (G : Going n dims L structure ws' fed (fed + k - 1) i end t) where
      es_same : touches_from n dims L structure ws' fed i ≡ touches_from n dims L structure ws fed k
      es_same =
          let e : i ≡ k = omega arith in
          ap (touches_from n dims L structure ws' fed) e
          ∙ touches_stand (leading_of n dims) structure (line_start ws') (line_start ws) (stored_run L ws') (stored_run L ws) L
          (reset_start L ws ws' fed k X) (reset_runs L ws ws' fed k X)
          (omega (arith, leading_size n dims L R.leading three)) fed k R.within

      abbrev es : List Edge
      es = touches_from n dims L structure ws fed k

      E : UnitedIn L ws' end b es t
      E = subst (λ (x : ℕ). UnitedIn L ws' end x es t) end_start
          (subst (λ (l : List Edge). UnitedIn L ws' end (runs_to ws' last) l t) es_same G.united)

      pub block_united : BlockUnited n dims L structure ws end fed k t
      block_united = record {
        long = in_long L ws' end b es t E (omega (arith, X.long, R.room)) ∙ X.long;
        others = λ j o. in_others L ws' end b es t E j o ∙ X.others j (λ r c d. o r d);
        parents = in_parents L ws' end b es t E;
        grouped =
            λ r h. in_grouped L ws' end b es t E r h ∙ rep_over es (grouping (parent_of L ws') b) (grouping (parent_of L ws) a) same_rep r;
        counted = omega (
          arith,
          in_counted L ws' end b es t E,
          joins_over es (grouping (parent_of L ws') b) (grouping (parent_of L ws) a) same_rep,
        );
        sized = in_sized L ws' end b es t E brings reset_sums;
        no_lines = λ e. absurd (omega arith);
      }
