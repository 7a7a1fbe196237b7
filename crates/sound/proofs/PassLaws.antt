-- What the passes find decides whether the words are sound.
-- Assumes nothing.
use Rattle.std.proofs.Common.{◌≡◌, ℕ, zero, suc, ◌+◌, ◌-◌, ◌*◌, ◌<◌, ◌≤◌, Bool, true, false, not, ◌&&◌, ◌||◌, eqb, ltb, leb, List, sym, refl, ap, ◌∙◌, true≢false, le_refl, mul-le-mul_right, arith, ltb-false, le-ltb, eq-eqb, eqb-true, leb-false}
use borrow.Author.Tests.{lt-leb}
use Rattle.groups.specs.Groups.{count}
use Rattle.groups.proofs.BoolLaws.{or_left, or_right, bool_same, or_false}
use Rattle.groups.proofs.CountLaws.{count_none}
use Rattle.frame.specs.declared.Figures.{Figures}
use Rattle.frame.specs.Runs.{Run, gap_of, run_lengths}
use Rattle.frame.specs.Memory.{most_runs}
use Rattle.frame.specs.Words.{line_start, parent_of, stored_run}
use Rattle.forest.proofs.ForestLaws.{roots_others}
use Rattle.std.proofs.Common.{Option, Some, None}
use Rattle.sound.specs.declared.Runs.{Runs}
use Rattle.sound.specs.Stored.{WordsSound, words_sound, PassReady}
use Rattle.sound.specs.Passes.{falls, first_falls, LinesSound, LinesFound, wrong_run, Nonempty, RunsFound}
use Rattle.sound.proofs.FallLaws.{count_stays, stays_none, same_others, others_same}
use Rattle.sound.proofs.LineLaws.{Ordered, within, line_few, line_lengths, starts_rise, by_lines, all_few, all_lengths}
use Rattle.sound.proofs.LineLaws.{lengths_single, single_lengths}
use Rattle.sound.proofs.StoredLaws.{words_right, right_words}

-- six tests joined by `and`
and₆ : (a b c d e f : Bool) → (((((a && b) && c) && d) && e) && f) ≡ true
    → (a ≡ true) × (b ≡ true) × (c ≡ true) × (d ≡ true) × (e ≡ true) × (f ≡ true)
and₆ true true true true true f h = (refl, refl, refl, refl, refl, h)
and₆ true true true true false f h = absurd (true≢false (sym h))
and₆ true true true false e f h = absurd (true≢false (sym h))
and₆ true true false d e f h = absurd (true≢false (sym h))
and₆ true false c d e f h = absurd (true≢false (sym h))
and₆ false b c d e f h = absurd (true≢false (sym h))

module _ (L w : ℕ) (left : Bool) (fed : ℕ) (figures : Figures) (ws : List ℕ) where
  abbrev runs : ℕ
  runs = figures.runs

  abbrev first : ℕ → ℕ
  first = line_start ws

  abbrev run : ℕ → Run
  run = stored_run L ws

  abbrev falling : ℕ → Bool
  falling = falls left run

  abbrev parent : ℕ → ℕ
  parent = parent_of L ws

  abbrev Words : Type 0
  Words = WordsSound L w left fed figures ws

  abbrev test : Bool
  test = words_sound L w left fed figures ws

  refused : (Words → ⊥) → false ≡ test
  refused h = go test refl
    where
      go : (t : Bool) → test ≡ t → false ≡ t
      go true t = absurd (h (words_right L w left fed figures ws t))
      go false t = refl

  -- the test before the passes, with the most runs of a line as the code has it
  pub start_wrong : {most : ℕ} → most ≡ most_runs left w → (not (eqb (first 0) 0) || ltb (fed * most) runs) ≡ true → false ≡ test
  start_wrong {most} is-most t = refused (λ W. true≢false (sym t ∙ right W))
    where
      right : Words → (not (eqb (first 0) 0) || ltb (fed * most) runs) ≡ false
      right W =
          let few = all_few first (most_runs left w) fed W.first W.room in
          simp (eq-eqb (first 0) 0 W.first, le-ltb (fed * most) runs (omega (arith, W.last, ap (λ (x : ℕ). fed * x) is-most))) refl

  -- every line is in order
  abbrev InOrder : Type 0
  InOrder = (ℓ : ℕ) → ℓ < fed → Ordered run left (first ℓ) (first (suc ℓ))

  words_lines : Words → LinesSound L ws w fed runs
  words_lines W = record {
    rising = W.rising;
    last = W.last;
    inside = λ ℓ l r m e. W.inside r (omega (arith, starts_rise first fed W.rising (suc ℓ) fed l (le_refl fed), W.last));
  }

  words_order : Words → InOrder
  words_order W ℓ l =
      let up = starts_rise first fed W.rising (suc ℓ) fed l (le_refl fed) in
      record {
        nonempty = λ r m n. W.nonempty r (omega (arith, W.last));
        apart = λ r m n. W.ordered ℓ l r (omega (arith, W.last)) m n;
      }

  module _ (P : PassReady L w left fed ws) {lines : Option ℕ} (F : LinesFound L ws w left fed runs lines) where
    pub lines_wrong : lines ≡ None → false ≡ test
    lines_wrong n = refused (λ W. F.wrong n (words_lines W))

    module _ (begins : first 0 ≡ 0) (fallen : ℕ) (h : lines ≡ Some fallen) {found : Runs} (G : RunsFound L ws left runs found) where
      S : LinesSound L ws w fed runs
      S = F.right fallen h

      -- the sum of the lengths is below 2^32
      exact : Nonempty L ws runs → InOrder → found.cells ≡ run_lengths run runs
      exact N O =
          let most : run_lengths run (first fed) ≤ fed * w = all_lengths first run w fed begins
          (λ ℓ l. line_lengths run left (O ℓ l) w (S.rising ℓ l) (S.inside ℓ l)) in
          omega (arith, G.summed N, ap (run_lengths run) S.last, mul-le-mul_right w P.within, P.small)

      -- what is found of sound words
      module _ (W : Words) where
        none_wrong : found.wrong ≡ 0
        none_wrong = G.wrong ∙ count_stays (wrong_run L ws) 0 runs (omega arith) (λ r m l. simp (
          lt-leb (run r).end (run r).start (W.nonempty r l),
          le-ltb r (parent r) (W.parents r l),
        ) refl) ∙ count_none (wrong_run L ws)

        others : (ℓ : ℕ) → ℓ < fed → (r : ℕ) → first ℓ < r → r < first (suc ℓ) → falling r ≡ false
        unfolding falls
        others ℓ l zero m n = absurd (omega arith)
        others ℓ l (suc r) m n =
            le-ltb (run (suc r)).start ((run r).end + gap_of left) ((words_order W ℓ l).apart r (omega arith) n)

        same_falls : found.falls ≡ fallen
        same_falls = G.fallen W.nonempty ∙ ap (count falling) (sym S.last) ∙ others_same falling first fed begins S.rising others
            ∙ sym (F.counted fallen h)

        same_joins : runs - found.roots ≡ figures.joins
        same_joins = omega (arith, G.rooted, W.join_count, roots_others parent runs)

        sum : found.cells ≡ run_lengths run runs
        sum = exact W.nonempty (words_order W)

        one_each : left ≡ false → found.cells ≡ runs
        one_each e = sum ∙ single_lengths run runs W.nonempty (W.single e)

      -- and which words it is found of
      module _ (none : found.wrong ≡ 0) (same : found.falls ≡ fallen) where
        right : (r : ℕ) → r < runs → (leb (run r).end (run r).start ≡ false) × (ltb r (parent r) ≡ false)
        right r l = or_false _ _ (stays_none (wrong_run L ws) 0 runs r (omega (arith, G.wrong)) (omega arith) l)

        nonempty : Nonempty L ws runs
        nonempty r l = leb-false (run r).end (run r).start (right r l).0

        in_order : InOrder
        in_order ℓ l = record {
          nonempty = λ r m n. nonempty r (omega (arith, starts_rise first fed S.rising (suc ℓ) fed l (le_refl fed), S.last));
          apart = λ r m n. ltb-false (run (suc r)).start ((run r).end + gap_of left)
              (unfold falls in same_others falling first fed S.rising counts ℓ l (suc r) (omega arith) n);
        }
          where
            counts : count falling (first fed) ≤ count (first_falls falling first) fed
            counts = omega (arith, ap (count falling) S.last, G.fallen nonempty, F.counted fallen h)

        found_words : runs - found.roots ≡ figures.joins → found.cells ≡ figures.cells → found.sizes ≡ figures.cells
            → (left ≡ false → found.cells ≡ runs) → Words
        found_words joins cells sizes one = record {
          first = begins;
          rising = S.rising;
          last = S.last;
          room = λ ℓ l. line_few run left (in_order ℓ l) w (S.rising ℓ l) (S.inside ℓ l);
          nonempty = nonempty;
          inside = λ r l. by_lines first (λ r. (run r).end ≤ w) fed begins
              (λ ℓ m. within run left (in_order ℓ m) w (S.rising ℓ m) (S.inside ℓ m)) r (omega (arith, S.last));
          ordered = λ ℓ l r m. (in_order ℓ l).apart r;
          single = λ e. lengths_single run runs nonempty (sym (exact nonempty in_order) ∙ one e);
          parents = λ r l. ltb-false r (parent r) (right r l).1;
          join_count = omega (arith, G.rooted, roots_others parent runs);
          total = sym cells ∙ exact nonempty in_order;
          sizes = sym G.sized ∙ sizes;
        }

      -- hence the answer
      abbrev same_all : Bool
      same_all = ((((eqb found.wrong 0 && eqb found.falls fallen) && eqb (runs - found.roots) figures.joins)
          && eqb found.cells figures.cells) && eqb found.sizes figures.cells) && (left || eqb found.cells runs)

      pub answer : same_all ≡ test
      answer = bool_same same_all test to from
        where
          to : same_all ≡ true → test ≡ true
          to t =
              let p = and₆ (eqb found.wrong 0) (eqb found.falls fallen) (eqb (runs - found.roots) figures.joins)
              (eqb found.cells figures.cells) (eqb found.sizes figures.cells) (left || eqb found.cells runs) t in
              right_words L w left fed figures ws (found_words (eqb-true _ _ p.0) (eqb-true _ _ p.1) (eqb-true _ _ p.2)
              (eqb-true _ _ p.3) (eqb-true _ _ p.4) (λ e. eqb-true found.cells runs (rw e at p.5)))

          lone : Words → (t : Bool) → left ≡ t → (left || eqb found.cells runs) ≡ true
          lone W true e = or_left left (eqb found.cells runs) e
          lone W false e = or_right left (eqb found.cells runs) (eq-eqb found.cells runs (one_each W e))

          from : test ≡ true → same_all ≡ true
          from t =
              let W = words_right L w left fed figures ws t in
              simp (
                eq-eqb found.wrong 0 (none_wrong W),
                eq-eqb found.falls fallen (same_falls W),
                eq-eqb (runs - found.roots) figures.joins (same_joins W),
                eq-eqb found.cells figures.cells (sum W ∙ sym W.total),
                eq-eqb found.sizes figures.cells (G.sized ∙ W.sizes),
              ) (lone W left refl)
