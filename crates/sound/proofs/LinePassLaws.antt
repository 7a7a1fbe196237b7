-- Line starts and last ends, line by line: what the pass over them has found of the lines before line i.
-- Assumes nothing.
use Rattle.std.proofs.Common.{◌≡◌, ℕ, zero, suc, ◌+◌, ◌-◌, ◌<◌, ◌≤◌, Bool, true, false, ◌||◌, eqb, ltb, List, get_or, sym, refl, ap, ◌∙◌, subst, true≢false, le_refl, add-one, arith, ltb-false, le-ltb, lt-ltb, eqb-true, Option, None}
use Rattle.std.specs.Bool.{then_some}
use Rattle.std.proofs.lemmas.Option.{same_Some}
use native.Mathlib.Decide.{ℕ_discrete}
use borrow.Author.Tests.{eqb-false}
use mir.Val.{bool_byte}
use Rattle.groups.proofs.BoolLaws.{or_false}
use Rattle.groups.specs.Groups.{count}
use Rattle.groups.proofs.CountLaws.{count_none, count_off, count_most}
use Rattle.frame.specs.Runs.{gap_of}
use Rattle.frame.specs.Words.{line_start, run_start, run_end, stored_run, start_place, end_place}
use Rattle.sound.specs.Passes.{falls, first_falls, LinesSound, LinesFound}
use Rattle.sound.proofs.TestLaws.{counts_more}
use Rattle.sound.proofs.LineLaws.{starts_rise}

module _ (L w : ℕ) (left : Bool) (ws : List ℕ) where
  abbrev start : ℕ → ℕ
  start = run_start L ws

  abbrev end : ℕ → ℕ
  end = run_end L ws

  abbrev first : ℕ → ℕ
  first = line_start ws

  abbrev falling : ℕ → Bool
  falling = falls left (stored_run L ws)

  abbrev firsts : ℕ → Bool
  firsts = first_falls falling first

  -- the runs of the first i lines are those before a, k first runs fall, and `last` is the end of the run before a
  pub record LinesTo (fed runs k last a i : ℕ) : Type 0 where
    pub upto : i ≤ fed
    pub here : a ≡ first i
    pub few : a ≤ runs
    pub counted : k ≡ count firsts i
    pub none : a ≡ 0 → last ≡ 4294967296
    pub before : (r : ℕ) → suc r ≡ a → last ≡ end r
    pub low : last ≤ 4294967296
    pub rising : (ℓ : ℕ) → ℓ < i → first ℓ ≤ first (suc ℓ)
    pub inside : (ℓ : ℕ) → ℓ < i → (r : ℕ) → first ℓ ≤ r → suc r ≡ first (suc ℓ) → end r ≤ w

  pub lines_none : (fed runs : ℕ) → first 0 ≡ 0 → LinesTo fed runs 0 4294967296 0 0
  lines_none fed runs z = record {
    upto = omega arith;
    here = sym z;
    few = omega arith;
    counted = sym (count_none firsts);
    none = λ e. refl;
    before = λ r e. absurd (omega arith);
    low = le_refl 4294967296;
    rising = λ ℓ l. absurd (omega arith);
    inside = λ ℓ l. absurd (omega arith);
  }

  module _ {fed runs k last a i : ℕ} (T : LinesTo fed runs k last a i) where
    -- no more than lines
    pub falls_few : k ≤ i
    falls_few = omega (arith, T.counted, count_most firsts i)

    -- after the last line
    pub lines_done : fed ≤ i → {found : Option ℕ} → found ≡ then_some (eqb a runs) k → LinesFound L ws w left fed runs found
    lines_done h is =
        subst (LinesFound L ws w left fed runs) (sym is)
        (subst (λ (n : ℕ). LinesFound L ws w left n runs (then_some (eqb a runs) k)) e (go (eqb a runs) refl))
      where
        e : i ≡ fed
        e = omega (arith, T.upto)

        go : (t : Bool) → eqb a runs ≡ t → LinesFound L ws w left i runs (then_some t k)
        go true t = record {
          right = λ j is. record { rising = T.rising; last = sym T.here ∙ eqb-true a runs t; inside = T.inside };
          wrong = λ is S. cc;
          counted = λ j is. sym (same_Some k j is) ∙ T.counted;
        }
        go false t = record {
          right = λ j is. cc;
          wrong = λ is S. eqb-false a runs t (T.here ∙ S.last);
          counted = λ j is. cc;
        }

    -- line i, whose runs are a to before `next`
    module _ (l : i < fed) where
      abbrev next : ℕ
      next = first (i + 1)

      is_next : next ≡ first (suc i)
      is_next = ap first (add-one i)

      -- what is not sound, as the pass answers it
      not_sound : (LinesSound L ws w fed runs → ⊥) → LinesFound L ws w left fed runs None
      not_sound h = record { right = λ j is. cc; wrong = λ is. h; counted = λ j is. cc }

      pub line_wrong : (ltb next a || ltb runs next) ≡ true → LinesFound L ws w left fed runs None
      line_wrong t = not_sound (λ S. true≢false (sym t ∙ right S))
        where
          right : LinesSound L ws w fed runs → (ltb next a || ltb runs next) ≡ false
          right S = simp (
            le-ltb next a (omega (arith, is_next, T.here, S.rising i l)),
            le-ltb runs next (omega (arith, is_next, starts_rise first fed S.rising (suc i) fed l (le_refl fed), S.last)),
          ) refl

      -- what stands of the lines before, and of line i
      each : (F : ℕ → Type 0) → ((ℓ : ℕ) → ℓ < i → F ℓ) → F i → (ℓ : ℕ) → ℓ < i + 1 → F ℓ
      each F f g ℓ m = pick (ℕ_discrete ℓ i)
        where
          pick : Dec (ℓ ≡ i) → F ℓ
          pick (yes e) = subst F (sym e) g
          pick (no e) = f ℓ (omega arith)

      module _ (h : (ltb next a || ltb runs next) ≡ false) where
        pub in_turn : (a ≤ next) × (next ≤ runs)
        in_turn = let p = or_false (ltb next a) (ltb runs next) h in (ltb-false next a p.0, ltb-false runs next p.1)

        -- a line with no run
        pub lines_empty : {k' last' : ℕ} → next ≤ a → k' ≡ k → last' ≡ last → LinesTo fed runs k' last' next (i + 1)
        lines_empty m is-k is_last = record {
          upto = omega arith;
          here = refl;
          few = in_turn.1;
          counted = is-k ∙ T.counted ∙ sym (ap (count firsts) (add-one i) ∙ count_off firsts i off);
          none = λ z. is_last ∙ T.none (omega (arith, in_turn.0));
          before = λ r e. is_last ∙ T.before r (omega (arith, in_turn.0));
          low = omega (arith, T.low);
          rising = each (λ ℓ. first ℓ ≤ first (suc ℓ)) T.rising (omega (arith, T.here, is_next, in_turn.0));
          inside = each (λ ℓ. (r : ℕ) → first ℓ ≤ r → suc r ≡ first (suc ℓ) → end r ≤ w) T.inside
              (λ r n e. absurd (omega (arith, T.here, is_next)));
        }
          where
            off : firsts i ≡ false
            off = unfold first_falls in rw (le-ltb (first i) (first (suc i)) (omega (arith, T.here, is_next))) refl

        -- a line with runs
        module _ (m : a < next) where
          pub line_wide : w < end (next - 1) → LinesFound L ws w left fed runs None
          line_wide wide = not_sound (λ S. omega (arith, S.inside i l (next - 1) (omega (arith, T.here)) (omega (arith, is_next))))

          -- its first run falls where it starts before `last` and the gap
          fell : {gap : ℕ} → gap ≡ gap_of left → (x : ℕ) → (x ≡ 0 → last ≡ 4294967296) → ((r : ℕ) → suc r ≡ x → last ≡ end r)
              → start x < 4294967296 → ltb (start x) (last + gap) ≡ falling x
          unfolding falls
          fell {gap} g zero z before ls = lt-ltb (start 0) (last + gap) (omega (arith, z refl))
          fell {gap} g (suc r) z before ls =
              ap (λ (x : ℕ). ltb (start (suc r)) (x + gap)) (before r refl) ∙ ap (λ (x : ℕ). ltb (start (suc r)) (end r + x)) g

          on : falling a ≡ firsts i
          unfolding first_falls
          on = rw (lt-ltb (first i) (first (suc i)) (omega (arith, T.here, is_next))) (ap falling T.here)

          pub lines_more : {gap k' last' : ℕ} → gap ≡ gap_of left → ((j : ℕ) → get_or ws j 0 < 4294967296) → end (next - 1) ≤ w
              → k' ≡ k + bool_byte (ltb (start a) (last + gap)) → last' ≡ end (next - 1) → LinesTo fed runs k' last' next (i + 1)
          lines_more g word lw is-k is_last = record {
            upto = omega arith;
            here = refl;
            few = in_turn.1;
            counted = is-k ∙ counts_more firsts i _ (fell g a T.none T.before (word (start_place L a)) ∙ on) T.counted;
            none = λ z. absurd (omega arith);
            before = λ r e. let is : next - 1 ≡ r = omega arith in is_last ∙ ap end is;
            low = omega (arith, word (end_place L (next - 1)));
            rising = each (λ ℓ. first ℓ ≤ first (suc ℓ)) T.rising (omega (arith, T.here, is_next));
            inside = each (λ ℓ. (r : ℕ) → first ℓ ≤ r → suc r ≡ first (suc ℓ) → end r ≤ w) T.inside
                (λ r n e. let is : next - 1 ≡ r = omega (arith, is_next) in subst (λ (x : ℕ). end x ≤ w) is lw);
          }
