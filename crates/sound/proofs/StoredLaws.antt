-- The test decides whether words are sound.
-- Assumes nothing.
use Rattle.std.proofs.Common.{◌≡◌, ℕ, suc, ◌+◌, ◌<◌, ◌≤◌, Bool, true, false, ◌||◌, ltb, leb, ◌⊎◌, List, sym, refl, ◌∙◌, inl, inr, true≢false, arith, ltb-false, ltb-true, lt-ltb, eq-eqb, eqb-true, le-leb, leb-false, leb-true}
use Rattle.groups.proofs.BoolLaws.{or_left, or_right, or_cases}
use Rattle.frame.specs.Lists.{all}
use Rattle.frame.specs.declared.Figures.{Figures}
use Rattle.frame.specs.Runs.{gap_of}
use Rattle.frame.specs.Words.{line_start, run_start, run_end}
use Rattle.frame.proofs.ListLaws.{all_at, at_all, every_at, every_more, every_none}
use Rattle.sound.specs.Stored.{WordsSound, words_sound}

module _ (L w : ℕ) (left : Bool) (fed : ℕ) (figures : Figures) (ws : List ℕ) where
  abbrev runs : ℕ
  runs = figures.runs

  abbrev start : ℕ → ℕ
  start = run_start L ws

  abbrev end : ℕ → ℕ
  end = run_end L ws

  -- what `ordered` tests: run r is not of line ℓ, or is its last; the next run is apart from it
  abbrev beside : ℕ → ℕ → Bool
  beside ℓ r = ltb r (line_start ws ℓ) || leb (line_start ws (suc ℓ)) (suc r)

  abbrev apart : ℕ → Bool
  apart r = leb (end r + gap_of left) (start (suc r))

  -- what `single` tests: no run is longer than one cell
  abbrev all_single : Bool
  all_single = all (λ r. leb (end r) (suc (start r))) runs

  pub words_right : words_sound L w left fed figures ws ≡ true → WordsSound L w left fed figures ws
  unfolding words_sound
  words_right h = record {
    first = eqb-true _ _ (every_at _ 0 h);
    rising = λ ℓ l. leb-true _ _ (all_at _ fed ℓ (every_at _ 1 h) l);
    last = eqb-true _ _ (every_at _ 2 h);
    room = λ ℓ l. leb-true _ _ (all_at _ fed ℓ (every_at _ 3 h) l);
    nonempty = λ r l. ltb-true _ _ (all_at _ runs r (every_at _ 4 h) l);
    inside = λ r l. leb-true _ _ (all_at _ runs r (every_at _ 5 h) l);
    ordered = λ ℓ l r m a b. near ℓ r a b (or_cases (beside ℓ r) (apart r) (all_at _ runs r (all_at _ fed ℓ (every_at _ 6 h) l) m));
    single = λ e r l. leb-true _ _ (all_at _ runs r (lone e (or_cases left all_single (every_at _ 7 h))) l);
    parents = λ r l. leb-true _ _ (all_at _ runs r (every_at _ 8 h) l);
    join_count = eqb-true _ _ (every_at _ 9 h);
    total = eqb-true _ _ (every_at _ 10 h);
    sizes = eqb-true _ _ (every_at _ 11 h);
  }
    where
      near : (ℓ r : ℕ) → line_start ws ℓ ≤ r → suc r < line_start ws (suc ℓ) → (beside ℓ r ≡ true) ⊎ (apart r ≡ true)
          → end r + gap_of left ≤ start (suc r)
      near ℓ r a b (inr e) = leb-true _ _ e
      near ℓ r a b (inl e) = out (or_cases (ltb r (line_start ws ℓ)) (leb (line_start ws (suc ℓ)) (suc r)) e)
        where
          out : (ltb r (line_start ws ℓ) ≡ true) ⊎ (leb (line_start ws (suc ℓ)) (suc r) ≡ true) → end r + gap_of left ≤ start (suc r)
          out (inl k) = absurd (let l = ltb-true r (line_start ws ℓ) k in omega arith)
          out (inr k) = absurd (let l = leb-true (line_start ws (suc ℓ)) (suc r) k in omega arith)

      lone : left ≡ false → (left ≡ true) ⊎ (all_single ≡ true) → all_single ≡ true
      lone e (inl k) = absurd (true≢false (sym k ∙ e))
      lone e (inr k) = k

  pub right_words : WordsSound L w left fed figures ws → words_sound L w left fed figures ws ≡ true
  unfolding words_sound
  right_words S =
      every_more _ _ (eq-eqb _ _ S.first)
      (every_more _ _ (at_all _ fed (λ ℓ l. le-leb _ _ (S.rising ℓ l)))
      (every_more _ _ (eq-eqb _ _ S.last)
      (every_more _ _ (at_all _ fed (λ ℓ l. le-leb _ _ (S.room ℓ l)))
      (every_more _ _ (at_all _ runs (λ r l. lt-ltb _ _ (S.nonempty r l)))
      (every_more _ _ (at_all _ runs (λ r l. le-leb _ _ (S.inside r l)))
      (every_more _ _ (at_all _ fed (λ ℓ l. at_all _ runs
      (λ r m. near ℓ r (S.ordered ℓ l r m) (leb (line_start ws ℓ) r) refl (ltb (suc r) (line_start ws (suc ℓ))) refl)))
      (every_more _ _ (lone left refl)
      (every_more _ _ (at_all _ runs (λ r l. le-leb _ _ (S.parents r l)))
      (every_more _ _ (eq-eqb _ _ S.join_count)
      (every_more _ _ (eq-eqb _ _ S.total)
      (every_more _ _ (eq-eqb _ _ S.sizes)
      every_none)))))))))))
    where
      near : (ℓ r : ℕ) → (line_start ws ℓ ≤ r → suc r < line_start ws (suc ℓ) → end r + gap_of left ≤ start (suc r)) → (a : Bool)
          → leb (line_start ws ℓ) r ≡ a → (b : Bool) → ltb (suc r) (line_start ws (suc ℓ)) ≡ b → (beside ℓ r || apart r) ≡ true
      near ℓ r f false ea b eb = or_left (beside ℓ r) (apart r)
          (or_left (ltb r (line_start ws ℓ)) (leb (line_start ws (suc ℓ)) (suc r)) (lt-ltb _ _ (leb-false (line_start ws ℓ) r ea)))
      near ℓ r f true ea false eb = or_left (beside ℓ r) (apart r)
          (or_right (ltb r (line_start ws ℓ)) (leb (line_start ws (suc ℓ)) (suc r))
          (le-leb _ _ (ltb-false (suc r) (line_start ws (suc ℓ)) eb)))
      near ℓ r f true ea true eb = or_right (beside ℓ r) (apart r) (le-leb _ _ (f (leb-true _ _ ea) (ltb-true _ _ eb)))

      lone : (b : Bool) → left ≡ b → (left || all_single) ≡ true
      lone true e = or_left left all_single e
      lone false e = or_right left all_single (at_all _ runs (λ r l. le-leb _ _ (S.single e r l)))
