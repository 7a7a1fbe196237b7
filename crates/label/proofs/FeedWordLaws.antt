-- The words that a feed leaves, place by place.
-- Assumes nothing.
use mathlib.Core.Path.{◌≡◌, refl, sym, ap, ap₂, ◌∙◌, subst}
use mathlib.Core.Logic.{◌≢◌}
use mathlib.Core.Bool.{Bool, true, false, true≢false}
use mathlib.Core.List.{List}
use Prim.Native.Nat.{ℕ, suc, ◌+◌, ◌-◌, ◌≤◌, ◌<◌}
use native.Mathlib.Omega.{arith}
use borrow.Author.Tests.{eqb-true, eq-eqb, leb-true, leb-false, le-leb, ltb-true, ltb-false, lt-ltb}
use lib.Dec.{eqb, ltb, leb}
use lib.ListN.{length, get_or}
use Rattle.frame.specs.ChainRule.{any}
use Rattle.frame.specs.Runs.{runs, Run}
use Rattle.frame.specs.Words.{line_place, start_place, end_place, line_start, stored_run, NoGroupWord}
use Rattle.frame.proofs.ChainRuleLaws.{any_found, any_at}
use Rattle.frame.proofs.SetLaws.{length_set_all, set_all_other, set_all_at}
use Rattle.label.specs.declared.Session.{Session}
use Rattle.label.specs.Record.{shape_of, structure_of, lines_of}
use Rattle.label.specs.Feeding.{runs_after, start_after, run_after, with_lines, with_runs, FeedWords}

-- the place is of no line start and no new run's start or end that a feed writes
pub record Aside (s : Session) (k : ℕ) (cells : List Bool) (j : ℕ) : Type 0 where
  pub no_line : (i : ℕ) → i < k → j ≢ line_place (s.fed + suc i)
  pub no_start : (r : ℕ) → s.figures.runs ≤ r → r < runs_after s cells → j ≢ start_place (lines_of s) r
  pub no_end : (r : ℕ) → s.figures.runs ≤ r → r < runs_after s cells → j ≢ end_place (lines_of s) r

-- what a feed's promise says of the words, group words aside, place by place
pub record Wrote (s : Session) (ws : List ℕ) (k : ℕ) (cells : List Bool) (ws' : List ℕ) : Type 0 where
  pub lined : (ℓ : ℕ) → ℓ ≤ s.fed + k → line_start ws' ℓ ≡ start_after s ws cells ℓ
  pub ran : (r : ℕ) → r < runs_after s cells → stored_run (lines_of s) ws' r ≡ run_after s ws cells r
  pub stands : (j : ℕ) → Aside s k cells j → NoGroupWord (lines_of s) (runs_after s cells) j → get_or ws' j 0 ≡ get_or ws j 0

length_with_lines : (s : Session) (ws : List ℕ) (k : ℕ) (cells : List Bool) → length (with_lines s ws k cells) ≡ length ws
unfolding with_lines
length_with_lines s ws k cells = length_set_all _ _ k ws

pub length_with_runs : (s : Session) (ws : List ℕ) (k : ℕ) (cells : List Bool) → length (with_runs s ws k cells) ≡ length ws
unfolding with_runs
length_with_runs s ws k cells = length_set_all _ _ _ _ ∙ length_set_all _ _ _ _ ∙ length_with_lines s ws k cells

-- where the frame has the lines and the memory has room
module _ (s : Session) (ws : List ℕ) (k : ℕ) (cells : List Bool) (below : s.fed + k ≤ lines_of s)
    (room : (r : ℕ) → r < runs_after s cells → end_place (lines_of s) r < length ws) (long : lines_of s < length ws) where
  abbrev L : ℕ
  L = lines_of s

  abbrev new : ℕ
  new = runs (shape_of s) (structure_of s) cells

  after_new : (i : ℕ) → i < new → s.figures.runs + i < runs_after s cells
  unfolding runs_after
  after_new i h = omega arith

  -- ---- line starts

  over_runs : (j : ℕ) → ((i : ℕ) → i < new → j ≢ start_place L (s.figures.runs + i))
      → ((i : ℕ) → i < new → j ≢ end_place L (s.figures.runs + i))
      → get_or (with_runs s ws k cells) j 0 ≡ get_or (with_lines s ws k cells) j 0
  unfolding with_runs
  over_runs j no_start no_end = set_all_other _ _ new _ j no_end ∙ set_all_other _ _ new _ j no_start

  old_line : (ℓ : ℕ) → ℓ ≤ s.fed → get_or (with_lines s ws k cells) ℓ 0 ≡ start_after s ws cells ℓ
  unfolding with_lines start_after
  old_line ℓ h = set_all_other _ _ k ws ℓ (λ i l q. omega arith) ∙ rw (le-leb ℓ s.fed h) refl

  new_line : (i : ℕ) → i < k → get_or (with_lines s ws k cells) (s.fed + suc i) 0 ≡ start_after s ws cells (s.fed + suc i)
  unfolding with_lines
  new_line i h =
      set_all_at (λ i. s.fed + suc i) (λ i. start_after s ws cells (s.fed + suc i)) k ws (λ a b x y e. omega arith) i h (omega arith)

  pub line_at : (ℓ : ℕ) → ℓ ≤ s.fed + k → get_or (with_runs s ws k cells) ℓ 0 ≡ start_after s ws cells ℓ
  line_at ℓ h = over_runs ℓ (λ i l q. omega arith) (λ i l q. omega arith) ∙ go (leb ℓ s.fed) refl
    where
      go : (b : Bool) → leb ℓ s.fed ≡ b → get_or (with_lines s ws k cells) ℓ 0 ≡ start_after s ws cells ℓ
      go true e = old_line ℓ (leb-true ℓ s.fed e)
      go false e =
          let m = leb-false ℓ s.fed e in
          let q : s.fed + suc (ℓ - s.fed - 1) ≡ ℓ = omega arith in
          subst (λ (j : ℕ). get_or (with_lines s ws k cells) j 0 ≡ start_after s ws cells j) q (new_line (ℓ - s.fed - 1) (omega arith))

  -- ---- runs

  old_run : (r : ℕ) → r < s.figures.runs → stored_run L ws r ≡ run_after s ws cells r
  unfolding run_after
  old_run r h = rw (lt-ltb r s.figures.runs h) refl

  over_lines : (j : ℕ) → L < j → get_or (with_lines s ws k cells) j 0 ≡ get_or ws j 0
  unfolding with_lines
  over_lines j h = set_all_other _ _ k ws j (λ i l q. omega arith)

  -- a new run is the r-th new one
  newer : (r : ℕ) → ltb r s.figures.runs ≡ false → r < runs_after s cells
      → (s.figures.runs + (r - s.figures.runs) ≡ r) × (r - s.figures.runs < new)
  unfolding runs_after
  newer r e h = let m = ltb-false r s.figures.runs e in (omega arith, omega arith)

  new_start : (i : ℕ) → i < new
      → get_or (with_runs s ws k cells) (start_place L (s.figures.runs + i)) 0 ≡ (run_after s ws cells (s.figures.runs + i)).start
  unfolding with_runs
  new_start i h =
      let fits : start_place L (s.figures.runs + i) < length ws = omega (arith, room (s.figures.runs + i) (after_new i h)) in
      set_all_other _ _ new _ (start_place L (s.figures.runs + i)) (λ a l q. omega arith)
      ∙ set_all_at (λ i. start_place L (s.figures.runs + i)) (λ i. (run_after s ws cells (s.figures.runs + i)).start) new
      (with_lines s ws k cells) (λ a b x y q. omega arith) i h (rw (length_with_lines s ws k cells) fits)

  new_end : (i : ℕ) → i < new
      → get_or (with_runs s ws k cells) (end_place L (s.figures.runs + i)) 0 ≡ (run_after s ws cells (s.figures.runs + i)).end
  unfolding with_runs
  new_end i h =
      set_all_at (λ i. end_place L (s.figures.runs + i)) (λ i. (run_after s ws cells (s.figures.runs + i)).end) new _
      (λ a b x y q. omega arith) i h
      (rw (
        length_set_all (λ i. start_place L (s.figures.runs + i)) (λ i. (run_after s ws cells (s.figures.runs + i)).start) new
            (with_lines s ws k cells),
        length_with_lines s ws k cells,
      ) (room (s.figures.runs + i) (after_new i h)))

  pub start_at_lem : (r : ℕ) → r < runs_after s cells → get_or (with_runs s ws k cells) (start_place L r) 0 ≡ (run_after s ws cells r).start
  start_at_lem r h = go (ltb r s.figures.runs) refl
    where
      At : ℕ → Type 0
      At x = get_or (with_runs s ws k cells) (start_place L x) 0 ≡ (run_after s ws cells x).start

      go : (b : Bool) → ltb r s.figures.runs ≡ b → At r
      go true e =
          let m = ltb-true r s.figures.runs e in
          over_runs (start_place L r) (λ i l q. omega arith) (λ i l q. omega arith) ∙ over_lines (start_place L r) (omega arith)
          ∙ ap (λ (x : Run). x.start) (old_run r m)
      go false e = let q = newer r e h in subst At q.0 (new_start (r - s.figures.runs) q.1)

  pub end_at_lem : (r : ℕ) → r < runs_after s cells → get_or (with_runs s ws k cells) (end_place L r) 0 ≡ (run_after s ws cells r).end
  end_at_lem r h = go (ltb r s.figures.runs) refl
    where
      At : ℕ → Type 0
      At x = get_or (with_runs s ws k cells) (end_place L x) 0 ≡ (run_after s ws cells x).end

      go : (b : Bool) → ltb r s.figures.runs ≡ b → At r
      go true e =
          let m = ltb-true r s.figures.runs e in
          over_runs (end_place L r) (λ i l q. omega arith) (λ i l q. omega arith) ∙ over_lines (end_place L r) (omega arith)
          ∙ ap (λ (x : Run). x.end) (old_run r m)
      go false e = let q = newer r e h in subst At q.0 (new_end (r - s.figures.runs) q.1)

  -- ---- every other word

  pub aside_at : (j : ℕ) → Aside s k cells j → get_or (with_runs s ws k cells) j 0 ≡ get_or ws j 0
  aside_at j A =
      over_runs j (λ i l. A.no_start (s.figures.runs + i) (omega arith) (after_new i l))
      (λ i l. A.no_end (s.figures.runs + i) (omega arith) (after_new i l))
      ∙ (unfold with_lines in set_all_other _ _ k ws j A.no_line)

  -- ---- from the promise, and back

  pub wrote : (ws' : List ℕ) → FeedWords s ws k cells ws' → Wrote s ws k cells ws'
  wrote ws' W = record {
    lined = λ ℓ h. W.others ℓ (λ r l. (omega arith, omega arith)) ∙ line_at ℓ h;
    ran = λ r h.
        ap₂ (λ (x : ℕ) (y : ℕ). record { start = x; end = y })
        (W.others (start_place L r) (λ i l. (omega arith, omega arith)) ∙ start_at_lem r h)
        (W.others (end_place L r) (λ i l. (omega arith, omega arith)) ∙ end_at_lem r h);
    stands = λ j A free. W.others j free ∙ aside_at j A;
  }

  pub wrote_others : (ws' : List ℕ) → Wrote s ws k cells ws' → (j : ℕ) → NoGroupWord L (runs_after s cells) j
      → get_or ws' j 0 ≡ get_or (with_runs s ws k cells) j 0
  wrote_others ws' W j free = line (any (λ i. eqb j (s.fed + suc i)) k) refl
    where
      At : ℕ → Type 0
      At x = get_or ws' x 0 ≡ get_or (with_runs s ws k cells) x 0

      rest : ((i : ℕ) → i < k → j ≢ s.fed + suc i) → (b : Bool) → any (λ r. eqb j (start_place L r)) (runs_after s cells) ≡ b → (c : Bool)
          → any (λ r. eqb j (end_place L r)) (runs_after s cells) ≡ c → At j
      rest no_line true e c f =
          let r = any_found (λ r. eqb j (start_place L r)) (runs_after s cells) e in
          subst At (sym (eqb-true j (start_place L r.0) r.2))
          (ap (λ (x : Run). x.start) (W.ran r.0 r.1) ∙ sym (start_at_lem r.0 r.1))
      rest no_line false e true f =
          let r = any_found (λ r. eqb j (end_place L r)) (runs_after s cells) f in
          subst At (sym (eqb-true j (end_place L r.0) r.2))
          (ap (λ (x : Run). x.end) (W.ran r.0 r.1) ∙ sym (end_at_lem r.0 r.1))
      rest no_line false e false f =
          let A : Aside s k cells j = record {
            no_line = no_line;
            no_start = λ r l h q. true≢false (sym (any_at (λ r. eqb j (start_place L r)) (runs_after s cells) r h
                (eq-eqb j (start_place L r) q)) ∙ e);
            no_end =
                λ r l h q. true≢false (sym (any_at (λ r. eqb j (end_place L r)) (runs_after s cells) r h (eq-eqb j (end_place L r) q)) ∙ f);
          } in
          W.stands j A free ∙ sym (aside_at j A)

      line : (b : Bool) → any (λ i. eqb j (s.fed + suc i)) k ≡ b → At j
      line true e =
          let i = any_found (λ i. eqb j (s.fed + suc i)) k e in
          let h : s.fed + suc i.0 ≤ s.fed + k = omega (arith, i.1) in
          subst At (sym (eqb-true j (s.fed + suc i.0) i.2))
          (W.lined (s.fed + suc i.0) h ∙ sym (line_at (s.fed + suc i.0) h))
      line false e = rest (λ i l q. true≢false (sym (any_at (λ i. eqb j (s.fed + suc i)) k i l (eq-eqb j (s.fed + suc i) q)) ∙ e))
          (any (λ r. eqb j (start_place L r)) (runs_after s cells)) refl (any (λ r. eqb j (end_place L r)) (runs_after s cells)) refl
