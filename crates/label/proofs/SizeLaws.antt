-- How many cells a number has: the sum of the lengths of its runs. Of a sound record of any origin.
-- Assumes nothing.
use mathlib.Core.Path.{◌≡◌, refl, sym, ap, ◌∙◌, subst}
use mathlib.Core.Logic.{◌⊎◌, inl, inr}
use mathlib.Core.Bool.{Bool, true, false, cond, ◌&&◌}
use mathlib.Core.List.{List}
use Prim.Native.Nat.{ℕ, zero, suc, ◌+◌, ◌-◌, ◌*◌, ◌/◌, ◌%◌, ◌≤◌, ◌<◌}
use native.Mathlib.Nat.{le_refl, le_trans, le_antisymm, zero-add, suc-mul, mul-le-mul_right, div-add-mod'}
use native.Mathlib.Omega.{arith}
use borrow.Author.Tests.{eqb-true, eqb-false, eq-eqb, ne_eqb, ltb-true, ltb-false, lt-ltb, le-ltb}
use lib.Arith.{digits_lt, digits_div, digits_mod}
use lib.Dec.{eqb, ltb}
use Rattle.groups.specs.Groups.{count, sum_over}
use Rattle.groups.proofs.BoolLaws.{and₃, bool_same}
use Rattle.groups.proofs.CountLaws.{count_same, count_none, count_beyond}
use Rattle.groups.proofs.IntervalLaws.{count_interval}
use Rattle.frame.specs.Shape.{size, width}
use Rattle.frame.specs.ChainRule.{nonzero}
use Rattle.frame.specs.Runs.{run_length}
use Rattle.frame.specs.Words.{line_start, run_start, run_end, parent_of, stored_run}
use Rattle.frame.proofs.ShapeLaws.{size_lines_lem}
use Rattle.frame.proofs.FrameRunLaws.{located, line_below}
use Rattle.forest.specs.Forest.{number_in}
use Rattle.label.specs.declared.Session.{Session}
use Rattle.label.specs.Record.{shape_of, structure_of, lines_of}
use Rattle.label.specs.Sound.{Sound}
use Rattle.label.specs.Held.{cells_of, holder_of, number_at}
use Rattle.label.proofs.SoundLaws.{starts_rise}
use Rattle.label.proofs.HoldLaws.{holds_parts, parts_hold}
use Rattle.label.proofs.StoreLaws.{Stores, own_holds, holder_is, stores_below, stores_holder}
use Rattle.label.proofs.SoundCells.{sound_stores}

module _ (s : Session) (ws : List ℕ) (S : Sound s ws) where
  -- L, w, the cells held, and the number of a run
  abbrev L : ℕ
  L = lines_of s

  abbrev w : ℕ
  w = width (shape_of s)

  abbrev cells : List Bool
  cells = cells_of s ws

  abbrev number : ℕ → ℕ
  number = number_in (parent_of (lines_of s) ws)

  H : Stores s ws (cells_of s ws)
  H = sound_stores s ws S

  -- ---- a run's cells

  -- the cells that run r holds are those of an interval in C order
  record RunInterval (r : ℕ) : Type 0 where
    pub from : ℕ
    pub to : ℕ
    pub long : to - from ≡ run_end L ws r - run_start L ws r
    pub upto : from ≤ to
    pub below : to ≤ size (shape_of s)
    pub inside : (p : ℕ) → from ≤ p → p < to → (nonzero cells p ≡ true) × (holder_of s ws p ≡ r)
    pub only : (p : ℕ) → nonzero cells p ≡ true → holder_of s ws p ≡ r → (from ≤ p) × (p < to)

  module _ (r : ℕ) (h : r < s.figures.runs) where
    -- the line of r
    record OfLine : Type 0 where
      pub ℓ : ℕ
      pub is_fed : ℓ < s.fed
      pub low : line_start ws ℓ ≤ r
      pub high : r < line_start ws (suc ℓ)

    of_line : OfLine
    of_line =
        let P = located (shape_of s) (structure_of s) cells s.fed r (rw (← H.runs_are) h) in
        record {
          ℓ = P.of_line;
          is_fed = P.is_line;
          low = rw (H.starts P.of_line (omega (arith, P.is_line))) P.low;
          high = rw (H.starts (suc P.of_line) P.is_line) P.high;
        }

    -- a line that starts by r is not after one that ends past it
    one_line : (a b : ℕ) → a ≤ s.fed → line_start ws a ≤ r → r < line_start ws (suc b) → a ≤ b
    one_line a b h low high = go (ltb b a) refl
      where
        go : (t : Bool) → ltb b a ≡ t → a ≤ b
        go true t = absurd (omega (arith, starts_rise s ws S (suc b) a (ltb-true b a t) h))
        go false t = ltb-false b a t

    run_interval : RunInterval r
    run_interval = record {
      from = ℓ * w + run_start L ws r;
      to = ℓ * w + run_end L ws r;
      long = omega arith;
      upto = omega (arith, S.words.nonempty r h);
      below =
          let most = mul-le-mul_right w (le_trans fed S.shape.within) in
          rw (size_lines_lem (shape_of s)) (omega (arith, S.words.inside r h, suc-mul ℓ w, most));
      inside = inside;
      only = only;
    }
      where
        ℓ : ℕ
        ℓ = of_line.ℓ

        fed : ℓ < s.fed
        fed = of_line.is_fed

        inside : (p : ℕ) → ℓ * w + run_start L ws r ≤ p → p < ℓ * w + run_end L ws r → (nonzero cells p ≡ true) × (holder_of s ws p ≡ r)
        inside p a b =
            let x : ℕ = p - ℓ * w in
            let l : x < w = omega (arith, S.words.inside r h) in
            let q : ℓ * w + x ≡ p = omega arith in
            let k = parts_hold s ws (ℓ * w + x) r (record {
              low = rw (digits_div ℓ l) of_line.low;
              high = rw (digits_div ℓ l) of_line.high;
              covers = rw (digits_mod ℓ l) (omega arith, omega arith);
            }) in
            let c = holder_is s ws cells H (ℓ * w + x) r (digits_lt fed l) h k in
            subst (λ (n : ℕ). (nonzero cells n ≡ true) × (holder_of s ws n ≡ r)) q
            (c.0, stores_holder s ws cells H (ℓ * w + x) c.0 ∙ c.1)

        only : (p : ℕ) → nonzero cells p ≡ true → holder_of s ws p ≡ r → (ℓ * w + run_start L ws r ≤ p) × (p < ℓ * w + run_end L ws r)
        only p a e =
            let k = holds_parts s ws p r (rw (← e, stores_holder s ws cells H p a) (own_holds s ws cells H p a)) in
            let b : p / w < s.fed = line_below (shape_of s) (structure_of s) cells s.fed H.fits p a in
            let q : p / w ≡ ℓ = le_antisymm (one_line (p / w) ℓ (omega arith) k.low of_line.high)
            (one_line ℓ (p / w) (omega (arith, fed)) of_line.low k.high) in
            let d : ℓ * w + p % w ≡ p = subst (λ (m : ℕ). m * w + p % w ≡ p) q (div-add-mod' p w) in
            (omega (arith, k.covers.0), omega (arith, k.covers.1))

  -- ---- the cells of a group, run by run

  module _ (g : ℕ) where
    -- the cells of the first n runs with number g
    abbrev lengths_of : ℕ → ℕ
    lengths_of n = sum_over (λ r. eqb (number_in (parent_of (lines_of s) ws) r) g) (λ r. run_length (stored_run (lines_of s) ws r)) n

    -- cell p is held by one of the first n runs, whose number is g
    abbrev held_below : ℕ → ℕ → Bool
    held_below n p = nonzero (cells_of s ws) p && (ltb (holder_of s ws p) n && eqb (number_in (parent_of (lines_of s) ws) (holder_of s ws p)) g)

    -- one run more makes no difference to a cell that it does not hold, nor where its number is another
    same_below : (n p : ℕ) → (nonzero cells p ≡ true → holder_of s ws p ≡ n → number n ≡ g → ⊥) → held_below (suc n) p ≡ held_below n p
    same_below n p other =
        bool_same (held_below (suc n) p) (held_below n p) fewer
        (λ e. let k = parts n e in join (suc n) k.0 (omega (arith, k.1)) k.2)
      where
        parts : (m : ℕ) → held_below m p ≡ true → (nonzero cells p ≡ true) × (holder_of s ws p < m) × (number (holder_of s ws p) ≡ g)
        parts m e =
            let k = and₃ (nonzero cells p) (ltb (holder_of s ws p) m) (eqb (number (holder_of s ws p)) g) e in
            (k.0, ltb-true _ _ k.1, eqb-true _ _ k.2)

        join : (m : ℕ) → nonzero cells p ≡ true → holder_of s ws p < m → number (holder_of s ws p) ≡ g → held_below m p ≡ true
        join m a l e = rw (a, lt-ltb (holder_of s ws p) m l, eq-eqb (number (holder_of s ws p)) g e) refl

        fewer : held_below (suc n) p ≡ true → held_below n p ≡ true
        fewer e =
            let k = parts (suc n) e in
            let ne : holder_of s ws p ≡ n → ⊥ = λ q. other k.0 q (ap number (sym q) ∙ k.2) in
            join n k.0 (omega (arith, k.1)) k.2

    -- run n adds its cells where its number is g
    count_run : (n : ℕ) → n < s.figures.runs
        → count (held_below (suc n)) (size (shape_of s))
        ≡ cond (eqb (number n) g) (run_length (stored_run L ws n)) 0 + count (held_below n) (size (shape_of s))
    count_run n h = go (eqb (number n) g) refl
      where
        K : RunInterval n
        K = run_interval n h

        off : (p : ℕ) → K.from ≤ p → p < K.to → held_below n p ≡ false
        off p a b = let k = K.inside p a b in rw (k.0, k.1, le-ltb n n (le_refl n)) refl

        on : number n ≡ g → (p : ℕ) → K.from ≤ p → p < K.to → held_below (suc n) p ≡ true
        on e p a b = let k = K.inside p a b in rw (k.0, k.1, lt-ltb n (suc n) (le_refl (suc n)), eq-eqb (number n) g e) refl

        outside : (p : ℕ) → (p < K.from) ⊎ (K.to ≤ p) → held_below (suc n) p ≡ held_below n p
        outside p (inl l) = same_below n p (λ a e q. let k = K.only p a e in omega (arith, k.0))
        outside p (inr l) = same_below n p (λ a e q. let k = K.only p a e in omega (arith, k.1))

        go : (t : Bool) → eqb (number n) g ≡ t
            → count (held_below (suc n)) (size (shape_of s))
            ≡ cond (eqb (number n) g) (run_length (stored_run L ws n)) 0 + count (held_below n) (size (shape_of s))
        go true t =
            let more = count_interval (held_below n) (held_below (suc n)) K.from K.to K.upto off (on (eqb-true _ _ t)) outside
            (size (shape_of s)) K.below in
            rw t (omega (arith, K.long, more))
        go false t =
            let same = count_same (held_below (suc n)) (held_below n) (size (shape_of s))
            (λ p l. same_below n p (λ a e q. eqb-false _ _ t q)) in
            rw t (omega (arith, same))

    count_runs : (n : ℕ) → n ≤ s.figures.runs → count (held_below n) (size (shape_of s)) ≡ lengths_of n
    unfolding sum_over
    count_runs zero h =
        ap (count (held_below 0)) (sym (zero-add (size (shape_of s))))
        ∙ count_beyond (held_below 0) 0 (size (shape_of s)) none
        ∙ count_none (held_below 0)
      where
        none : (p : ℕ) → 0 ≤ p → held_below 0 p ≡ false
        none p l = go (nonzero cells p)
          where
            go : (b : Bool) → (b && (ltb (holder_of s ws p) 0 && eqb (number (holder_of s ws p)) g)) ≡ false
            go true = rw (le-ltb (holder_of s ws p) 0 (omega arith)) refl
            go false = refl
    count_runs (suc n) h =
        count_run n h
        ∙ ap (λ (k : ℕ). cond (eqb (number n) g) (run_length (stored_run L ws n)) 0 + k) (count_runs n (omega arith))

    cells_counted : lengths_of s.figures.runs ≡ count (held_below s.figures.runs) (size (shape_of s))
    cells_counted = sym (count_runs s.figures.runs (le_refl s.figures.runs))

    -- a zero or an unfed cell has the number 0, which is no group's
    pub cells_numbered : 0 < g
        → count (λ p. eqb (number_at s ws p) g) (size (shape_of s))
        ≡ sum_over (λ r. eqb (number_in (parent_of (lines_of s) ws) r) g) (λ r. run_length (stored_run (lines_of s) ws r)) s.figures.runs
    unfolding number_at
    cells_numbered h =
        count_same _ (held_below s.figures.runs) (size (shape_of s)) (λ p l. at p (nonzero cells p) refl) ∙ sym cells_counted
      where
        at : (p : ℕ) (b : Bool) → nonzero cells p ≡ b
            → eqb (cond (nonzero cells p) (number (holder_of s ws p)) 0) g ≡ held_below s.figures.runs p
        at p true a =
            let l : holder_of s ws p < s.figures.runs = rw (stores_holder s ws cells H p a) (stores_below s ws cells H p a) in
            rw (a, lt-ltb (holder_of s ws p) s.figures.runs l) refl
        at p false a = rw a (ne_eqb 0 g (λ z. omega arith))
