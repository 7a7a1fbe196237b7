-- Every line: the fed ones named and painted one after another, each into its part of the output, and zeros past them.
-- Assumes nothing.
use mathlib.Core.Path.{◌≡◌, refl, sym, ap, ◌∙◌, subst}
use mathlib.Core.Bool.{Bool, true, false}
use mathlib.Core.List.{List}
use Prim.Native.Nat.{ℕ, suc, ◌+◌, ◌*◌, ◌-◌, ◌≤◌, ◌<◌}
use native.Mathlib.Decide.{le_ind}
use native.Mathlib.Nat.{le_refl, le_trans, suc-mul, mul-le-mul_right}
use native.Mathlib.Numerals.{add-one}
use native.Mathlib.Omega.{arith}
use borrow.Author.Tests.{ltb-true, ltb-false}
use borrow.Rule.Slice.PartMut.{put_mid, mid_of, post_of, same_len_mid}
use lib.Dec.{ltb}
use lib.ListN.{length, get_or, take, length-take, length-drop, get_or-append}
use lib.Seq.{get_or-take, get_or-append-add, length-take-le}
use Rattle.frame.specs.Kinds.{Number, Value, write}
use Rattle.frame.specs.Memory.{stride}
use Rattle.frame.specs.Runs.{Run}
use Rattle.frame.specs.Words.{line_start, parent_of, name_of, stored_run}
use Rattle.forest.specs.Forest.{number_in}
use Rattle.sweep.specs.Sweeps.{InOrder}
use Rattle.names.specs.Names.{NamesReady, named, Named, LineToName}
use Rattle.write.specs.Writes.{LinesHeld, WriteReady, output_at, AtCell, LinesWritten}
use Rattle.write.specs.Steps.{Filled, LineToPaint, Painted, LinePainted}
use Rattle.names.proofs.NameLaws.{now_long, now_runs, now_start, now_ready, now_name, named_then, named_still, number_le, named_none}
use Rattle.write.proofs.LineLaws.{painted_as}

-- ---- places of lines

line_room : (m n w : ℕ) → m < n → m * w + w ≤ n * w
line_room m n w h = omega (arith, mul-le-mul_right w h, suc-mul m w)

-- ---- the part from place a on, lent, and the whole once it is back

module _ {A : Type 0} where
  abbrev pub lent : ℕ → List A → List A
  lent a cells = mid_of a (length cells - a) cells

  abbrev pub back : ℕ → List A → List A → List A
  back a cells part = put_mid a (length cells - a) cells part

  module _ (z : A) (a : ℕ) (cells part : List A) (fits : a ≤ length cells) where
    back_before : (j : ℕ) → j < a → get_or (back a cells part) j z ≡ get_or cells j z
    back_before j h = let n = length-take-le a cells fits in get_or-append (take a cells) _ z j (omega arith) ∙ get_or-take a cells j z h

    back_from : (x : ℕ) → x < length part → get_or (back a cells part) (a + x) z ≡ get_or part x z
    back_from x h =
        subst (λ (k : ℕ). get_or (back a cells part) (k + x) z ≡ get_or part x z) (length-take-le a cells fits)
        (get_or-append-add (take a cells) _ x z ∙ get_or-append part (post_of a (length cells - a) cells) z x h)

-- ---- the lines before line ℓ, written

pub record LinesTo (kind : Number) (L w fed : ℕ) (ws : List ℕ) (out : List (Value kind)) (now : List ℕ) (c : ℕ)
    (cells : List (Value kind)) (ℓ : ℕ) : Type 0 where
  pub asked : WriteReady kind L w fed ws (length cells)
  pub upto : ℓ ≤ fed
  pub names : Named L (line_start ws ℓ) ws now c
  pub long : length cells ≡ length out
  pub covered : (m x r : ℕ) → AtCell L ℓ ws m x r → output_at kind cells (m * w + x) ≡ write kind (number_in (parent_of L ws) r)
  pub zeros : (m x : ℕ) → m < ℓ → x < w → ((r : ℕ) → AtCell L ℓ ws m x r → ⊥) → output_at kind cells (m * w + x) ≡ write kind 0

-- a cell of the lines before ℓ, as one of those before k
wider : {L ℓ k : ℕ} {ws : List ℕ} {m x r : ℕ} → m < k → AtCell L ℓ ws m x r → AtCell L k ws m x r
wider h A = record { is_fed = h; low = A.low; high = A.high; covers = A.covers }

-- the line starts rise
rise : {L w fed : ℕ} {ws : List ℕ} → LinesHeld L w fed ws → (m k : ℕ) → m ≤ k → k ≤ fed → line_start ws m ≤ line_start ws k
rise {fed = fed} {ws = ws} H m k h = le_ind (λ j. j ≤ fed → line_start ws m ≤ line_start ws j) (λ u. le_refl _) step k h
  where
    step : (j : ℕ) → m ≤ j → (j ≤ fed → line_start ws m ≤ line_start ws j) → suc j ≤ fed → line_start ws m ≤ line_start ws (suc j)
    step j l below u = le_trans (below (omega arith)) (H.sorted j u).upto

module _ {L w fed : ℕ} {ws : List ℕ} (H : LinesHeld L w fed ws) where
  -- a run of a fed line is one of those held
  held : (m r : ℕ) → m < fed → r < line_start ws (suc m) → r < line_start ws fed
  held m r h l = omega (arith, rise H (suc m) fed h (le_refl fed))

  -- a cell that a run covers is within the width
  in_width : (m x r : ℕ) → AtCell L fed ws m x r → x < w
  in_width m x r at = omega (arith, at.covers, H.inside r (held m r at.is_fed at.high))

pub lines_begin : (kind : Number) {L w fed : ℕ} {ws : List ℕ} {out : List (Value kind)} → WriteReady kind L w fed ws (length out)
    → LinesTo kind L w fed ws out ws 0 out 0
lines_begin kind {L} {w} {fed} {ws} A = record {
  asked = A;
  upto = omega arith;
  names = subst (λ (k : ℕ). Named L k ws ws 0) (sym A.lines.first) (named_none L ws);
  long = refl;
  covered = λ m x r at. absurd (omega (arith, at.is_fed));
  zeros = λ m x h. absurd (omega arith);
}

module _ (kind : Number) {L w fed : ℕ} {ws : List ℕ} {out : List (Value kind)} {now : List ℕ} {c : ℕ} {cells : List (Value kind)} {ℓ : ℕ}
    (T : LinesTo kind L w fed ws out now c cells ℓ) where
  abbrev A : WriteReady kind L w fed ws (length cells)
  A = T.asked

  -- the fed lines end within the output
  pub fed_room : fed * w ≤ length cells
  fed_room = omega (arith, mul-le-mul_right w A.lines.within, A.places)

  module _ (h : ℓ < fed) where
    pub lent_room : ℓ * w + w ≤ length cells
    lent_room = omega (arith, fed_room, line_room ℓ fed w h)

    below : line_start ws ℓ ≤ line_start ws (suc ℓ)
    below = (A.lines.sorted ℓ h).upto

    ready : NamesReady L (line_start ws (suc ℓ)) ws
    ready =
        let fewer = rise A.lines (suc ℓ) fed h (le_refl fed) in
        record {
          room = omega (arith, A.runs.room, fewer);
          parents = λ r l. A.runs.parents r (omega (arith, fewer));
          small = omega (arith, A.runs.small, fewer);
        }

    room : L + 1 + stride * line_start ws ℓ ≤ length ws
    room = omega (arith, ready.room, below)

    -- the words hold this line's runs as at first
    this : line_start now ℓ ≡ line_start ws ℓ
    this = now_start T.names ℓ (omega (arith, A.lines.within))

    next : line_start now (suc ℓ) ≡ line_start ws (suc ℓ)
    next = now_start T.names (suc ℓ) (omega (arith, A.lines.within))

    pub name_asked : LineToName L ℓ now c
    name_asked = record {
      within = omega (arith, A.lines.within);
      runs = rw next (now_ready T.names (line_start ws (suc ℓ)) ready);
      rising = omega (arith, this, next, below);
      before = rw this (named_still T.names room);
    }

    module _ {later : List ℕ} {d : ℕ} (N : Named L (line_start now (suc ℓ)) now later d) where
      all_named : Named L (line_start ws (suc ℓ)) ws later d
      all_named = named_then T.names room below (subst (λ (k : ℕ). Named L k now later d) next N)

      from : line_start later ℓ ≡ line_start ws ℓ
      from = now_start all_named ℓ (omega (arith, A.lines.within))

      to : line_start later (suc ℓ) ≡ line_start ws (suc ℓ)
      to = now_start all_named (suc ℓ) (omega (arith, A.lines.within))

      -- each name is the run's number
      name_is : (r : ℕ) → r < line_start ws (suc ℓ) → name_of L later r ≡ number_in (parent_of L ws) r
      name_is = now_name all_named ready.room

      -- the runs stand
      as_first : stored_run L ws ≡ stored_run L later
      as_first = sym (now_runs all_named)

      pub paint_asked : LineToPaint kind L w ℓ later (length (lent (ℓ * w) cells))
      paint_asked = record {
        within = omega (arith, A.lines.within);
        words = omega (arith, to, now_long all_named, ready.room);
        sorted = rw (from, to)
            (subst (λ (R : ℕ → Run). InOrder R (line_start ws ℓ) (line_start ws (suc ℓ))) as_first (A.lines.sorted ℓ h));
        inside = λ r l u. subst (λ (R : ℕ → Run). (R r).end ≤ w) as_first (A.lines.inside r (held A.lines ℓ r h (rw (← to) u)));
        fits = λ r l u.
            let under : r < line_start ws (suc ℓ) = rw (← to) u in
            let most = number_le (parent_of L ws) (line_start ws fed) A.runs.parents r (held A.lines ℓ r h under) in
            omega (arith, name_is r under, A.fits, most);
        places = simp (length-take, length-drop) (omega (arith, lent_room));
      }

      module _ {part : List (Value kind)} (P : LinePainted kind L w ℓ later (lent (ℓ * w) cells) part) where
        -- the line's runs and their numbers, as at first
        abbrev AsFirst : (ℕ → Run) → (ℕ → ℕ) → Type 0
        AsFirst R number = Painted kind R number (line_start ws ℓ) (line_start ws (suc ℓ)) w (lent (ℓ * w) cells) part

        painted : AsFirst (stored_run L ws) (number_in (parent_of L ws))
        painted =
            painted_as kind (λ r l u. name_is r u)
            (subst (λ (R : ℕ → Run). AsFirst R (name_of L later)) (now_runs all_named) (rw (← from, ← to) P))

        pub lines_turn : LinesTo kind L w fed ws out later d (back (ℓ * w) cells part) (ℓ + 1)
        lines_turn = record {
          asked = subst (WriteReady kind L w fed ws) (sym same_long) A;
          upto = omega arith;
          names = subst (λ (k : ℕ). Named L (line_start ws k) ws later d) (sym (add-one ℓ)) all_named;
          long = same_long ∙ T.long;
          covered = λ m x r at. cover m x r at (ltb m ℓ) refl;
          zeros = λ m x l u none. zero m x l u none (ltb m ℓ) refl;
        }
          where
            same_long : length (back (ℓ * w) cells part) ≡ length cells
            same_long = same_len_mid (ℓ * w) (length cells - ℓ * w) cells part P.long

            fits : ℓ * w ≤ length cells
            fits = omega (arith, lent_room)

            -- earlier lines stand, and this one is the part
            earlier : (m x : ℕ) → m < ℓ → x < w → output_at kind (back (ℓ * w) cells part) (m * w + x) ≡ output_at kind cells (m * w + x)
            earlier m x l u = back_before (write kind 0) (ℓ * w) cells part fits (m * w + x) (omega (arith, line_room m ℓ w l))

            long_part : length part ≡ length (lent (ℓ * w) cells)
            long_part = P.long

            here : (x : ℕ) → x < w → output_at kind (back (ℓ * w) cells part) (ℓ * w + x) ≡ output_at kind part x
            here x u = back_from (write kind 0) (ℓ * w) cells part fits x (omega (arith, long_part, paint_asked.places))

            cover : (m x r : ℕ) → AtCell L (ℓ + 1) ws m x r → (t : Bool) → ltb m ℓ ≡ t
                → output_at kind (back (ℓ * w) cells part) (m * w + x) ≡ write kind (number_in (parent_of L ws) r)
            cover m x r at t e = go t e (in_width A.lines m x r (wider (omega (arith, at.is_fed)) at))
              where
                go : (t : Bool) → ltb m ℓ ≡ t → x < w
                    → output_at kind (back (ℓ * w) cells part) (m * w + x) ≡ write kind (number_in (parent_of L ws) r)
                go true e u = let l = ltb-true m ℓ e in earlier m x l u ∙ T.covered m x r (wider l at)
                go false e u =
                    let l = ltb-false m ℓ e in
                    let same : m ≡ ℓ = omega (arith, at.is_fed) in
                    let o : AtCell L (ℓ + 1) ws ℓ x r = subst (λ (k : ℕ). AtCell L (ℓ + 1) ws k x r) same at in
                    ap (λ (k : ℕ). output_at kind (back (ℓ * w) cells part) (k * w + x)) same ∙ here x u
                    ∙ painted.covered x r o.low o.high o.covers

            zero : (m x : ℕ) → m < ℓ + 1 → x < w → ((r : ℕ) → AtCell L (ℓ + 1) ws m x r → ⊥) → (t : Bool) → ltb m ℓ ≡ t
                → output_at kind (back (ℓ * w) cells part) (m * w + x) ≡ write kind 0
            zero m x l u none true e = let k = ltb-true m ℓ e in earlier m x k u ∙ T.zeros m x k u (λ r at. none r (wider l at))
            zero m x l u none false e =
                let k = ltb-false m ℓ e in
                let same : m ≡ ℓ = omega arith in
                ap (λ (j : ℕ). output_at kind (back (ℓ * w) cells part) (j * w + x)) same ∙ here x u
                ∙ painted.zeros x u (λ r lo hi cov. none r (record {
                  is_fed = l;
                  low = rw same lo;
                  high = rw same hi;
                  covers = cov;
                }))

  -- zeros past the fed lines
  pub lines_done : {whole : List (Value kind)} → fed ≤ ℓ → Filled kind (fed * w) (length cells) (write kind 0) cells whole
      → LinesWritten kind L w fed ws now out whole
  lines_done {whole} left F = record {
    names = T.names.names ∙ ap (λ (k : ℕ). named L (line_start ws k) ws) all;
    long = F.long ∙ T.long;
    covered = λ m x r at. F.before (m * w + x) (omega (arith, line_room m fed w at.is_fed, in_width A.lines m x r at))
        ∙ T.covered m x r (wider (omega (arith, at.is_fed)) at);
    zeros = λ m x l u none. zero m x l u none (ltb m fed) refl;
  }
    where
      all : ℓ ≡ fed
      all = omega (arith, T.upto)

      zero : (m x : ℕ) → m < L → x < w → ((r : ℕ) → AtCell L fed ws m x r → ⊥) → (t : Bool) → ltb m fed ≡ t
          → output_at kind whole (m * w + x) ≡ write kind 0
      zero m x l u none true e =
          let k = ltb-true m fed e in
          F.before (m * w + x) (omega (arith, line_room m fed w k)) ∙ T.zeros m x (omega arith) u (λ r at. none r (wider k at))
      zero m x l u none false e =
          let k = mul-le-mul_right w (ltb-false m fed e) in
          F.inside (m * w + x) (omega (arith, k)) (omega (arith, line_room m L w l, A.places))
