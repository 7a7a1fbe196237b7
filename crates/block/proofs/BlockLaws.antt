-- The runs of lines, extracted one line after another, for any kind of cell.
-- Assumes nothing.
use mathlib.Core.Path.{◌≡◌, refl, sym, ap, ap₂, ◌∙◌, subst}
use mathlib.Core.Bool.{Bool, true, false}
use mathlib.Core.List.{List, [], ◌∷◌, ◌++◌, map}
use Prim.Native.Nat.{ℕ, zero, suc, ◌+◌, ◌-◌, ◌*◌, ◌≤◌, ◌<◌}
use native.Mathlib.Decide.{ℕ_discrete, le_ind}
use native.Mathlib.Nat.{le_refl, mul-le-mul_right, zero-mul, suc-mul, zero-add}
use native.Mathlib.Numerals.{add-one}
use native.Mathlib.Omega.{arith}
use borrow.Rule.Slice.PartMut.{mid_of}
use borrow.Author.Tests.{ltb-true, ltb-false}
use lib.Dec.{ltb}
use lib.ListN.{length, get_or, set, take, drop, length-append, length-set, length-take, length-map, get_or-append}
use lib.Seq.{get_or-append-add, get_or-set_same, get_or-set_other}
use Rattle.groups.specs.Groups.{gather}
use Rattle.groups.proofs.GatherLaws.{gather_snoc}
use Rattle.frame.specs.Memory.{stride}
use Rattle.frame.specs.Words.{start_at, end_at, start_place, end_place, line_start, stored_run}
use Rattle.frame.specs.Runs.{nonzero_cells, Run, none, line_runs, line_of}
use Rattle.frame.proofs.CellLaws.{cells_none, cells_line, cells_most, cells_split}
use Rattle.runs.specs.declared.Counts.{Counts}
use Rattle.runs.specs.Extract.{put_runs, Room, Extracted}
use Rattle.runs.proofs.PutLaws.{put_other, put_below, put_start, put_end, extracted_long}
use Rattle.block.specs.Blocks.{lines_runs, lines_cells, BlockRoom, Unwritten, Block}

-- ---- a line of the cells, and its flags

module _ {A : Type 0} (f : A → Bool) where
  map_take : (n : ℕ) (xs : List A) → map f (take n xs) ≡ take n (map f xs)
  map_take zero xs = refl
  map_take (suc n) [] = refl
  map_take (suc n) (x ∷ xs) = ap (λ (l : List Bool). f x ∷ l) (map_take n xs)

  map_drop : (n : ℕ) (xs : List A) → map f (drop n xs) ≡ drop n (map f xs)
  map_drop zero xs = refl
  map_drop (suc n) [] = refl
  map_drop (suc n) (x ∷ xs) = map_drop n xs

  line_flags : (w i : ℕ) (cells : List A) → map f (mid_of (i * w) (i * w + w - i * w) cells) ≡ line_of w (map f cells) i
  unfolding line_of
  line_flags w i cells =
      let e : i * w + w - i * w ≡ w = omega arith in
      ap (λ (m : ℕ). map f (take m (drop (i * w) cells))) e ∙ map_take w (drop (i * w) cells) ∙ ap (take w) (map_drop (i * w) cells)

-- the cells of line i, of k lines
line_within : (i k w : ℕ) → i < k → i * w + w ≤ k * w
line_within i k w h = omega (arith, suc-mul i w, mul-le-mul_right {m = suc i} {n = k} w h)

module _ (left : Bool) (w L fed runs : ℕ) (flags : List Bool) where
  abbrev all : ℕ → List Run
  all i = lines_runs left w flags i

  abbrev here : ℕ → List Run
  here i = line_runs left (line_of w flags i)

  all_suc : (i : ℕ) → lines_runs left w flags (suc i) ≡ lines_runs left w flags i ++ line_runs left (line_of w flags i)
  unfolding lines_runs
  all_suc i = gather_snoc here 0 i ∙ ap (λ (x : ℕ). all i ++ here x) (zero-add i)

  count_suc : (i : ℕ)
      → length (lines_runs left w flags (suc i)) ≡ length (lines_runs left w flags i) + length (line_runs left (line_of w flags i))
  count_suc i = ap length (all_suc i) ∙ length-append (all i) (here i)

  count_rise : (i k : ℕ) → i ≤ k → length (lines_runs left w flags i) ≤ length (lines_runs left w flags k)
  count_rise i k h =
      le_ind (λ k. length (all i) ≤ length (all k)) (le_refl (length (all i))) (λ k l below. omega (arith, below, count_suc k)) k h

  -- no line yet
  pub block_none : (ws : List ℕ) → Block left w L fed runs 0 flags ws ws (record { runs = 0; cells = 0 })
  unfolding lines_runs lines_cells gather
  block_none ws = record {
    counted = omega arith;
    total = sym (ap (λ (n : ℕ). nonzero_cells (take n flags)) (zero-mul w) ∙ cells_none);
    long = refl;
    lined = λ i h. absurd (omega arith);
    ran = λ r h. absurd
        (omega arith);
    others = λ j a. refl;
  }

  -- line i, after the lines before it
  module _ (k : ℕ) (ws : List ℕ) (R : BlockRoom left w L fed runs k flags ws) (i : ℕ) (h : i < k) (now : List ℕ) (n c : ℕ)
      (B : Block left w L fed runs i flags ws now (record { runs = n; cells = c })) where
    -- how many runs there are with it
    upto : n + length (here i) ≤ length (all k)
    upto = omega (arith, B.counted, count_suc i, count_rise (suc i) k h)

    place_fits : L + 1 + stride * (runs + n + length (here i)) ≤ length now
    place_fits = omega (arith, upto, R.room, B.long)

    line_room : Room left (line_of w flags i) now (L + 1 + stride * (runs + n))
    unfolding line_of
    line_room = record { short = omega (arith, length-take w (drop (i * w) flags), R.short); room = omega (arith, place_fits) }

    -- its runs are written, then its line start
    module _ (next : List ℕ) (m : Counts) (X : Extracted left (line_of w flags i) now next (L + 1 + stride * (runs + n)) m) where
      abbrev at : ℕ
      at = L + 1 + stride * (runs + n)

      abbrev after : List ℕ
      after = set next (fed + i + 1) (runs + (n + m.runs))

      count_now : n + m.runs ≡ length (all (suc i))
      count_now = omega (arith, B.counted, X.counted, count_suc i)

      line_small : runs + (n + m.runs) < 4294967296
      line_small = omega (arith, upto, X.counted, R.small)

      cells_now : c + m.cells ≡ lines_cells w flags (suc i)
      unfolding lines_cells
      cells_now = omega (arith, B.total, X.total, cells_line w i flags)

      -- no more than the cells of the lines
      line_few : c + m.cells ≤ length flags
      unfolding lines_cells
      line_few = omega (arith, cells_now, cells_split (suc i * w) flags, cells_most flags)

      word : (j : ℕ) → (j ≡ fed + i + 1 → ⊥) → get_or after j 0 ≡ get_or (put_runs now at (here i)) j 0
      word j ne = get_or-set_other next (fed + i + 1) j (runs + (n + m.runs)) 0 ne ∙ ap (λ (l : List ℕ). get_or l j 0) X.written

      starts : (j : ℕ) → j < suc i → line_start after (fed + suc j) ≡ runs + length (all (suc j))
      starts j l = go (ℕ_discrete j i)
        where
          go : Dec (j ≡ i) → line_start after (fed + suc j) ≡ runs + length (all (suc j))
          go (yes e) =
              let q : fed + suc j ≡ fed + i + 1 = omega arith in
              ap (λ (x : ℕ). get_or after x 0) q
              ∙ get_or-set_same next (fed + i + 1) (runs + (n + m.runs)) 0 (omega (arith, extracted_long X, place_fits, R.within))
              ∙ ap (λ (x : ℕ). runs + x) count_now
              ∙ ap (λ (x : ℕ). runs + length (all (suc x))) (sym e)
          go (no e) =
              word (fed + suc j) (λ q. omega arith) ∙ put_below (here i) now at (fed + suc j) (omega (arith, R.within))
              ∙ B.lined j (omega arith)

      -- a run of the lines before, and one of this line
      old_run : (r : ℕ) → r < length (all i) → stored_run L after (runs + r) ≡ get_or (all i ++ here i) r none
      old_run r l =
          let s : start_place L (runs + r) < at = omega (arith, B.counted) in
          let e : end_place L (runs + r) < at = omega (arith, B.counted) in
          ap₂ (λ (x : ℕ) (y : ℕ). record { start = x; end = y })
          (word (start_place L (runs + r)) (λ q. omega (arith, R.within)) ∙ put_below (here i) now at (start_place L (runs + r)) s)
          (word (end_place L (runs + r)) (λ q. omega (arith, R.within)) ∙ put_below (here i) now at (end_place L (runs + r)) e)
          ∙ B.ran r l
          ∙ sym (get_or-append (all i) (here i) none r l)

      new_run : (q : ℕ) → q < length (here i)
          → stored_run L after (runs + (length (all i) + q)) ≡ get_or (all i ++ here i) (length (all i) + q) none
      new_run q l =
          let s : start_place L (runs + (length (all i) + q)) ≡ at + start_at q = omega (arith, B.counted) in
          let e : end_place L (runs + (length (all i) + q)) ≡ at + end_at q = omega (arith, B.counted) in
          ap₂ (λ (x : ℕ) (y : ℕ). record { start = x; end = y })
          (ap (λ (x : ℕ). get_or after x 0) s ∙ word (at + start_at q) (λ z. omega (arith, R.within)) ∙ put_start (here i) now at q none l
          line_room.room)
          (ap (λ (x : ℕ). get_or after x 0) e ∙ word (at + end_at q) (λ z. omega (arith, R.within)) ∙ put_end (here i) now at q none l
          line_room.room)
          ∙ sym (get_or-append-add (all i) (here i) q none)

      runs_then : (r : ℕ) → r < length (all (suc i)) → stored_run L after (runs + r) ≡ get_or (all (suc i)) r none
      runs_then r l = go (ltb r (length (all i))) refl ∙ ap (λ (rs : List Run). get_or rs r none) (sym (all_suc i))
        where
          go : (t : Bool) → ltb r (length (all i)) ≡ t → stored_run L after (runs + r) ≡ get_or (all i ++ here i) r none
          go true t = old_run r (ltb-true r (length (all i)) t)
          go false t =
              let ge = ltb-false r (length (all i)) t in
              let e : length (all i) + (r - length (all i)) ≡ r = omega arith in
              subst (λ (x : ℕ). stored_run L after (runs + x) ≡ get_or (all i ++ here i) x none) e
              (new_run (r - length (all i)) (omega (arith, count_suc i)))

      others_stand : (j : ℕ) → Unwritten L fed runs (suc i) (length (all (suc i))) j → get_or after j 0 ≡ get_or ws j 0
      others_stand j A =
          word j (λ e. A.no_line i (le_refl (suc i)) (omega arith))
          ∙ put_other (here i) now at j
          (λ q l.
          let u : length (all i) + q < length (all (suc i)) = omega (arith, count_suc i) in (
            (λ e. A.no_start (length (all i) + q) u (omega (arith, B.counted))),
            (λ e. A.no_end (length (all i) + q) u (omega (arith, B.counted))),
          ))
          ∙ B.others j
          (record {
            no_line = λ x l. A.no_line x (omega arith);
            no_start = λ r l. A.no_start r (omega (arith, count_suc i));
            no_end = λ r l. A.no_end r (omega (arith, count_suc i));
          })

      line_then : Block left w L fed runs (i + 1) flags ws (set next (fed + i + 1) (runs + (n + m.runs)))
          (record { runs = n + m.runs; cells = c + m.cells })
      line_then =
          subst (λ (x : ℕ). Block left w L fed runs x flags ws after (record { runs = n + m.runs; cells = c + m.cells }))
          (sym (add-one i))
          (record {
            counted = count_now;
            total = cells_now;
            long = length-set next (fed + i + 1) (runs + (n + m.runs)) ∙ extracted_long X ∙ B.long;
            lined = starts;
            ran =
                runs_then;
            others = others_stand;
          })

  -- the loop's end
  pub block_end : (i k : ℕ) → i ≤ k → k ≤ i → {ws now : List ℕ} {c : Counts} → Block left w L fed runs i flags ws now c
      → Block left w L fed runs k flags ws now c
  block_end i k a b {ws} {now} {c} B = let e : i ≡ k = omega arith in subst (λ (x : ℕ). Block left w L fed runs x flags ws now c) e B

-- ---- of cells of any kind, whose line i is lent as a part

module _ {A : Type 0} (f : A → Bool) (cells : List A) {left : Bool} {w L fed runs k : ℕ} {ws : List ℕ}
    (R : BlockRoom left w L fed runs k (map f cells) ws) where
  -- the cells of line i are there
  pub cells_fit : (i : ℕ) → i < k → i * w + w ≤ length cells
  cells_fit i h = omega (arith, line_within i k w h, R.whole, length-map cells f)

  module _ {i : ℕ} (h : i < k) {now : List ℕ} {n c : ℕ}
      (B : Block left w L fed runs i (map f cells) ws now (record { runs = n; cells = c })) where
    -- the place of its first run is within the words
    pub block_at : L + 1 + stride * (runs + n) ≤ length ws
    block_at = omega (arith, (line_room left w L fed runs (map f cells) k ws R i h now n c B).room, B.long)

    pub block_room : Room left (map f (mid_of (i * w) (i * w + w - i * w) cells)) now (L + 1 + stride * (runs + n))
    block_room = subst (λ (l : List Bool). Room left l now (L + 1 + stride * (runs + n))) (sym (line_flags f w i cells))
        (line_room left w L fed runs (map f cells) k ws R i h now n c B)

    module _ {next : List ℕ} {m : Counts} (X : Extracted left (map f (mid_of (i * w) (i * w + w - i * w) cells)) now next
        (L + 1 + stride * (runs + n)) m) where
      its : Extracted left (line_of w (map f cells) i) now next (L + 1 + stride * (runs + n)) m
      its = subst (λ (l : List Bool). Extracted left l now next (L + 1 + stride * (runs + n)) m) (line_flags f w i cells) X

      -- the count of runs fits a word, and that of nonzero cells is within the cells
      pub block_small : runs + (n + m.runs) < 4294967296
      block_small = line_small left w L fed runs (map f cells) k ws R i h now n c B next m its

      pub block_few : c + m.cells ≤ length cells
      block_few = omega (arith, line_few left w L fed runs (map f cells) k ws R i h now n c B next m its, length-map cells f)

      pub block_then : Block left w L fed runs (i + 1) (map f cells) ws (set next (fed + i + 1) (runs + (n + m.runs)))
          (record { runs = n + m.runs; cells = c + m.cells })
      block_then = line_then left w L fed runs (map f cells) k ws R i h now n c B next m its
