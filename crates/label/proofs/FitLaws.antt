-- The promises ask for no word, size or figure that its type cannot hold: words and sizes are u32, and a record's figures are usize. No
-- union of a sound record's groups overflows.
-- Assumes nothing.
use mathlib.Core.Path.{◌≡◌, refl, sym, ap, ◌∙◌, subst}
use mathlib.Core.Logic.{◌≢◌}
use mathlib.Core.Bool.{Bool, true, false, true≢false, cond}
use mathlib.Core.List.{List, [], ◌∷◌}
use Prim.Native.Nat.{ℕ, zero, suc, ◌+◌, ◌*◌, ◌≤◌, ◌<◌}
use native.Mathlib.Decide.{ℕ_discrete}
use native.Mathlib.Nat.{le_refl, not-suc-le-zero, mul-le-mul_right}
use native.Mathlib.Omega.{arith}
use borrow.Author.Tests.{eqb-true, eq-eqb, ne_eqb, leb-true}
use lib.Dec.{eqb}
use lib.ListN.{get_or, set, length}
use Rattle.groups.specs.Numbers.{Numbered}
use Rattle.groups.proofs.CountLaws.{count_most}
use Rattle.groups.proofs.SumLaws.{sum_le, sum_single}
use Rattle.frame.specs.Shape.{size, width, lines}
use Rattle.frame.specs.ChainRule.{nonzero, any}
use Rattle.frame.specs.Runs.{begins_run, runs}
use Rattle.frame.specs.Kinds.{Number, largest, holds, Value}
use Rattle.frame.specs.Plain.{Answer, kept}
use Rattle.frame.specs.Words.{parent_place, size_place, line_start, parent_of, size_word, NoGroupWord}
use Rattle.frame.specs.Lists.{set_all}
use Rattle.frame.proofs.ShapeLaws.{size_lines_lem}
use Rattle.frame.proofs.ChainRuleLaws.{any_found, any_at}
use Rattle.frame.proofs.LineLaws.{Within}
use Rattle.frame.proofs.CellLaws.{cells_most}
use Rattle.frame.proofs.CauseLaws.{read_accepted, sizes_accepted}
use Rattle.frame.proofs.PlainLaws.{kept_new, kept_old}
use Rattle.forest.specs.Forest.{root_of, own, number_in, root_sizes}
use Rattle.forest.proofs.ForestLaws.{root_stays, own_root, roots_others, root_le}
use Rattle.forest.proofs.SizeLaws.{two_roots}
use Rattle.geo.proofs.GeoLaws.{within_limits}
use Rattle.label.specs.declared.Session.{Session}
use Rattle.label.specs.Record.{shape_of, structure_of, lines_of}
use Rattle.label.specs.Sound.{Sound, sound}
use Rattle.label.specs.Held.{cells_of, HeldStep, root_count, number_at}
use Rattle.label.specs.Opening.{open_record, open_words}
use Rattle.label.specs.Feeding.{runs_after, start_after, run_after, feed_record, with_lines, with_runs, feed_cause_of, FeedWords, FeedPromise}
use Rattle.label.specs.Widening.{widen_record, widen_cause_of, WidenWords, WidenPromise}
use Rattle.label.specs.Reading.{with_names, read_cause_of, ReadPromise, sizes_cause_of, SizesPromise}
use Rattle.label.specs.Steps.{FeedAccepted}
use Rattle.label.proofs.SoundLaws.{sound_right, starts_rise, n_joins}
use Rattle.label.proofs.AcceptedLaws.{cause_accepted, cause_widens}
use Rattle.label.proofs.HoldLaws.{length_held}
use Rattle.label.proofs.StoreLaws.{Stores}
use Rattle.label.proofs.SoundCells.{sound_stores, runs_held, cells_held}
use Rattle.label.proofs.AnyOrigin.{any_numbered}
use Rattle.label.proofs.FeedWordLaws.{Wrote}
use Rattle.label.proofs.FeedLaws.{written}
use Rattle.label.proofs.FeedSizeLaws.{sound_after}
use Rattle.label.proofs.WidenLaws.{widened_sound}
use Rattle.label.proofs.NameLaws.{parents_stand}

-- the fifth words of runs that are no roots are free. Place j is of none, for L lines and n runs
abbrev NotFree : ℕ → ℕ → List ℕ → ℕ → Type 0
NotFree L n ws j = (r : ℕ) → r < n → root_of (parent_of L ws) r ≢ r → j ≢ size_place L r

-- every other word is a u32's
abbrev pub Words32 : Session → List ℕ → Type 0
Words32 s ws = (j : ℕ) → NotFree (lines_of s) s.figures.runs ws j → get_or ws j 0 < 4294967296

-- a root's size is no more than the sum of all roots'
root_size : (p size : ℕ → ℕ) (n : ℕ) → ((r : ℕ) → r < n → p r ≤ r) → (r : ℕ) → r < n → root_of p r ≡ r → size r ≤ root_sizes p size n
unfolding root_sizes
root_size p size n low r h e =
    let one = sum_single (λ s. eqb s r) size n r h (eq-eqb r r refl) (λ s l ne. ne_eqb s r ne) in
    omega (arith, one, sum_le (λ s. eqb s r) (own p) size size n (λ s l. at s l (ℕ_discrete s r)))
  where
    at : (s : ℕ) → s < n → Dec (s ≡ r) → cond (eqb s r) (size s) 0 ≤ cond (own p s) (size s) 0
    at s l (yes q) = rw (q, eq-eqb r r refl, own_root p n low r h ∙ eq-eqb (root_of p r) r e) (le_refl (size r))
    at s l (no q) = rw (ne_eqb s r q) (omega arith)

-- ---- words set to u32s: wherever they are set

set_fits : (ws : List ℕ) (i v : ℕ) → v < 4294967296 → (j : ℕ) → get_or ws j 0 < 4294967296 → get_or (set ws i v) j 0 < 4294967296
set_fits [] i v small j fits = fits
set_fits (x ∷ ws) zero v small zero fits = small
set_fits (x ∷ ws) zero v small (suc j) fits = fits
set_fits (x ∷ ws) (suc i) v small zero fits = fits
set_fits (x ∷ ws) (suc i) v small (suc j) fits = set_fits ws i v small j fits

set_all_fits : (place value : ℕ → ℕ) (n : ℕ) (ws : List ℕ) → ((i : ℕ) → i < n → value i < 4294967296) → (j : ℕ)
    → get_or ws j 0 < 4294967296 → get_or (set_all place value n ws) j 0 < 4294967296
unfolding set_all
set_all_fits place value zero ws small j fits = fits
set_all_fits place value (suc n) ws small j fits = set_fits (set_all place value n ws) (place n) (value n) (small n (le_refl (suc n))) j
    (set_all_fits place value n ws (λ i l. small i (omega arith)) j fits)

pub open_fits : (shape structure ws : List ℕ)
    → Words32 (open_record shape structure) ws → Words32 (open_record shape structure) (open_words ws)
open_fits shape structure ws fits j free = set_fits ws 0 0 (omega arith) j (fits j (λ r h ne. absurd (not-suc-le-zero h)))

-- ---- of a sound record

module _ (s : Session) (ws : List ℕ) (S : Sound s ws) where
  -- the shape, and document 01's limits of w, L and L × w
  abbrev dims : List ℕ
  dims = shape_of s

  pub limits : (width dims < 2147483647) × (lines dims < 4294967293) × (size dims < 4294967293)
  limits = within_limits dims S.shape.limits

  pub fed_fits : s.fed < 4294967293
  fed_fits = omega (arith, S.shape.within, limits.1)

  -- no more runs than cells
  pub runs_fit : s.figures.runs < 4294967293
  unfolding runs
  runs_fit = omega (arith, runs_held s ws S, count_most (begins_run dims (structure_of s) (cells_of s ws)) (size dims), limits.2)

  -- nor more nonzero cells
  pub total_few : s.figures.cells ≤ s.fed * width dims
  total_few = omega (arith, cells_held s ws S, cells_most (cells_of s ws), length_held s ws)

  pub joins_fit : s.figures.joins ≤ s.figures.runs
  joins_fit = omega (arith, n_joins s ws S)

  -- the roots' fifth words add up to the total, so they are no more than the frame's cells together
  pub sizes_few : root_sizes (parent_of (lines_of s) ws) (size_word (lines_of s) ws) s.figures.runs < 4294967293
  sizes_few = omega (arith, S.words.sizes, total_few, mul-le-mul_right (width dims) S.shape.within, size_lines_lem dims, limits.2)

  -- so no union overflows: two roots have together no more
  pub union_fits : (a b : ℕ) → a < s.figures.runs → b < s.figures.runs
      → parent_of (lines_of s) ws a ≡ a → parent_of (lines_of s) ws b ≡ b → a ≢ b
      → size_word (lines_of s) ws a + size_word (lines_of s) ws b < 4294967293
  union_fits a b ha hb ea eb ne =
      let p = parent_of (lines_of s) ws in
      omega (
        arith,
        two_roots p (size_word (lines_of s) ws) s.figures.runs S.words.parents a b ha hb (root_stays p a ea) (root_stays p b eb) ne,
        sizes_few,
      )

  pub size_fits : (r : ℕ) → r < s.figures.runs → root_of (parent_of (lines_of s) ws) r ≡ r → size_word (lines_of s) ws r < 4294967296
  size_fits r h e =
      let p = parent_of (lines_of s) ws in
      omega (arith, root_size p (size_word (lines_of s) ws) s.figures.runs S.words.parents r h e, sizes_few)

  -- so all words are u32s where those are that are no group words: a parent is below the runs
  pub sound_words_fit : ((j : ℕ) → NoGroupWord (lines_of s) s.figures.runs j → get_or ws j 0 < 4294967296) → Words32 s ws
  sound_words_fit others j free = go (any (λ r. eqb j (parent_place L r)) n) refl (any (λ r. eqb j (size_place L r)) n) refl
    where
      L : ℕ
      L = lines_of s

      n : ℕ
      n = s.figures.runs

      At : ℕ → Type 0
      At x = get_or ws x 0 < 4294967296

      is_root_lem : (r : ℕ) → r < n → j ≡ size_place L r → Dec (root_of (parent_of L ws) r ≡ r) → root_of (parent_of L ws) r ≡ r
      is_root_lem r l q (yes z) = z
      is_root_lem r l q (no z) = absurd (free r l z q)

      go : (b : Bool) → any (λ r. eqb j (parent_place L r)) n ≡ b → (c : Bool) → any (λ r. eqb j (size_place L r)) n ≡ c → At j
      go true e c f =
          let r = any_found (λ r. eqb j (parent_place L r)) n e in
          subst At (sym (eqb-true j (parent_place L r.0) r.2)) (omega (arith, S.words.parents r.0 r.1, r.1, runs_fit))
      go false e true f =
          let r = any_found (λ r. eqb j (size_place L r)) n f in
          let q = eqb-true j (size_place L r.0) r.2 in
          subst At (sym q) (size_fits r.0 r.1 (is_root_lem r.0 r.1 q (ℕ_discrete (root_of (parent_of L ws) r.0) r.0)))
      go false e false f = others j (λ r l. (
        λ q. true≢false (sym (any_at (λ r. eqb j (parent_place L r)) n r l (eq-eqb j (parent_place L r) q)) ∙ e),
        λ q. true≢false (sym (any_at (λ r. eqb j (size_place L r)) n r l (eq-eqb j (size_place L r) q)) ∙ f),
      ))

  -- nor is a written number above its kind's largest
  pub numbers_fit : (kind : Number) → holds kind (root_count s ws) ≡ true → (p : ℕ) → p < size dims → number_at s ws p ≤ largest kind
  unfolding holds
  numbers_fit kind e p h = go (nonzero (cells_of s ws) p) refl
    where
      N : Numbered (nonzero (cells_of s ws)) (HeldStep s ws) (size dims) (root_count s ws) (number_at s ws)
      N = any_numbered s ws S

      go : (b : Bool) → nonzero (cells_of s ws) p ≡ b → number_at s ws p ≤ largest kind
      go true a = omega (arith, (N.on p h a).1, leb-true (root_count s ws) (largest kind) e)
      go false a = omega (arith, N.off p h a)

  line_fits : (ℓ : ℕ) → ℓ ≤ s.fed → line_start ws ℓ < 4294967296
  line_fits ℓ h = omega (arith, starts_rise s ws S ℓ s.fed h (le_refl s.fed), S.words.last, runs_fit)

  -- a run's number is not above the count of the runs up to it
  number_fits : (r : ℕ) → r < s.figures.runs → number_in (parent_of (lines_of s) ws) r < 4294967296
  unfolding number_in
  number_fits r h =
      let p = parent_of (lines_of s) ws in
      omega (arith, roots_others p (suc (root_of p r)), root_le p s.figures.runs S.words.parents r h, runs_fit)

  pub names_fit : Words32 s ws → Words32 s (with_names s ws)
  names_fit fits j free = unfold with_names in set_all_fits _ _ s.figures.runs ws number_fits j
      (fits j (λ r l ne. free r l (λ e. ne (ap (λ (p : ℕ → ℕ). root_of p r) (sym (parents_stand s ws)) ∙ e))))

-- ---- a feed

module _ (s : Session) (ws : List ℕ) (k : ℕ) (cells : List Bool) (no_cause : feed_cause_of s ws k cells ≡ 0) (fits : Words32 s ws)
    (ws' : List ℕ) (W : FeedWords s ws k cells ws') where
  -- L, w, the runs afterwards, and the new ones
  abbrev L : ℕ
  L = lines_of s

  abbrev w : ℕ
  w = width (shape_of s)

  abbrev after : ℕ
  after = runs_after s cells

  abbrev new : ℕ
  new = runs (shape_of s) (structure_of s) cells

  G : FeedAccepted s ws k cells
  G = cause_accepted s ws k cells no_cause

  H : Stores s ws (cells_of s ws)
  H = sound_stores s ws G.is_sound

  -- the record is sound again, so that the line starts, runs and parents that the words then hold fit
  S' : Sound (feed_record s ws k cells) ws'
  S' = sound_after s ws (cells_of s ws) H k cells G.few G.whole G.is_sound ws' W

  placed : Wrote s ws k cells ws'
  placed = written s ws (cells_of s ws) H k cells G.few G.whole G.is_sound.shape.memory ws' W

  start_fits : (ℓ : ℕ) → ℓ ≤ s.fed + k → start_after s ws cells ℓ < 4294967296
  unfolding feed_record
  start_fits ℓ h = rw (← placed.lined ℓ h) (line_fits (feed_record s ws k cells) ws' S' ℓ h)

  run_inside : (r : ℕ) → r < after → Within w (run_after s ws cells r)
  unfolding feed_record shape_of
  run_inside r h = subst (Within w) (placed.ran r h) (record { full = S'.words.nonempty r h; fits = S'.words.inside r h })

  -- so do all words, group words aside: the others are as before
  with_runs_lem : (j : ℕ) → get_or ws j 0 < 4294967296 → get_or (with_runs s ws k cells) j 0 < 4294967296
  unfolding with_runs with_lines runs_after
  with_runs_lem j before =
      set_all_fits _ _ new _ (λ i h. let u = run_inside (s.figures.runs + i) (omega arith) in omega (
        arith,
        u.fits,
        (limits s ws G.is_sound).0,
      )) j
      (set_all_fits _ _ new _ (λ i h. let u = run_inside (s.figures.runs + i) (omega arith) in omega (
        arith,
        u.full,
        u.fits,
        (limits s ws G.is_sound).0,
      )) j
      (set_all_fits _ _ k ws (λ i h. start_fits (s.fed + suc i) (omega arith)) j before))

  pub feed_fits : Words32 (feed_record s ws k cells) ws'
  unfolding feed_record shape_of
  feed_fits = sound_words_fit (feed_record s ws k cells) ws' S'
      (λ j free. rw (W.others j free) (with_runs_lem j (fits j (λ r l ne. (free r (unfold runs_after in omega arith)).1))))

-- ---- the promises, on every record: words stay u32s

pub feed_words_fit : (s : Session) (ws : List ℕ) (k : ℕ) (cells : List Bool) (a : Answer) (s' : Session) (ws' : List ℕ)
    → FeedPromise s ws k cells a s' ws' → Words32 s ws → Words32 s' ws'
feed_words_fit s ws k cells a s' ws' P fits = go (feed_cause_of s ws k cells) refl
  where
    go : (c : ℕ) → feed_cause_of s ws k cells ≡ c → Words32 s' ws'
    go zero e = subst (λ (x : Session). Words32 x ws')
        (sym (P.session ∙ kept_new s (feed_record s ws k cells) (feed_cause_of s ws k cells) e))
        (feed_fits s ws k cells e fits ws' (P.accepted e))
    go (suc c) e =
        subst (λ (x : Session). Words32 x ws') (sym (P.session ∙ kept_old s (feed_record s ws k cells) (feed_cause_of s ws k cells) c e))
        (subst (Words32 s) (sym (P.refusal (omega arith))) fits)

pub widen_words_fit : (s : Session) (ws structure : List ℕ) (a : Answer) (s' : Session) (ws' : List ℕ)
    → WidenPromise s ws structure a s' ws' → Words32 s ws → Words32 s' ws'
widen_words_fit s ws structure a s' ws' P fits = go (widen_cause_of s ws structure) refl
  where
    new : Session
    new = widen_record s ws structure

    all_fit : WidenWords s ws structure ws' → Sound new ws' → Words32 new ws'
    all_fit W S = sound_words_fit new ws' S
        (unfold widen_record shape_of in λ j free. rw (W.others j free) (fits j (λ r l ne. (free r l).1)))

    go : (c : ℕ) → widen_cause_of s ws structure ≡ c → Words32 s' ws'
    go zero e =
        let W = P.accepted e in
        subst (λ (x : Session). Words32 x ws') (sym (P.session ∙ kept_new s new (widen_cause_of s ws structure) e))
        (all_fit W (widened_sound s ws structure (cause_widens s ws structure e) ws' W))
    go (suc c) e =
        subst (λ (x : Session). Words32 x ws') (sym (P.session ∙ kept_old s new (widen_cause_of s ws structure) c e))
        (subst (Words32 s) (sym (P.refusal (omega arith))) fits)

-- names are written where there is no cause, and then the record is sound
named_fit : (s : Session) (ws : List ℕ) (c : ℕ) → (c ≡ 0 → Sound s ws) → Words32 s ws → Words32 s (kept c ws (with_names s ws))
unfolding kept
named_fit s ws zero is_sound fits = names_fit s ws (is_sound refl) fits
named_fit s ws (suc c) is_sound fits = fits

pub read_words_fit : (kind : Number) (s : Session) (ws : List ℕ) (out : List (Value kind)) (a : Answer) (s' : Session) (ws' : List ℕ)
    (out' : List (Value kind)) → ReadPromise kind s ws out a s' ws' out' → Words32 s ws → Words32 s' ws'
read_words_fit kind s ws out a s' ws' out' P fits =
    subst (λ (x : Session). Words32 x ws') (sym P.session)
    (subst (Words32 s) (sym P.words)
    (named_fit s ws (read_cause_of kind s ws (length out))
    (λ e. sound_right s ws (read_accepted (sound s ws) (length out) (size (shape_of s)) (holds kind (root_count s ws))
    (unfold read_cause_of in e)).0) fits))

pub sizes_words_fit : (s : Session) (ws out : List ℕ) (a : Answer) (s' : Session) (ws' out' : List ℕ) → SizesPromise s ws out a s' ws' out'
    → Words32 s ws → Words32 s' ws'
sizes_words_fit s ws out a s' ws' out' P fits =
    subst (λ (x : Session). Words32 x ws') (sym P.session)
    (subst (Words32 s) (sym P.words)
    (named_fit s ws (sizes_cause_of s ws (length out))
    (λ e. sound_right s ws (sizes_accepted (sound s ws) (length out) (root_count s ws) (unfold sizes_cause_of in e)).0) fits))
