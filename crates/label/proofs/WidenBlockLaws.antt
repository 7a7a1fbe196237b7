-- The stored lines, united again by crate block, leave the words and the joins that a structure change promises.
-- Assumes nothing.
use mathlib.Core.Path.{◌≡◌, refl, sym, ap, ap₂, ◌∙◌, subst}
use mathlib.Core.Bool.{true}
use mathlib.Core.List.{List, []}
use Prim.Native.Nat.{ℕ, suc, ◌+◌, ◌^◌, ◌≤◌, ◌<◌}
use native.Mathlib.Nat.{zero-add, mul-le-mul_right, not-suc-le-zero}
use native.Mathlib.Omega.{arith}
use lib.ListN.{length}
use Rattle.std.proofs.Common.{Result, Ok}
use Rattle.groups.specs.Groups.{Edge, rep, sum_over, joins, visit}
use Rattle.groups.proofs.SumLaws.{sum_values}
use Rattle.frame.specs.Shape.{width}
use Rattle.frame.specs.Runs.{run_length}
use Rattle.frame.specs.Touches.{touches}
use Rattle.frame.specs.Plain.{fed}
use Rattle.frame.specs.Words.{line_start, parent_of, size_word, stored_run}
use Rattle.frame.proofs.ShapeLaws.{size_lines_lem}
use Rattle.frame.proofs.EntryLaws.{length_entries}
use Rattle.frame.proofs.CellLaws.{lengths_sum}
use Rattle.forest.specs.Forest.{root_of, grouping, Sums}
use Rattle.forest.proofs.SizeLaws.{sums_same, sums_values, brought_new}
use Rattle.geo.specs.declared.Geo.{Geo}
use Rattle.geo.specs.Geometry.{ThreeDims, GeoOf}
use Rattle.block.specs.Blocks.{brought_in, BlockReady, touches_from, BlockUnited}
use Rattle.causes.specs.declared.Cause.{Cause}
use Rattle.label.specs.declared.FedLines.{FedLines}
use Rattle.label.specs.declared.Session.{Session}
use Rattle.label.specs.Record.{shape_of, lines_of, with_structure}
use Rattle.label.specs.Sound.{Sound}
use Rattle.label.specs.Held.{cells_of}
use Rattle.label.specs.Widening.{widen_cause_of, widen_touches, widen_edges, widen_size, widen_record, WidenWords, WidenPromise}
use Rattle.label.specs.Steps.{RecordFound, WidenAccepted}
use Rattle.label.proofs.AcceptedLaws.{cause_widens, widen_short, widen_promise}
use Rattle.label.proofs.RecordGeometry.{geo_lines}
use Rattle.label.proofs.CheckLaws.{passed_cause, passed_geometry}
use Rattle.label.proofs.StoredSound.{stores_ordered}
use Rattle.label.proofs.SoundCells.{sound_stores}
use Rattle.label.proofs.WrittenNumbers.{names_ready}
use Rattle.label.proofs.FitLaws.{limits, total_few}

module _ (s : Session) (ws structure : List ℕ) (G : WidenAccepted s ws structure) (g : Geo)
    (K : GeoOf s.rank s.shape s.structure g) where
  -- L, and each run's length
  abbrev L : ℕ
  L = lines_of s

  abbrev long : ℕ → ℕ
  long r = run_length (stored_run (lines_of s) ws r)

  S : Sound s ws
  S = G.is_sound

  -- ---- ready

  last_start : line_start ws (0 + s.fed) ≡ s.figures.runs
  last_start = ap (line_start ws) (zero-add s.fed) ∙ S.words.last

  -- no run stands before the first line, so each brings its length
  brings_are : (r : ℕ) → brought_in L ws 0 r ≡ long r
  brings_are r = brought_new (line_start ws 0) (parent_of L ws) (size_word L ws) long r (rw S.words.first (omega arith))

  -- no more than the frame's cells
  brings_few : sum_over (λ r. true) (brought_in L ws 0) (line_start ws (0 + s.fed)) < 4294967296
  brings_few =
      rw last_start (omega (
        arith,
        sum_values (λ r. true) (brought_in L ws 0) long s.figures.runs (λ r h e. brings_are r),
        lengths_sum (stored_run L ws) s.figures.runs,
        S.words.total,
        total_few s ws S,
        mul-le-mul_right (width (shape_of s)) S.shape.within,
        size_lines_lem (shape_of s),
        (limits s ws S).2,
      ))

  bytes_are : length structure ≡ 3 ^ suc g.leads
  unfolding shape_of
  bytes_are = G.bytes ∙ ap (λ (n : ℕ). 3 ^ n) (length_entries s.rank s.shape ∙ K.rank_is)

  ready : BlockReady g.leads g.dims L structure ws 0 s.fed
  ready = record {
    leading = subst (ThreeDims g.leads g.dims) (geo_lines s ws g K) K.three;
    bytes = omega (arith, bytes_are);
    within = omega (arith, S.shape.within);
    room = rw last_start (names_ready s ws S).room;
    sorted = λ m h. stores_ordered s ws (cells_of s ws) (sound_stores s ws S) m (omega arith);
    parents = λ r h. absurd (not-suc-le-zero (rw S.words.first at h));
    small = brings_few;
  }

  pub widen_ready : BlockReady g.leads g.dims g.lines structure ws 0 s.fed
  widen_ready = rw (geo_lines s ws g K) ready

  -- ---- united

  module _ (ws' : List ℕ) (t : ℕ) (B : BlockUnited g.leads g.dims g.lines structure ws ws' 0 s.fed t) where
    U : BlockUnited g.leads g.dims L structure ws ws' 0 s.fed t
    U = rw (← geo_lines s ws g K) B

    none_before : grouping (parent_of L ws) (line_start ws 0) ≡ []
    none_before = ap (grouping (parent_of L ws)) S.words.first ∙ (unfold grouping in refl)

    edges_are : visit (touches_from g.leads g.dims L structure ws 0 s.fed) (grouping (parent_of L ws) (line_start ws 0))
        ≡ widen_edges s ws structure
    unfolding widen_edges widen_touches shape_of
    edges_are =
        ap₂ visit (ap (λ (ds : List ℕ). touches ds structure (line_start ws) (stored_run L ws) 0 s.fed) K.leading_is) none_before

    roots_are : (r : ℕ) → r < s.figures.runs → root_of (parent_of L ws') r ≡ rep (widen_edges s ws structure) r
    roots_are r h = U.grouped r (rw last_start h) ∙ ap (λ (es : List Edge). rep es r) edges_are

    sizes_are : (r : ℕ) → r < s.figures.runs → rep (widen_edges s ws structure) r ≡ r → size_word L ws' r ≡ widen_size s ws structure r
    unfolding widen_size
    sizes_are = sums_values (rep (widen_edges s ws structure)) (size_word L ws') (brought_in L ws 0) long s.figures.runs
        (λ r h. brings_are r)
        (sums_same (root_of (parent_of L ws')) (rep (widen_edges s ws structure)) (size_word L ws') (size_word L ws') (brought_in L ws 0)
        s.figures.runs (λ r h. sym (roots_are r h)) (λ r h e. refl)
        (subst (λ (n : ℕ). Sums (root_of (parent_of L ws')) (size_word L ws') (brought_in L ws 0) n) last_start U.sized))

    pub widen_words : WidenWords s ws structure ws'
    widen_words = record {
      long = U.long;
      others = λ j free. U.others j (rw last_start free);
      parents = λ r h. U.parents r (rw last_start h);
      grouped = roots_are;
      sized = sizes_are;
    }

    pub widen_joins : t ≡ joins (widen_edges s ws structure)
    widen_joins =
        let none : joins (grouping (parent_of L ws) (line_start ws 0)) ≡ 0 = ap joins none_before ∙ (unfold joins in refl) in
        omega (arith, U.counted, none, ap joins edges_are)

-- so where the check of a structure change passed
module _ (s : Session) (ws structure : List ℕ) {r : Result Geo Cause} (F : RecordFound s (widen_cause_of s ws structure) r)
    {g : Geo} (is : r ≡ Ok g) where
  no_cause : widen_cause_of s ws structure ≡ 0
  no_cause = passed_cause s F is

  given : WidenAccepted s ws structure
  given = cause_widens s ws structure no_cause

  geometry : GeoOf s.rank s.shape s.structure g
  geometry = passed_geometry s F is

  pub passed_ready : BlockReady g.leads g.dims g.lines structure ws 0 s.fed
  passed_ready = widen_ready s ws structure given g geometry

  pub passed_bytes : length structure ≤ 81
  passed_bytes = widen_short s ws structure no_cause

  pub passed_widen : {ws' : List ℕ} {n : ℕ} → BlockUnited g.leads g.dims g.lines structure ws ws' 0 s.fed n
      → {s₁ : Session} → s₁ ≡ with_structure s structure n → {l : FedLines} → l ≡ record { lines = s₁.fed; figures = s₁.figures }
      → WidenPromise s ws structure (fed l.lines l.figures) s₁ ws'
  passed_widen {ws'} {n} U {s₁} made said =
      let W = widen_words s ws structure given g geometry ws' n U in
      let to : s₁ ≡ widen_record s ws structure = unfold widen_record in made
      ∙ ap (with_structure s structure) (widen_joins s ws structure given g geometry ws' n U) in
      widen_promise s ws structure no_cause ws' W s₁ to _ (ap (λ (l : FedLines). fed l.lines l.figures) said)
