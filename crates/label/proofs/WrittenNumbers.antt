-- A sound record is ready to have its runs named and its cells' numbers written; and they are what a reading promises.
-- Assumes nothing.
use mathlib.Core.Path.{◌≡◌, refl, sym, ap, ◌∙◌}
use mathlib.Core.Bool.{Bool, true, false, cond, true≢false}
use mathlib.Core.List.{List}
use Prim.Native.Nat.{ℕ, suc, ◌+◌, ◌-◌, ◌*◌, ◌/◌, ◌%◌, ◌≤◌, ◌<◌}
use native.Mathlib.Nat.{le_refl, mod-lt, mul_assoc, mul-le-mul_right, div-add-mod', div-lt_iff_lt-mul}
use native.Mathlib.Omega.{arith}
use lib.ListN.{length}
use Rattle.std.proofs.Common.{Result, Ok}
use lib.Seq.{ext_get_or}
use Rattle.frame.specs.Shape.{size, width}
use Rattle.frame.specs.ChainRule.{nonzero}
use Rattle.frame.specs.Kinds.{Number, largest, Value, write}
use Rattle.frame.specs.Memory.{stride, per_line, words_needed}
use Rattle.frame.specs.Plain.{counted}
use Rattle.frame.specs.Words.{line_start, parent_of}
use Rattle.frame.proofs.ShapeLaws.{factor_pos, size_lines_lem}
use Rattle.frame.proofs.ChainRuleLaws.{any_at}
use Rattle.frame.proofs.FrameRunLaws.{starts_few, line_below}
use Rattle.frame.proofs.ListLaws.{listed_at, listed_length}
use Rattle.forest.specs.Forest.{number_in}
use Rattle.geo.specs.declared.Geo.{Geo}
use Rattle.causes.specs.declared.Cause.{Cause}
use Rattle.names.specs.Names.{NamesReady, named}
use Rattle.write.specs.Writes.{LinesHeld, WriteReady, output_at, AtCell, LinesWritten}
use Rattle.label.specs.declared.Counted.{Counted}
use Rattle.label.specs.declared.Session.{Session}
use Rattle.label.specs.Record.{shape_of, structure_of, lines_of}
use Rattle.label.specs.Sound.{Sound}
use Rattle.label.specs.Held.{holds_cell, cells_of, holder_of, root_count, number_at, numbers_held}
use Rattle.label.specs.Reading.{with_names, read_cause_of, ReadPromise}
use Rattle.label.specs.Steps.{RecordFound, ReadAccepted}
use Rattle.label.proofs.SoundLaws.{starts_rise}
use Rattle.label.proofs.RecordGeometry.{geo_lines, geo_width}
use Rattle.label.proofs.CheckLaws.{passed_cause, passed_geometry}
use Rattle.label.proofs.AcceptedLaws.{cause_read, read_promise}
use Rattle.label.proofs.HoldLaws.{holds_parts, parts_hold, nonzero_held}
use Rattle.label.proofs.StoreLaws.{Stores, own_holds, stores_holder}
use Rattle.label.proofs.StoredSound.{stores_ordered}
use Rattle.label.proofs.SoundCells.{sound_stores}
use Rattle.label.proofs.FitLaws.{runs_fit, joins_fit}

module _ (s : Session) (ws : List ℕ) (S : Sound s ws) where
  -- L, w, and the cells and parents held
  abbrev L : ℕ
  L = lines_of s

  abbrev w : ℕ
  w = width (shape_of s)

  abbrev cells : List Bool
  cells = cells_of s ws

  abbrev parent : ℕ → ℕ
  parent = parent_of (lines_of s) ws

  H : Stores s ws (cells_of s ws)
  H = sound_stores s ws S

  -- ---- ready

  -- the memory has room for the runs, which are at most h in each line
  pub names_ready : NamesReady (lines_of s) s.figures.runs ws
  unfolding words_needed
  names_ready = record {
    room = omega (
      arith,
      S.shape.memory,
      H.runs_are,
      starts_few (shape_of s) (structure_of s) cells s.fed,
      mul-le-mul_right h S.shape.within,
      mul_assoc stride L h,
    );
    parents = S.words.parents;
    small = omega (arith, runs_fit s ws S);
  }
    where
      h : ℕ
      h = per_line (shape_of s) (structure_of s)

  -- a run of a fed line is one of the record's
  line_run : (ℓ r : ℕ) → ℓ < s.fed → r < line_start ws (suc ℓ) → r < s.figures.runs
  line_run ℓ r h l = omega (arith, starts_rise s ws S (suc ℓ) s.fed h (le_refl s.fed), S.words.last)

  lines_held : LinesHeld L w s.fed ws
  lines_held = record {
    within = S.shape.within;
    first = S.words.first;
    sorted = stores_ordered s ws cells H;
    inside = λ r h. S.words.inside r (rw S.words.last at h);
  }

  pub write_ready : (kind : Number) (out : ℕ) → root_count s ws ≤ largest kind → out ≡ size (shape_of s)
      → WriteReady kind (lines_of s) (width (shape_of s)) s.fed ws out
  unfolding root_count
  write_ready kind out fits e = record {
    lines = lines_held;
    runs = rw S.words.last names_ready;
    fits = rw S.words.last fits;
    places = e ∙ size_lines_lem (shape_of s);
  }

  -- ---- written

  -- a cell, its line and its column
  module _ (p : ℕ) (h : p < size (shape_of s)) where
    abbrev ℓ : ℕ
    ℓ = p / width (shape_of s)

    abbrev x : ℕ
    x = p % width (shape_of s)

    in_frame : p < L * w
    in_frame = rw (← size_lines_lem (shape_of s)) h

    width_pos : 0 < w
    width_pos = factor_pos L w p in_frame

    -- a nonzero cell is covered by the run that holds it
    held_at : nonzero cells p ≡ true → AtCell L s.fed ws ℓ x (holder_of s ws p)
    held_at a =
        let k = holds_parts s ws p (holder_of s ws p) (rw (stores_holder s ws cells H p a) (own_holds s ws cells H p a)) in
        let is_fed = line_below (shape_of s) (structure_of s) cells s.fed H.fits p a in
        record { is_fed = is_fed; low = k.low; high = k.high; covers = k.covers }

    -- and a cell that a run covers is nonzero
    at_held : (r : ℕ) → AtCell L s.fed ws ℓ x r → nonzero cells p ≡ true
    at_held r c =
        let held = parts_hold s ws p r (record { low = c.low; high = c.high; covers = c.covers }) in
        nonzero_held s ws p ((div-lt_iff_lt-mul width_pos).0 c.is_fed)
        ∙ any_at (holds_cell s ws p) s.figures.runs r (line_run ℓ r c.is_fed c.high) held

    number_written : (kind : Number) (ws' : List ℕ) (out out' : List (Value kind)) → LinesWritten kind L w s.fed ws ws' out out'
        → output_at kind out' p ≡ write kind (number_at s ws p)
    unfolding number_at
    number_written kind ws' out out' W = ap (output_at kind out') (sym (div-add-mod' p w)) ∙ go (nonzero cells p) refl
      where
        go : (b : Bool) → nonzero cells p ≡ b
            → output_at kind out' (ℓ * w + x) ≡ write kind (cond (nonzero cells p) (number_in parent (holder_of s ws p)) 0)
        go true a = rw a (W.covered ℓ x (holder_of s ws p) (held_at a))
        go false a =
            let l = (div-lt_iff_lt-mul width_pos).1 in_frame in
            rw a (W.zeros ℓ x l (mod-lt p width_pos) (λ r c. true≢false (sym (at_held r c) ∙ a)))

  pub written_numbers : (kind : Number) (ws' : List ℕ) (out out' : List (Value kind)) → length out ≡ size (shape_of s)
      → LinesWritten kind (lines_of s) (width (shape_of s)) s.fed ws ws' out out'
      → (ws' ≡ with_names s ws) × (out' ≡ numbers_held s ws kind)
  unfolding with_names
  written_numbers kind ws' out out' e W = (
    W.names ∙ ap (λ (n : ℕ). named L n ws) S.words.last,
    ext_get_or (write kind 0) out' (numbers_held s ws kind) (long ∙ sym (listed_length number (size (shape_of s))))
        (λ p h.
        let l : p < size (shape_of s) = rw long at h in
        number_written p l kind ws' out out' W ∙ sym (listed_at number (size (shape_of s)) p (write kind 0) l)),
  )
    where
      -- cell p's number, as it is written
      number : ℕ → Value kind
      number p = write kind (number_at s ws p)

      long : length out' ≡ size (shape_of s)
      long = W.long ∙ e

-- ---- where the check of a reading passed

module _ (kind : Number) (s : Session) (ws : List ℕ) (places : ℕ) {r : Result Geo Cause}
    (F : RecordFound s (read_cause_of kind s ws places) r) {g : Geo} (is : r ≡ Ok g) where
  R : ReadAccepted kind s ws places
  R = cause_read kind s ws places (passed_cause s F is)

  -- n is a difference
  pub read_joins : s.figures.joins ≤ s.figures.runs
  read_joins = joins_fit s ws R.is_sound

  lines_are : g.lines ≡ lines_of s
  lines_are = geo_lines s ws g (passed_geometry s F is)

  width_is : g.width ≡ width (shape_of s)
  width_is = geo_width s ws g (passed_geometry s F is)

  pub passed_ready : WriteReady kind g.lines g.width s.fed ws places
  passed_ready = rw (lines_are, width_is) (write_ready s ws R.is_sound kind places R.fits R.places)

  written : {ws' : List ℕ} {out out' : List (Value kind)} → LinesWritten kind g.lines g.width s.fed ws ws' out out'
      → LinesWritten kind (lines_of s) (width (shape_of s)) s.fed ws ws' out out'
  written W = rw (← lines_are, ← width_is) W

pub passed_read : {kind : Number} {s : Session} {ws : List ℕ} {out : List (Value kind)} {r : Result Geo Cause}
    → RecordFound s (read_cause_of kind s ws (length out)) r → {g : Geo} → r ≡ Ok g
    → {ws' : List ℕ} {out' : List (Value kind)} → LinesWritten kind g.lines g.width s.fed ws ws' out out'
    → {n : Counted} → n ≡ record { n = s.figures.runs - s.figures.joins; figures = s.figures }
    → ReadPromise kind s ws out (counted n.n n.figures) s ws' out'
passed_read {kind} {s} {ws} {out} F is {ws'} {out'} W said =
    let given = R kind s ws (length out) F is in
    let numbers = written_numbers s ws given.is_sound kind ws' out out' given.places (written kind s ws (length out) F is W) in
    read_promise kind s ws out (passed_cause s F is) ws' out' numbers _ (ap (λ (n : Counted). counted n.n n.figures) said) s refl
