-- A frame whose lines are all fed is ready to be numbered, or refused with 10; and then it is what a reading promises.
-- Assumes nothing.
use mathlib.Core.Path.{◌≡◌, refl, sym, subst}
use mathlib.Core.List.{List}
use Prim.Native.Nat.{ℕ, ◌-◌, ◌≤◌, ◌<◌}
use native.Mathlib.Omega.{arith}
use Rattle.frame.specs.Shape.{size, width}
use Rattle.frame.specs.Kinds.{Number, largest, Value}
use Rattle.frame.specs.Plain.{counted, refused}
use Rattle.geo.specs.declared.Geo.{Geo}
use Rattle.causes.specs.declared.Cause.TheVariants as C
use Rattle.causes.proofs.CallLaws.{read_gets_10, read_gets_none}
use Rattle.write.specs.Writes.{WriteReady, LinesWritten}
use Rattle.label.specs.declared.Session.{Session}
use Rattle.label.specs.Record.{shape_of, lines_of}
use Rattle.label.specs.Held.{root_count}
use Rattle.label.specs.Reading.{read_cause_of}
use Rattle.label.proofs.SoundLaws.{right_sound, n_roots}
use Rattle.label.proofs.AcceptedLaws.{read_promise}
use Rattle.label.proofs.RefusedLaws.{refused_reading}
use Rattle.label.proofs.RecordGeometry.{geo_lines, geo_width}
use Rattle.label.proofs.WrittenNumbers.{write_ready, written_numbers}
use Rattle.label.proofs.FitLaws.{joins_fit}
use Rattle.whole.specs.declared.FedFrame.{FedFrame}
use Rattle.whole.specs.FedFrames.{fed_record, FrameFed, SomeFed, Numbers}

-- n, where the check passed
abbrev count_of : FedFrame → ℕ
count_of f = f.figures.runs - f.figures.joins

-- ---- of one record

module _ {s : Session} {f : FedFrame} {ws : List ℕ} {places : ℕ} (F : FrameFed s f ws places) where
  -- the record with the frame's figures
  abbrev t : Session
  t = fed_record s f

  abbrev g : Geo
  g = f.geo

  lines_is : g.lines ≡ lines_of t
  lines_is = geo_lines t ws g F.geometry

  width_is : g.width ≡ width (shape_of t)
  width_is = geo_width t ws g F.geometry

  exact : places ≡ size (shape_of t)
  unfolding shape_of
  exact = F.places

  module _ (kind : Number) where
    ready : count_of f ≤ largest kind → WriteReady kind g.lines g.width g.lines ws places
    ready h =
        subst (λ (L : ℕ). WriteReady kind L g.width g.lines ws places) (sym lines_is)
        (subst (λ (w : ℕ). WriteReady kind (lines_of t) w g.lines ws places) (sym width_is)
        (write_ready t ws F.is_sound kind places (omega (arith, h, n_roots t ws F.is_sound)) exact))

    written : {ws' : List ℕ} {out out' : List (Value kind)} → LinesWritten kind g.lines g.width g.lines ws ws' out out'
        → LinesWritten kind (lines_of t) (width (shape_of t)) g.lines ws ws' out out'
    written {ws'} {out} {out'} W =
        subst (λ (L : ℕ). LinesWritten kind L (width (shape_of t)) g.lines ws ws' out out') lines_is
        (subst (λ (w : ℕ). LinesWritten kind g.lines w g.lines ws ws' out out') width_is W)

    -- the cause of its reading
    cause_ten : largest kind < count_of f → 10 ≡ read_cause_of kind t ws places
    unfolding read_cause_of
    cause_ten h =
        let above : largest kind < root_count t ws = omega (arith, h, n_roots t ws F.is_sound) in
        rw (right_sound t ws F.is_sound)
        (read_gets_10 kind (root_count t ws) places (size (shape_of t)) exact (largest kind) refl above)

    no_cause : count_of f ≤ largest kind → 0 ≡ read_cause_of kind t ws places
    unfolding read_cause_of
    no_cause h =
        let below : root_count t ws ≤ largest kind = omega (arith, h, n_roots t ws F.is_sound) in
        rw (right_sound t ws F.is_sound)
        (read_gets_none kind (root_count t ws) places (size (shape_of t)) exact (largest kind) refl below)

-- ---- as the code meets it

module _ {f : FedFrame} {ws : List ℕ} where
  module _ {places : ℕ} (P : SomeFed f ws places) where
    pub number_joins : f.figures.joins ≤ f.figures.runs
    number_joins = joins_fit (fed_record P.session f) ws P.fed.is_sound

    pub number_ready : (kind : Number) → count_of f ≤ largest kind → WriteReady kind f.geo.lines f.geo.width f.geo.lines ws places
    number_ready kind h = ready P.fed kind h

  module _ (kind : Number) {out : List (Value kind)} where
    pub number_ten : largest kind < count_of f → Numbers kind f ws out (refused 10) ws out
    number_ten h s F = refused_reading kind (fed_record s f) ws out C.Kind (cause_ten F kind h) refl

    pub number_done : count_of f ≤ largest kind → {ws' : List ℕ} {out' : List (Value kind)}
        → LinesWritten kind f.geo.lines f.geo.width f.geo.lines ws ws' out out'
        → Numbers kind f ws out (counted (count_of f) f.figures) ws' out'
    number_done h {ws'} {out'} W s F =
        let t = fed_record s f in
        let numbers = written_numbers t ws F.is_sound kind ws' out out' (exact F) (written F kind W) in
        read_promise kind t ws out (sym (no_cause F kind h)) ws' out' numbers (counted (count_of f) t.figures) refl t refl
