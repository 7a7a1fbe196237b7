-- What a check finds of a record's call: 6 where the record is not sound, else what crate causes finds with its geometry.
-- Assumes nothing.
use mathlib.Core.Path.{◌≡◌, refl, sym, ap, ◌∙◌, subst}
use mathlib.Core.Bool.{Bool, true, false, cond}
use mathlib.Core.List.{List}
use Prim.Native.Nat.{ℕ, ◌-◌, ◌*◌, ◌^◌, ◌≤◌, ◌<◌}
use native.Mathlib.Omega.{arith}
use lib.ListN.{length}
use Rattle.std.proofs.Common.{Result, Ok, Err}
use Rattle.frame.specs.Kinds.{Number, holds}
use Rattle.frame.specs.Lists.{entries}
use Rattle.frame.specs.Causes.{first_cause, feed_tests, feed_cause, read_tests, read_cause, sizes_tests, sizes_cause, widen_tests, widen_cause}
use Rattle.frame.proofs.EntryLaws.{length_entries}
use Rattle.frame.proofs.CauseLaws.{rank_right}
use Rattle.geo.specs.declared.Geo.{Geo}
use Rattle.geo.specs.Geometry.{GeoOf}
use Rattle.causes.specs.declared.Cause.{Cause}
use Rattle.causes.specs.Cases.{cause_number, check_number}
use Rattle.causes.specs.Checks.{FeedAsked}
use Rattle.causes.proofs.CaseLaws.{positive, failed_some, passed_none, same_ok}
use Rattle.causes.proofs.OpenLaws.{found_cause}
use Rattle.label.specs.declared.Session.{Session}
use Rattle.label.specs.Record.{shape_of, structure_of}
use Rattle.label.specs.Sound.{Sound, sound}
use Rattle.label.specs.Feeding.{feed_cause_of}
use Rattle.label.specs.Widening.{widen_cause_of}
use Rattle.label.specs.Reading.{read_cause_of, sizes_cause_of}
use Rattle.label.specs.Steps.{sound_cause_of, RecordFound}
use Rattle.label.proofs.SoundLaws.{sound_right, n_roots}
use Rattle.label.proofs.RecordGeometry.{geo_lines, geo_width, geo_size, geo_small}

-- where a check passed
module _ (s : Session) {cause : ℕ} {r : Result Geo Cause} (F : RecordFound s cause r) {g : Geo} (is : r ≡ Ok g) where
  pub passed_cause : cause ≡ 0
  passed_cause = sym F.number ∙ passed_none r g is

  pub passed_geometry : GeoOf s.rank s.shape s.structure g
  passed_geometry = F.geometry g is

-- what a check finds beyond soundness decides, where it answers no geometry itself
module _ {A : Type 0} (s : Session) {cause : ℕ} {check : Result A Cause} (is : check_number check ≡ cause) where
  pub then_failed : {c : Cause} → check ≡ Err c → {r : Result Geo Cause} → r ≡ Err c → RecordFound s cause r
  then_failed {c} e {r} said =
      found_cause _ _ _ (cause_number c) cause r (positive c) (ap check_number (sym e) ∙ is) (ap check_number said)

  pub then_passed : {a : A} → check ≡ Ok a → {g : Geo} → GeoOf s.rank s.shape s.structure g → RecordFound s cause (Ok g)
  then_passed {a} e {g} K = record {
    number = sym (passed_none check a e) ∙ is;
    geometry = λ h same. subst (GeoOf s.rank s.shape s.structure) (same_ok g h same) K;
  }

module _ (s : Session) (ws : List ℕ) {r : Result Geo Cause} (F : RecordFound s (sound_cause_of s ws) r) where
  -- ---- an unsound record

  module _ {c : Cause} (is : r ≡ Err c) {r' : Result Geo Cause} (said : r' ≡ Err c) where
    bad : sound s ws ≡ false
    bad = go (sound s ws) refl
      where
        go : (b : Bool) → sound s ws ≡ b → sound s ws ≡ false
        go true e = absurd (omega (arith, failed_some r c is, F.number ∙ ap (λ (b : Bool). cond b 0 6) e))
        go false e = e

    is_six : check_number r' ≡ 6
    is_six = ap check_number (said ∙ sym is) ∙ F.number ∙ ap (λ (b : Bool). cond b 0 6) bad

    six : (cause : ℕ) → 6 ≡ cause → RecordFound s cause r'
    six cause e = found_cause _ _ _ 6 cause r' (omega arith) e is_six

    pub feed_unsound : (k : ℕ) (cells : List Bool) → RecordFound s (feed_cause_of s ws k cells) r'
    unfolding feed_cause_of feed_cause feed_tests first_cause
    feed_unsound k cells = six (feed_cause_of s ws k cells) (rw bad refl)

    pub widen_unsound : (structure : List ℕ) → RecordFound s (widen_cause_of s ws structure) r'
    unfolding widen_cause_of widen_cause widen_tests first_cause
    widen_unsound structure = six (widen_cause_of s ws structure) (rw bad refl)

    pub read_unsound : (kind : Number) (out : ℕ) → RecordFound s (read_cause_of kind s ws out) r'
    unfolding read_cause_of read_cause read_tests first_cause
    read_unsound kind out = six (read_cause_of kind s ws out) (rw bad refl)

    pub sizes_unsound : (out : ℕ) → RecordFound s (sizes_cause_of s ws out) r'
    unfolding sizes_cause_of sizes_cause sizes_tests first_cause
    sizes_unsound out = six (sizes_cause_of s ws out) (rw bad refl)

  -- ---- a sound one

  module _ {g : Geo} (is : r ≡ Ok g) where
    yes : sound s ws ≡ true
    yes = go (sound s ws) refl
      where
        go : (b : Bool) → sound s ws ≡ b → sound s ws ≡ true
        go true e = e
        go false e = absurd (omega (arith, sym (passed_cause s F is) ∙ ap (λ (b : Bool). cond b 0 6) e))

    pub found_sound : Sound s ws
    found_sound = sound_right s ws yes

    pub found_geometry : GeoOf s.rank s.shape s.structure g
    found_geometry = passed_geometry s F is

    pub feed_asked : FeedAsked g s.fed
    feed_asked = record {
      within = omega (arith, found_sound.shape.within, geo_lines s ws g found_geometry);
      cells = geo_small s ws g found_geometry found_sound;
    }

    rank_is : length (shape_of s) ≡ s.rank
    unfolding shape_of
    rank_is = length_entries s.rank s.shape

    pub widen_asked : (1 ≤ s.rank) × (s.rank ≤ 4)
    widen_asked =
        let h = rank_right (shape_of s) found_sound.shape.ranked in
        (omega (arith, h.0, rank_is), omega (arith, h.1, rank_is))

    pub read_asked : g.lines * g.width < 4294967293
    read_asked = geo_small s ws g found_geometry found_sound

    -- the rest is decided by the geometry: what its check answers is the cause
    pub feed_decides : (k : ℕ) {n : ℕ} (cells : List Bool) → length cells ≡ n
        → feed_cause true (g.lines - s.fed) k g.width n ≡ feed_cause_of s ws k cells
    unfolding feed_cause_of
    feed_decides k cells long = rw (geo_lines s ws g found_geometry, geo_width s ws g found_geometry, yes, long) refl

    pub widen_decides : (structure : List ℕ)
        → widen_cause true s.rank (entries (3 ^ s.rank) s.structure) structure ≡ widen_cause_of s ws structure
    unfolding widen_cause_of structure_of
    widen_decides structure = rw (yes, rank_is) refl

    pub read_decides : (kind : Number) (out : ℕ)
        → read_cause true out (g.lines * g.width) (holds kind (s.figures.runs - s.figures.joins)) ≡ read_cause_of kind s ws out
    unfolding read_cause_of
    read_decides kind out = rw (geo_size s ws g found_geometry, yes, n_roots s ws found_sound) refl

    pub sizes_decides : (out : ℕ) → sizes_cause true out (s.figures.runs - s.figures.joins) ≡ sizes_cause_of s ws out
    unfolding sizes_cause_of
    sizes_decides out = rw (yes, n_roots s ws found_sound) refl
