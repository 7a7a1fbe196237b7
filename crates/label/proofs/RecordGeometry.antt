-- A record's geometry, and when a record is sound.
-- Assumes nothing.
use mathlib.Core.Path.{◌≡◌, refl, sym, ap, ◌∙◌, subst}
use mathlib.Core.Bool.{Bool, true, false, not, cond, true≢false}
use mathlib.Core.List.{List}
use Prim.Native.Nat.{ℕ, ◌+◌, ◌*◌, ◌≤◌, ◌<◌, ◌^◌}
use native.Mathlib.Nat.{mul_assoc}
use native.Mathlib.Omega.{arith}
use borrow.Author.Tests.{not-true, not-false}
use lib.ListN.{length}
use Rattle.std.proofs.Common.{Option, Some, None, is_some, ok_or, Result, Ok, Err}
use Rattle.frame.specs.Shape.{size, width}
use Rattle.frame.specs.Structure.{left_on}
use Rattle.frame.specs.Memory.{stride, most_runs, per_line, words_needed}
use Rattle.frame.proofs.ShapeLaws.{size_lines_lem}
use Rattle.geo.specs.declared.Geo.{Geo}
use Rattle.geo.specs.Geometry.{GeoOf, ShapeSound, ShapeFound}
use Rattle.geo.proofs.GeoLaws.{within_limits}
use Rattle.geo.proofs.ShapeSoundLaws.{array_ready, shape_sound_right, right_shape_sound}
use Rattle.sound.specs.Stored.{words_sound, PassReady}
use Rattle.sound.proofs.StoredLaws.{words_right, right_words}
use Rattle.causes.specs.declared.Cause.{Cause}
use Rattle.causes.specs.declared.Cause.TheVariants as C
use Rattle.causes.specs.Cases.{cause_number, check_number}
use Rattle.causes.proofs.CaseLaws.{positive, same_ok}
use Rattle.causes.proofs.OpenLaws.{found_cause}
use Rattle.label.specs.declared.Session.{Session}
use Rattle.label.specs.Record.{shape_of, structure_of, lines_of}
use Rattle.label.specs.Sound.{Sound, sound}
use Rattle.label.specs.Steps.{sound_cause_of, RecordFound}
use Rattle.label.proofs.SoundLaws.{sound_right, right_sound}

-- ---- the geometry of a record

-- its structure has the bytes of its rank
pub sound_bytes : (s : Session) (ws : List ℕ) → length s.structure ≡ 81 → Sound s ws → 3 ^ s.rank ≤ length s.structure
unfolding shape_of
sound_bytes s ws long S = (array_ready s.rank s.shape s.structure long S.shape.ranked).bytes

module _ (s : Session) (ws : List ℕ) (g : Geo) (K : GeoOf s.rank s.shape s.structure g) where
  pub geo_lines : g.lines ≡ lines_of s
  unfolding shape_of
  geo_lines = K.lines_is

  pub geo_width : g.width ≡ width (shape_of s)
  unfolding shape_of
  geo_width = K.width_is

  pub geo_left : g.left ≡ left_on (shape_of s) (structure_of s)
  unfolding shape_of structure_of
  geo_left = K.left_is

  pub geo_size : g.lines * g.width ≡ size (shape_of s)
  geo_size = rw (geo_lines, geo_width) (sym (size_lines_lem (shape_of s)))

  pub geo_small : Sound s ws → g.lines * g.width < 4294967293
  geo_small S = omega (arith, geo_size, (within_limits (shape_of s) S.shape.limits).2)

-- ---- soundness: what crate geo finds of the shape, then the words

-- no geometry is found, or one
none_found : (f : Option Geo) {o : Result Geo Cause} → o ≡ ok_or f C.Unsound → {c : Cause} → o ≡ Err c
    → (is_some f ≡ false) × (cause_number c ≡ 6)
none_found f is e = go f (sym is ∙ e)
  where
    go : (f : Option Geo) {c : Cause} → ok_or f C.Unsound ≡ Err c → (is_some f ≡ false) × (cause_number c ≡ 6)
    go None h = (refl, sym (ap check_number h))
    go (Some g) {c} h = absurd (omega (arith, ap check_number h, positive c))

one_found : (f : Option Geo) {o : Result Geo Cause} → o ≡ ok_or f C.Unsound → {g : Geo} → o ≡ Ok g → f ≡ Some g
one_found f is e = go f (sym is ∙ e)
  where
    go : (f : Option Geo) {g : Geo} → ok_or f C.Unsound ≡ Ok g → f ≡ Some g
    go None h = absurd (omega (arith, ap check_number h))
    go (Some g) h = ap Some (same_ok _ _ h)

module _ (s : Session) (ws : List ℕ) {f : Option Geo} (F : ShapeFound s.rank s.shape s.structure (length ws) s.fed f) {o : Result Geo Cause}
    (O : o ≡ ok_or f C.Unsound) where
  -- 6, where the record is not sound
  unsound : (Sound s ws → ⊥) → {r : Result Geo Cause} → check_number r ≡ 6 → RecordFound s (sound_cause_of s ws) r
  unsound never {r} is = go (sound s ws) refl
    where
      go : (b : Bool) → sound s ws ≡ b → RecordFound s (sound_cause_of s ws) r
      go true h = absurd (never (sound_right s ws h))
      go false h = found_cause _ _ _ 6 (sound_cause_of s ws) r (omega arith) (rw h refl) is

  -- the clauses about shape and memory, of a sound record
  told : Sound s ws → is_some f ≡ true
  unfolding shape_of structure_of
  told S = F.told ∙ right_shape_sound _ _ _ _ S.shape

  pub shape_unsound : {c : Cause} → o ≡ Err c → {r : Result Geo Cause} → r ≡ Err c → RecordFound s (sound_cause_of s ws) r
  shape_unsound e said =
      let n = none_found f O e in
      unsound (λ S. true≢false (sym (told S) ∙ n.0)) (ap check_number said ∙ n.1)

  module _ {g : Geo} (passed : o ≡ Ok g) where
    some : f ≡ Some g
    some = one_found f O passed

    K : GeoOf s.rank s.shape s.structure g
    K = F.geometry g some

    lines_are : g.lines ≡ lines_of s
    lines_are = geo_lines s ws g K

    width_is : g.width ≡ width (shape_of s)
    width_is = geo_width s ws g K

    left_is : g.left ≡ left_on (shape_of s) (structure_of s)
    left_is = geo_left s ws g K

    A : ShapeSound (shape_of s) (structure_of s) (length ws) s.fed
    unfolding shape_of structure_of
    A = shape_sound_right _ _ _ _ (sym F.told ∙ ap is_some some)

    -- the words that the pass may read
    words_are : words_needed (shape_of s) (structure_of s) ≡ g.lines + 1 + stride * (g.lines * most_runs g.left g.width)
    unfolding words_needed per_line
    words_are =
        let most = most_runs (left_on (shape_of s) (structure_of s)) (width (shape_of s)) in
        rw (lines_are, width_is, left_is) (ap (λ (n : ℕ). lines_of s + 1 + n) (mul_assoc stride (lines_of s) most))

    pub pass_ready : PassReady g.lines g.width g.left s.fed ws
    pass_ready = record {
      within = omega (arith, A.within, lines_are);
      memory = omega (arith, words_are, A.memory);
      short = omega (arith, width_is, (within_limits (shape_of s) A.limits).0);
      small = rw (lines_are, width_is) (omega (arith, size_lines_lem (shape_of s), (within_limits (shape_of s) A.limits).2));
    }

    -- and what is left to test
    module _ {t : Bool} (is : t ≡ words_sound g.lines g.width g.left s.fed s.figures ws) where
      pub words_unsound : not t ≡ true → RecordFound s (sound_cause_of s ws) (Err C.Unsound)
      words_unsound taken = unsound (λ S. true≢false (sym (all S) ∙ sym is ∙ not-true t taken)) refl
        where
          all : Sound s ws → words_sound g.lines g.width g.left s.fed s.figures ws ≡ true
          all S = rw (lines_are, width_is, left_is) (right_words _ _ _ _ _ ws S.words)

      pub words_found : not t ≡ false → RecordFound s (sound_cause_of s ws) (Ok g)
      words_found stays = record {
        number = sym (ap (λ (b : Bool). cond b 0 6) (right_sound s ws S));
        geometry = λ h same. subst (GeoOf s.rank s.shape s.structure) (same_ok g h same) K;
      }
        where
          S : Sound s ws
          S = record {
            shape = A;
            words = words_right _ _ _ _ _ ws (rw (← lines_are, ← width_is, ← left_is) (sym is ∙ not-false t stays));
          }
