-- Which shape, structure, memory and lines fed may stand in a record: the test decides it, and what each condition of `shape_sound` answers.
-- Assumes nothing.
use mathlib.Core.Path.{◌≡◌, refl, sym, ap, ap₂, ◌∙◌, subst}
use mathlib.Core.Bool.{Bool, true, false, not, ◌||◌, ◌&&◌, true≢false}
use mathlib.Core.List.{List}
use Prim.Native.Nat.{ℕ, zero, suc, ◌^◌, ◌≤◌}
use native.Mathlib.Omega.{arith}
use borrow.Author.Tests.{leb-true, le-leb, not-true}
use lib.Dec.{eqb, ltb, leb}
use lib.ListN.{length}
use Rattle.std.proofs.Common.{Option, None}
use Rattle.std.proofs.lemmas.Option.{same_Some}
use Rattle.std.specs.Bool.{then_some}
use Rattle.groups.proofs.BoolLaws.{bool_same, and_true, and_left, and_right}
use Rattle.frame.specs.Lists.{entries}
use Rattle.frame.specs.Shape.{lines}
use Rattle.frame.specs.Memory.{words_needed}
use Rattle.frame.specs.Causes.{bad_rank, has_zero, too_large, lopsided}
use Rattle.frame.proofs.EntryLaws.{length_entries}
use Rattle.frame.proofs.SymmetryLaws.{lopsided_entries}
use Rattle.frame.proofs.ListLaws.{every_at, every_more, every_none}
use Rattle.geo.specs.declared.Geo.{Geo}
use Rattle.geo.specs.Geometry.{ShapeReady, Measured, GeoOf, WithinLimits, large_geo, words_of, ShapeSound, shape_sound, ShapeFound}
use Rattle.geo.proofs.DimsLaws.{bad_rank_is, rank_limits}
use Rattle.geo.proofs.GeoLaws.{measured_zero, measured_large, measured_geo, not_large, geo_words}

-- the test of a rank is that of a shape of that rank
pub rank_test : (rank : ℕ) (shape : List ℕ) (a b : Bool) → a ≡ (eqb rank 0 || ltb 4 rank) → a ≡ b → bad_rank (entries rank shape) ≡ b
rank_test rank shape a b is e = sym (bad_rank_is (entries rank shape) rank a (length_entries rank shape) is) ∙ e

-- three to the power of a rank, at most the bytes of a record
pub bytes_few : (rank : ℕ) → rank ≤ 4 → 3 ^ rank ≤ 81
bytes_few zero h = omega arith
bytes_few (suc zero) h = omega arith
bytes_few (suc (suc zero)) h = omega arith
bytes_few (suc (suc (suc zero))) h = omega arith
bytes_few (suc (suc (suc (suc zero)))) h = omega arith
bytes_few (suc (suc (suc (suc (suc n))))) h = absurd (omega arith)

-- so a record's arrays have the structure's bytes
pub array_ready : (rank : ℕ) (shape structure : List ℕ) → length structure ≡ 81 → bad_rank (entries rank shape) ≡ false
    → ShapeReady rank shape structure
array_ready rank shape structure long ranked = record {
  ranked = ranked;
  bytes = omega (
    arith,
    bytes_few rank (rank_limits rank shape ranked).1,
  );
}

module _ (dims bytes : List ℕ) (memory fed : ℕ) where
  -- ---- the test decides

  pub shape_sound_right : shape_sound dims bytes memory fed ≡ true → ShapeSound dims bytes memory fed
  unfolding shape_sound
  shape_sound_right h = record {
    ranked = not-true _ (every_at _ 0 h);
    dimensions = not-true _ (every_at _ 1 h);
    limits = not-true _ (every_at _ 2 h);
    not_lopsided = not-true _ (every_at _ 3 h);
    memory = leb-true _ _ (every_at _ 4 h);
    within = leb-true _ _ (every_at _ 5 h);
  }

  pub right_shape_sound : ShapeSound dims bytes memory fed → shape_sound dims bytes memory fed ≡ true
  unfolding shape_sound
  right_shape_sound A =
      every_more _ _ (ap not A.ranked)
      (every_more _ _ (ap not A.dimensions)
      (every_more _ _ (ap not A.limits)
      (every_more _ _ (ap not A.not_lopsided)
      (every_more _ _ (le-leb _ _ A.memory)
      (every_more _ _ (le-leb _ _ A.within) every_none)))))

  -- it stays so, with as many words and lines of the frame
  pub shape_stays : {memory' fed' : ℕ} → ShapeSound dims bytes memory fed → memory ≡ memory' → fed' ≤ lines dims
      → ShapeSound dims bytes memory' fed'
  shape_stays A e h = record {
    ranked = A.ranked;
    dimensions = A.dimensions;
    limits = A.limits;
    not_lopsided = A.not_lopsided;
    memory = rw (← e) A.memory;
    within = h;
  }

  -- ---- what each condition answers

  shape_unsound : (ShapeSound dims bytes memory fed → ⊥) → false ≡ shape_sound dims bytes memory fed
  shape_unsound f = go (shape_sound dims bytes memory fed) refl
    where
      go : (b : Bool) → shape_sound dims bytes memory fed ≡ b → false ≡ shape_sound dims bytes memory fed
      go true e = absurd (f (shape_sound_right e))
      go false e = sym e

  pub rank_breaks : bad_rank dims ≡ true → false ≡ shape_sound dims bytes memory fed
  rank_breaks bad = shape_unsound (λ A. true≢false (sym bad ∙ A.ranked))

-- a test after which another is made
pub and_then : (a b v : Bool) → a ≡ true → v ≡ b → v ≡ a && b
and_then a b v h e = rw h e

pub and_else : (a b v : Bool) → a ≡ false → v ≡ false → v ≡ a && b
and_else a b v h e = rw h e

-- a test that answers nothing
pub nothing_found : {rank : ℕ} {shape structure : List ℕ} {memory fed : ℕ}
    → false ≡ shape_sound (entries rank shape) (entries (3 ^ rank) structure) memory fed
    → ShapeFound rank shape structure memory fed None
nothing_found e = record { told = e; geometry = λ g is. cc }

-- ---- of a record's arrays, where the rank is 1 to 4, by their geometry

module _ (rank : ℕ) (shape structure : List ℕ) (ranked : bad_rank (entries rank shape) ≡ false) (g : Geo)
    (G : Measured rank shape structure g) (memory fed : ℕ) where
  abbrev told : Bool
  told = shape_sound (entries rank shape) (entries (3 ^ rank) structure) memory fed

  pub dims_break : has_zero g.dims || large_geo g ≡ true → false ≡ told
  dims_break h = shape_unsound _ _ memory fed
      (λ A. true≢false (sym h ∙ ap₂ ◌||◌ (measured_zero rank shape structure ranked g G ∙ A.dimensions)
      (measured_large rank shape structure ranked g G ∙ A.limits)))

  -- where they do not, the structure, memory and lines fed decide
  module _ (h : has_zero g.dims || large_geo g ≡ false) where
    none : (has_zero g.dims ≡ false) × (large_geo g ≡ false)
    none = go (has_zero g.dims) (large_geo g) h
      where
        go : (a b : Bool) → a || b ≡ false → (a ≡ false) × (b ≡ false)
        go true b e = absurd (true≢false e)
        go false b e = (refl, e)

    limits : too_large (entries rank shape) ≡ false
    limits = sym (measured_large rank shape structure ranked g G) ∙ none.1

    pub found_limits : WithinLimits g
    found_limits = not_large g none.1

    found_geo : GeoOf rank shape structure g
    found_geo = measured_geo rank shape structure ranked g G limits

    words_are : words_of g ≡ words_needed (entries rank shape) (entries (3 ^ rank) structure)
    words_are = geo_words rank shape structure g found_geo

    sided : lopsided (length (entries rank shape)) (entries (3 ^ rank) structure) ≡ lopsided rank structure
    sided = ap (λ (r : ℕ). lopsided r (entries (3 ^ rank) structure)) (length_entries rank shape) ∙ lopsided_entries rank structure

    pub rest_decides : (b : Bool) → b ≡ lopsided rank structure → (needed : ℕ) → needed ≡ words_of g
        → (not b && leb needed memory) && leb fed g.lines ≡ told
    rest_decides b is_b needed is =
        bool_same ((not b && leb needed memory) && leb fed g.lines) told
        (λ t. let u = and_left (not b && leb needed memory) (leb fed g.lines) t in
        right_shape_sound _ _ memory fed (record {
          ranked = ranked;
          dimensions = sym (measured_zero rank shape structure ranked g G) ∙ none.0;
          limits = limits;
          not_lopsided = sided ∙ sym is_b ∙ not-true b (and_left (not b) (leb needed memory) u);
          memory = omega (arith, is, words_are, leb-true needed memory (and_right (not b) (leb needed memory) u));
          within = omega (
            arith,
            found_geo.lines_is,
            leb-true fed g.lines (and_right (not b && leb needed memory) (leb fed g.lines) t),
          );
        }))
        (λ t. let A = shape_sound_right _ _ memory fed t in and_true (not b && leb needed memory) (leb fed g.lines)
        (and_true (not b) (leb needed memory) (ap not (is_b ∙ sym sided ∙ A.not_lopsided))
        (le-leb needed memory (omega (arith, is, words_are, A.memory))))
        (le-leb fed g.lines (omega (arith, found_geo.lines_is, A.within))))

    -- b is whether the structure is lopsided, v whether it is not and there are words enough, t whether all is well
    pub rest_found : (b v t : Bool) → b ≡ lopsided rank structure → v ≡ not b && leb (words_of g) memory → t ≡ v && leb fed g.lines
        → (r : Option Geo) → r ≡ then_some t g → ShapeFound rank shape structure memory fed r
    rest_found b v t is_b is_v is_t r is =
        subst (ShapeFound rank shape structure memory fed) (sym is)
        (go t (is_t ∙ ap (λ (v : Bool). v && leb fed g.lines) is_v ∙ rest_decides b is_b (words_of g) refl))
      where
        go : (t : Bool) → t ≡ told → ShapeFound rank shape structure memory fed (then_some t g)
        go true e = record { told = e; geometry = λ h same. subst (GeoOf rank shape structure) (same_Some g h same) found_geo }
        go false e = nothing_found e
