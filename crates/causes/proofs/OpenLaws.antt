-- What the check of an opening finds: each cause by its condition, where those before it do not hold, and the geometry where none does.
-- Assumes nothing.
use mathlib.Core.Path.{◌≡◌, refl, sym, ap, ap₂, ◌∙◌, subst}
use mathlib.Core.Logic.{◌≢◌}
use mathlib.Core.Bool.{Bool, true, false, ◌||◌}
use mathlib.Core.List.{List}
use Prim.Native.Nat.{ℕ, ◌^◌, ◌≤◌, ◌<◌}
use native.Mathlib.Omega.{arith}
use borrow.Author.Tests.{le-ltb, lt-ltb, eq-eqb, ne_eqb}
use lib.Dec.{eqb, ltb}
use lib.ListN.{length}
use Rattle.std.proofs.Common.{Result, Ok}
use Rattle.frame.specs.Lists.{entries, padded}
use Rattle.frame.specs.Shape.{leading}
use Rattle.frame.specs.Memory.{words_needed}
use Rattle.frame.specs.Causes.{bad_rank, has_zero, too_large, lopsided, first_cause, open_tests, open_cause}
use Rattle.frame.proofs.EntryLaws.{entries_all, entries_padded}
use Rattle.geo.specs.declared.Geo.{Geo}
use Rattle.geo.specs.Geometry.{ShapeReady, Measured, GeoOf, WithinLimits, large_geo, words_of}
use Rattle.geo.proofs.DimsLaws.{bad_rank_is}
use Rattle.geo.proofs.GeoLaws.{measured_zero, measured_large, measured_geo, not_large, geo_words}
use Rattle.causes.specs.declared.Cause.{Cause}
use Rattle.causes.specs.Cases.{check_number}
use Rattle.causes.specs.Checks.{Found}
use Rattle.causes.proofs.CaseLaws.{passed_none, same_ok}

-- where there is a cause no geometry is promised
pub found_cause : (rank : ℕ) (shape structure : List ℕ) (n cause : ℕ) (r : Result Geo Cause) → 0 < n → n ≡ cause → check_number r ≡ n
    → Found rank shape structure cause r
found_cause rank shape structure n cause r some e is = record {
  number = is ∙ e;
  geometry = λ g passed. absurd (omega (arith, passed_none r g passed));
}

-- the test of a rank is that of a shape of that rank
pub rank_test : (shape : List ℕ) (a b : Bool) → a ≡ (eqb (length shape) 0 || ltb 4 (length shape)) → a ≡ b → bad_rank shape ≡ b
rank_test shape a b is e = sym (bad_rank_is shape (length shape) a refl is) ∙ e

module _ (shape structure : List ℕ) (memory : ℕ) where
  pub open_gets_1 : bad_rank shape ≡ true → 1 ≡ open_cause shape structure memory
  unfolding open_cause open_tests first_cause
  open_gets_1 bad = rw bad refl

  module _ (ranked : bad_rank shape ≡ false) where
    pub open_gets_2 : length structure ≢ 3 ^ length shape → 2 ≡ open_cause shape structure memory
    unfolding open_cause open_tests first_cause
    open_gets_2 ne = rw (ranked, ne_eqb (length structure) (3 ^ length shape) ne) refl

    module _ (bytes : length structure ≡ 3 ^ length shape) where
      pub open_gets_12 : lopsided (length shape) structure ≡ true → 12 ≡ open_cause shape structure memory
      unfolding open_cause open_tests first_cause
      open_gets_12 l = rw (ranked, eq-eqb (length structure) (3 ^ length shape) bytes, l) refl

      -- the shape as an array, of which the first entries count
      shape_is : entries (length shape) (padded 4 shape) ≡ shape
      shape_is = entries_padded 4 shape

      pub open_ready : ShapeReady (length shape) (padded 4 shape) structure
      open_ready = record { ranked = ap bad_rank shape_is ∙ ranked; bytes = omega (arith, bytes) }

      module _ (alike : lopsided (length shape) structure ≡ false) (g : Geo)
          (G : Measured (length shape) (padded 4 shape) structure g) where
        zero_is : has_zero g.dims ≡ has_zero (leading shape)
        zero_is =
            measured_zero (length shape) (padded 4 shape) structure open_ready.ranked g G
            ∙ ap (λ (l : List ℕ). has_zero (leading l)) shape_is

        large_is : large_geo g ≡ too_large shape
        large_is = measured_large (length shape) (padded 4 shape) structure open_ready.ranked g G ∙ ap too_large shape_is

        pub open_gets_3 : has_zero g.dims ≡ true → 3 ≡ open_cause shape structure memory
        unfolding open_cause open_tests first_cause
        open_gets_3 z = rw (ranked, eq-eqb (length structure) (3 ^ length shape) bytes, alike, sym zero_is ∙ z) refl

        module _ (no_zero : has_zero g.dims ≡ false) where
          pub open_gets_4 : large_geo g ≡ true → 4 ≡ open_cause shape structure memory
          unfolding open_cause open_tests first_cause
          open_gets_4 l = rw (
            ranked,
            eq-eqb (length structure) (3 ^ length shape) bytes,
            alike,
            sym zero_is ∙ no_zero,
            sym large_is ∙ l,
          ) refl

          module _ (fits : large_geo g ≡ false) where
            limits : too_large shape ≡ false
            limits = sym large_is ∙ fits

            pub open_limits : WithinLimits g
            open_limits = not_large g fits

            pub open_geo : GeoOf (length shape) (padded 4 shape) structure g
            open_geo = measured_geo (length shape) (padded 4 shape) structure open_ready.ranked g G (ap too_large shape_is ∙ limits)

            module _ (needed : ℕ) (is : needed ≡ words_of g) where
              needs : needed ≡ words_needed shape structure
              needs =
                  is ∙ geo_words (length shape) (padded 4 shape) structure g open_geo
                  ∙ ap₂ words_needed shape_is (entries_all (3 ^ length shape) structure bytes)

              pub open_gets_5 : memory < needed → 5 ≡ open_cause shape structure memory
              unfolding open_cause open_tests first_cause
              open_gets_5 h = rw (
                ranked,
                eq-eqb (length structure) (3 ^ length shape) bytes,
                alike,
                sym zero_is ∙ no_zero,
                limits,
                lt-ltb memory (words_needed shape structure) (rw (← needs) h),
              ) refl

              pub open_gets_none : needed ≤ memory → 0 ≡ open_cause shape structure memory
              unfolding open_cause open_tests first_cause
              open_gets_none h = rw (
                ranked,
                eq-eqb (length structure) (3 ^ length shape) bytes,
                alike,
                sym zero_is ∙ no_zero,
                limits,
                le-ltb memory (words_needed shape structure) (rw (← needs) h),
              ) refl

              -- then the check passes
              pub open_found : needed ≤ memory → Found (length shape) (padded 4 shape) structure (open_cause shape structure memory) (Ok g)
              open_found h = record {
                number = open_gets_none h;
                geometry = λ k passed. subst (GeoOf (length shape) (padded 4 shape) structure) (same_ok g k passed) open_geo;
              }
