-- The limits of a shape, its geometry, and the words that it needs.
-- Assumes nothing.
use mathlib.Core.Path.{◌≡◌, refl, sym, ap, ap₂, ◌∙◌}
use mathlib.Core.Bool.{Bool, false, ◌||◌, or_assoc}
use mathlib.Core.List.{List}
use Prim.Native.Nat.{ℕ, ◌-◌, ◌*◌, ◌^◌, ◌≤◌, ◌<◌, min}
use native.Mathlib.Nat.{mul_assoc, mul-le-mul_left}
use native.Mathlib.Omega.{arith}
use borrow.Author.Tests.{leb-true, leb-false, le-leb}
use lib.Dec.{leb}
use lib.ListN.{length, take, drop, replicate, length-replicate}
use lib.Seq.{take_at, drop_at}
use Rattle.groups.proofs.BoolLaws.{or₃_false, bool_same}
use Rattle.frame.specs.Lists.{entries}
use Rattle.frame.specs.Shape.{size, width, leading, lines}
use Rattle.frame.specs.Structure.{on, left_code}
use Rattle.frame.specs.Memory.{stride, most_runs, per_line, words_needed}
use Rattle.frame.specs.Causes.{bad_rank, has_zero, too_large}
use Rattle.frame.proofs.ShapeLaws.{size_lines_lem}
use Rattle.frame.proofs.LineLaws.{most_runs_le}
use Rattle.geo.specs.declared.Geo.{Geo}
use Rattle.geo.specs.Geometry.{ThreeDims, ShapeReady, Measured, GeoOf, WithinLimits, large_geo, words_of}
use Rattle.geo.proofs.ProductLaws.{limited_step}
use Rattle.geo.proofs.DimsLaws.{rank_limits, three, three_size, zero_ones}
use Rattle.geo.proofs.LeftLaws.{left_is}

-- ---- limits

pub within_limits : (shape : List ℕ) → too_large shape ≡ false
    → (width shape < 2147483647) × (lines shape < 4294967293) × (size shape < 4294967293)
unfolding too_large
within_limits shape h =
    let f = or₃_false (leb 2147483647 (width shape)) (leb 4294967293 (lines shape)) (leb 4294967293 (size shape)) h in
    (leb-false 2147483647 (width shape) f.0, leb-false 4294967293 (lines shape) f.1, leb-false 4294967293 (size shape) f.2)

-- a number may be counted up to the limit that it is held to
limited_test : (M x y : ℕ) → y ≡ min x M → leb M y ≡ leb M x
limited_test M x y e =
    bool_same (leb M y) (leb M x) (λ t. le-leb M x (omega (arith, leb-true M y t))) (λ t. le-leb M y (omega (arith, leb-true M x t)))

module _ (g : Geo) where
  -- so may the cells
  pub large_is : (c : ℕ) → c ≡ min (g.lines * g.width) 4294967293
      → (leb 2147483647 g.width || leb 4294967293 g.lines) || leb 4294967293 c ≡ large_geo g
  large_is c is =
      or_assoc (leb 2147483647 g.width) (leb 4294967293 g.lines) (leb 4294967293 c)
      ∙ ap (λ (t : Bool). leb 2147483647 g.width || (leb 4294967293 g.lines || t))
      (limited_test 4294967293 (g.lines * g.width) c is)

  pub not_large : large_geo g ≡ false → WithinLimits g
  not_large h =
      let f = or₃_false (leb 2147483647 g.width) (leb 4294967293 g.lines) (leb 4294967293 (g.lines * g.width)) h in
      record {
        width = leb-false 2147483647 g.width f.0;
        lines = leb-false 4294967293 g.lines f.1;
        cells = leb-false 4294967293 (g.lines * g.width) f.2;
      }

  -- no more than one run's words for each cell
  pub words_fit : WithinLimits g → (h : ℕ) → h ≡ most_runs g.left g.width → stride * g.lines * h < stride * 4294967293
  words_fit W h is =
      let few = mul-le-mul_left g.lines (most_runs_le g.left g.width) in
      rw (is, mul_assoc stride g.lines (most_runs g.left g.width)) (omega (arith, few, W.cells))

-- ---- geometry

-- a shape and a structure as numbers
module _ (rank : ℕ) (shape structure : List ℕ) (A : ShapeReady rank shape structure) where
  pub measured : (dims : List ℕ) (l w : ℕ) (left : Bool) → dims ≡ three rank shape → l ≡ min (size dims) 4294967293
      → w ≡ width (entries rank shape) → left ≡ on structure (left_code rank) → Measured rank shape structure
      (record { leads = rank - 1; dims = dims; lines = l; width = w; left = left })
  measured dims l w left is-dims is-l is-w is-left =
      let r = rank_limits rank shape A.ranked in
      record {
        rank_is = omega arith;
        dims_are = is-dims;
        lines_limited = is-l ∙ ap (λ (k : ℕ). min k 4294967293) (ap size is-dims ∙ three_size rank shape);
        width_is = is-w;
        left_is = is-left ∙ left_is rank shape structure r.0;
      }

module _ (rank : ℕ) (shape structure : List ℕ) (ranked : bad_rank (entries rank shape) ≡ false) (g : Geo)
    (G : Measured rank shape structure g) where
  -- ---- causes 3 and 4 of the shape are those of its geometry

  pub measured_zero : has_zero g.dims ≡ has_zero (leading (entries rank shape))
  measured_zero = ap has_zero G.dims_are ∙ zero_ones (4 - rank) (leading (entries rank shape))

  pub measured_large : large_geo g ≡ too_large (entries rank shape)
  unfolding too_large
  measured_large =
      ap (λ (k : ℕ). leb 2147483647 k || (leb 4294967293 g.lines || leb 4294967293 (g.lines * g.width))) G.width_is
      ∙ ap₂ (λ (a : Bool) (b : Bool). leb 2147483647 (width (entries rank shape)) || (a || b))
      (limited_test 4294967293 (lines (entries rank shape)) g.lines G.lines_limited) cells
    where
      limited : min (g.lines * g.width) 4294967293 ≡ min (size (entries rank shape)) 4294967293
      limited =
          ap₂ (λ (a : ℕ) (b : ℕ). min (a * b) 4294967293) G.lines_limited G.width_is
          ∙ limited_step 4294967293 (lines (entries rank shape)) (width (entries rank shape))
          ∙ ap (λ (k : ℕ). min k 4294967293) (sym (size_lines_lem (entries rank shape)))

      cells : leb 4294967293 (g.lines * g.width) ≡ leb 4294967293 (size (entries rank shape))
      cells =
          sym (limited_test 4294967293 (g.lines * g.width) (min (g.lines * g.width) 4294967293) refl)
          ∙ limited_test 4294967293 (size (entries rank shape)) (min (g.lines * g.width) 4294967293) limited

  -- ---- where it is not too large

  module _ (limits : too_large (entries rank shape) ≡ false) where
    abbrev ranks : (1 ≤ rank) × (rank ≤ 4)
    ranks = rank_limits rank shape ranked

    -- the dimensions before the leading ones
    before : length (replicate {A = ℕ} (4 - rank) 1) ≡ 3 - g.leads
    before = length-replicate (4 - rank) 1 ∙ (let r = ranks in omega (arith, G.rank_is))

    lines_are : g.lines ≡ lines (entries rank shape)
    lines_are = omega (arith, G.lines_limited, (within_limits (entries rank shape) limits).1)

    three_dims : ThreeDims g.leads g.dims g.lines
    three_dims =
        let r = ranks in
        record {
          few = omega (arith, G.rank_is);
          ones =
              ap (take (3 - g.leads)) G.dims_are ∙ take_at (replicate (4 - rank) 1) (leading (entries rank shape)) (3 - g.leads) before
              ∙ ap (λ (k : ℕ). replicate {A = ℕ} k 1) (sym (length-replicate (4 - rank) 1) ∙ before);
          product = lines_are ∙ sym (ap size G.dims_are ∙ three_size rank shape);
          small = omega (arith, lines_are, (within_limits (entries rank shape) limits).1);
        }

    pub measured_geo : GeoOf rank shape structure g
    measured_geo =
        record {
          rank_is = G.rank_is;
          leading_is =
              ap (drop (3 - g.leads)) G.dims_are
              ∙ drop_at (replicate (4 - rank) 1) (leading (entries rank shape)) (3 - g.leads) before;
          three = three_dims;
          lines_is = lines_are;
          width_is = G.width_is;
          left_is = G.left_is;
        }

-- ---- the words needed

pub geo_words : (rank : ℕ) (shape structure : List ℕ) (g : Geo) → GeoOf rank shape structure g
    → words_of g ≡ words_needed (entries rank shape) (entries (3 ^ rank) structure)
unfolding words_needed per_line
geo_words rank shape structure g G = rw (G.lines_is, G.width_is, G.left_is)
