-- Shape and structure as numbers: what they are of a record's arrays, what the functions ask of them, and which may stand in a record.
-- Assumes nothing.
use Rattle.std.specs.Prelude.{◌≡◌, Bool, false, not, ◌||◌, List, [], ◌∷◌, ◌++◌, ℕ, suc, ◌+◌, ◌-◌, ◌*◌, ◌^◌, ◌≤◌, ◌<◌, min, leb, length, take, drop, replicate, Option, Some, is_some}
use Rattle.frame.specs.Lists.{entries, every}
use Rattle.frame.specs.Shape.{size, width, leading, lines}
use Rattle.frame.specs.Structure.{left_on}
use Rattle.frame.specs.Memory.{stride, most_runs, words_needed}
use Rattle.frame.specs.Causes.{bad_rank, has_zero, too_large, lopsided}
use Rattle.geo.specs.declared.Geo.{Geo}

-- ---- three dimensions: the leading ones are the last n of them, and those before are 1

abbrev pub leading_of : ℕ → List ℕ → List ℕ
leading_of n dims = drop (3 - n) dims

-- n leading dimensions and their product, the count of lines, which a word holds
pub record ThreeDims (n : ℕ) (dims : List ℕ) (L : ℕ) : Type 0 where
  pub few : n ≤ 3
  pub ones : take (3 - n) dims ≡ replicate (3 - n) 1
  pub product : L ≡ size dims
  pub small : L < 4294967296

-- ---- the geometry of a shape and a structure

-- what working it out asks: a rank of 1 to 4, and the structure's bytes
pub record ShapeReady (rank : ℕ) (shape structure : List ℕ) : Type 0 where
  pub ranked : bad_rank (entries rank shape) ≡ false
  pub bytes : 3 ^ rank ≤ length structure

-- what it gives, of a shape however large: lines are counted up to the limit, as no machine word may hold their product
pub record Measured (rank : ℕ) (shape structure : List ℕ) (g : Geo) : Type 0 where
  pub rank_is : rank ≡ suc g.leads
  pub dims_are : g.dims ≡ replicate (4 - rank) 1 ++ leading (entries rank shape)
  pub lines_limited : g.lines ≡ min (lines (entries rank shape)) 4294967293
  pub width_is : g.width ≡ width (entries rank shape)
  pub left_is : g.left ≡ left_on (entries rank shape) (entries (3 ^ rank) structure)

-- and of a shape that is not too large
pub record GeoOf (rank : ℕ) (shape structure : List ℕ) (g : Geo) : Type 0 where
  pub rank_is : rank ≡ suc g.leads
  pub leading_is : leading_of g.leads g.dims ≡ leading (entries rank shape)
  pub three : ThreeDims g.leads g.dims g.lines
  pub lines_is : g.lines ≡ lines (entries rank shape)
  pub width_is : g.width ≡ width (entries rank shape)
  pub left_is : g.left ≡ left_on (entries rank shape) (entries (3 ^ rank) structure)

-- ---- of a geometry: cause 4, and the words needed where it does not hold

abbrev pub large_geo : Geo → Bool
large_geo g = leb 2147483647 g.width || (leb 4294967293 g.lines || leb 4294967293 (g.lines * g.width))

pub record WithinLimits (g : Geo) : Type 0 where
  pub width : g.width < 2147483647
  pub lines : g.lines < 4294967293
  pub cells : g.lines * g.width < 4294967293

abbrev pub words_of : Geo → ℕ
words_of g = g.lines + 1 + stride * g.lines * most_runs g.left g.width

-- ---- shapes that may stand in a record

-- the first clauses of document 01's "Unsound, exactly", of a shape, a structure, the count of words and the lines fed, and document
-- 02's. The comment above a field quotes the clause that the field denies
module _ (dims bytes : List ℕ) (words fed : ℕ) where
  pub record ShapeSound : Type 0 where
    -- shape or rank breaks 1, 3 or 4
    pub ranked : bad_rank dims ≡ false
    pub dimensions : has_zero (leading dims) ≡ false
    pub limits : too_large dims ≡ false
    -- document 02, F-4: a record that holds a lopsided structure
    pub not_lopsided : lopsided (length dims) bytes ≡ false
    -- memory shorter than needed
    pub memory : words_needed dims bytes ≤ words
    -- lines fed above L
    pub within : fed ≤ lines dims

  -- computed: that it decides `ShapeSound` is proved in proofs/ShapeSoundLaws.antt
  unfoldable pub shape_sound : Bool
  shape_sound =
      every (not (bad_rank dims)
      ∷ not (has_zero (leading dims))
      ∷ not (too_large dims)
      ∷ not (lopsided (length dims) bytes)
      ∷ leb (words_needed dims bytes) words
      ∷ leb fed (lines dims)
      ∷ [])

-- what the test of a record's arrays finds: their geometry, exactly where they may stand in a record
pub record ShapeFound (rank : ℕ) (shape structure : List ℕ) (words fed : ℕ) (found : Option Geo) : Type 0 where
  pub told : is_some found ≡ shape_sound (entries rank shape) (entries (3 ^ rank) structure) words fed
  pub geometry : (g : Geo) → found ≡ Some g → GeoOf rank shape structure g
