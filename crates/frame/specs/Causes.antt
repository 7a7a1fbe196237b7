-- The causes of a refusal, and each call's order of them.
-- Assumes nothing.
use Rattle.std.specs.Prelude.{Bool, false, not, cond, ◌&&◌, ◌||◌, List, [], ◌∷◌, ◌++◌, ℕ, ◌*◌, ◌^◌, eqb, ltb, leb, length}
use Rattle.std.specs.Bool.{beq}
use Rattle.frame.specs.Shape.{size, width, leading, lines}
use Rattle.frame.specs.Structure.{on, left_code, opposite_code}
use Rattle.frame.specs.ChainRule.{any}
use Rattle.frame.specs.Memory.{words_needed}

-- ---- conditions on a shape, which a record's shape must not meet either

-- 1: rank 0 or above 4
unfoldable pub bad_rank : List ℕ → Bool
bad_rank shape = eqb (length shape) 0 || ltb 4 (length shape)

-- 3: a leading dimension is 0
unfoldable pub has_zero : List ℕ → Bool
has_zero [] = false
has_zero (d ∷ ds) = eqb d 0 || has_zero ds

-- 4: w ≥ 2,147,483,647, or L or L × w ≥ 4,294,967,293
unfoldable pub too_large : List ℕ → Bool
too_large shape = leb 2147483647 (width shape) || (leb 4294967293 (lines shape) || leb 4294967293 (size shape))

-- ---- a condition on a structure, which a record's structure must not meet either

-- 12 (document 02, F-4): byte i and byte 3^rank - 1 - i are not both zero or both nonzero; of some i
unfoldable pub unlike : ℕ → List ℕ → ℕ → Bool
unlike rank structure i = not (beq (on structure i) (on structure (opposite_code rank i)))

unfoldable pub lopsided : ℕ → List ℕ → Bool
lopsided rank structure = any (unlike rank structure) (3 ^ rank)

-- ---- a condition on a session's structure and the one that is to follow it

-- 19 (document 02, F-12): the left bytes differ in being zero, or an offset nonzero in the old is zero in the new
unfoldable pub left_differs : ℕ → List ℕ → List ℕ → Bool
left_differs rank old new = not (beq (on old (left_code rank)) (on new (left_code rank)))

unfoldable pub dropped : List ℕ → List ℕ → ℕ → Bool
dropped old new i = on old i && not (on new i)

unfoldable pub not_wider : ℕ → List ℕ → List ℕ → Bool
not_wider rank old new = left_differs rank old new || any (dropped old new) (3 ^ rank)

-- ---- order

-- a condition, with the number of the cause that it is
pub record Test : Type 0 where
  pub holds : Bool
  pub number : ℕ

abbrev pub when : Bool → ℕ → Test
when holds number = record { holds = holds; number = number }

-- the number of the first cause whose condition holds, or 0 where none does
unfoldable pub first_cause : List Test → ℕ
first_cause [] = 0
first_cause (t ∷ ts) = cond t.holds t.number (first_cause ts)

-- opening: 1, 2, 12, 3, 4, 5, where `memory` is the count of words
unfoldable pub open_tests : List ℕ → List ℕ → ℕ → List Test
open_tests shape structure memory =
    when (bad_rank shape) 1
    ∷ when (not (eqb (length structure) (3 ^ length shape))) 2
    ∷ when (lopsided (length shape) structure) 12
    ∷ when (has_zero (leading shape)) 3
    ∷ when (too_large shape) 4
    ∷ when (ltb memory (words_needed shape structure)) 5
    ∷ []

unfoldable pub open_cause : List ℕ → List ℕ → ℕ → ℕ
open_cause shape structure memory = first_cause (open_tests shape structure memory)

-- feed: 6, 7, 8. Whether the record is sound, the lines left, k, w, and the count of cells
unfoldable pub feed_tests : Bool → ℕ → ℕ → ℕ → ℕ → List Test
feed_tests sound left k w cells = when (not sound) 6 ∷ when (ltb left k) 7 ∷ when (not (eqb cells (k * w))) 8 ∷ []

unfoldable pub feed_cause : Bool → ℕ → ℕ → ℕ → ℕ → ℕ
feed_cause sound left k w cells = first_cause (feed_tests sound left k w cells)

-- reading: 6, 9, 10. Whether the record is sound, the output's length, L × w, and whether the kind holds n
unfoldable pub read_tests : Bool → ℕ → ℕ → Bool → List Test
read_tests sound out wanted fits = when (not sound) 6 ∷ when (not (eqb out wanted)) 9 ∷ when (not fits) 10 ∷ []

unfoldable pub read_cause : Bool → ℕ → ℕ → Bool → ℕ
read_cause sound out wanted fits = first_cause (read_tests sound out wanted fits)

-- sizes: 6, 9. Whether the record is sound, the slice's length, and n
unfoldable pub sizes_tests : Bool → ℕ → ℕ → List Test
sizes_tests sound out n = when (not sound) 6 ∷ when (not (eqb out n)) 9 ∷ []

unfoldable pub sizes_cause : Bool → ℕ → ℕ → ℕ
sizes_cause sound out n = first_cause (sizes_tests sound out n)

-- structure change: 6, 2, 12, 19. Whether the record is sound, the rank, the structure held and the new one
unfoldable pub widen_tests : Bool → ℕ → List ℕ → List ℕ → List Test
widen_tests sound rank old new =
    when (not sound) 6
    ∷ when (not (eqb (length new) (3 ^ rank))) 2
    ∷ when (lopsided rank new) 12
    ∷ when (not_wider rank old new) 19
    ∷ []

unfoldable pub widen_cause : Bool → ℕ → List ℕ → List ℕ → ℕ
widen_cause sound rank old new = first_cause (widen_tests sound rank old new)

-- whole frame: an opening's, then the rest, 8, 9, 10. The counts of words, of cells and of output places, and whether the kind holds n
abbrev pub rest_tests : List ℕ → ℕ → ℕ → Bool → List Test
rest_tests shape cells out fits =
    when (not (eqb cells (size shape))) 8 ∷ when (not (eqb out (size shape))) 9 ∷ when (not fits) 10 ∷ []

unfoldable pub frame_tests : List ℕ → List ℕ → ℕ → ℕ → ℕ → Bool → List Test
frame_tests shape structure memory cells out fits = open_tests shape structure memory ++ rest_tests shape cells out fits

unfoldable pub frame_cause : List ℕ → List ℕ → ℕ → ℕ → ℕ → Bool → ℕ
frame_cause shape structure memory cells out fits = first_cause (frame_tests shape structure memory cells out fits)
