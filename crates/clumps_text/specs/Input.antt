-- The program's input, document 01's four lines: as the text of a frame, and as the frame read from a text. That the two are one is
-- proved in proofs/InputLaws.antt.
-- Assumes nothing.
use Rattle.std.specs.Prelude.{◌≡◌, ◌⊎◌, Bool, cond, ◌&&◌, ◌||◌, List, [], ◌∷◌, ◌++◌, map, ℕ, zero, suc, ◌+◌, ◌-◌, ◌*◌, ◌≤◌, eqb, leb, length, get_or}
use Rattle.clumps_text.specs.Text.{line, decimal, flag_character, width_name, lines_name, structure_name, cells_name}

-- ---- the text of a frame

-- what the lines say. No structure flags stand for nine ones; the cells are in C order
pub record TextFrame : Type 0 where
  pub width : ℕ
  pub lines : ℕ
  pub structure : List Bool
  pub cells : List Bool

-- width and lines are 1 to 48, the structure is nine flags or none, and there are width × lines cells
pub record Accepted (f : TextFrame) : Type 0 where
  pub some_width : 1 ≤ f.width
  pub most_width : f.width ≤ 48
  pub some_lines : 1 ≤ f.lines
  pub most_lines : f.lines ≤ 48
  pub nine_or_none : (length f.structure ≡ 0) ⊎ (length f.structure ≡ 9)
  pub all_cells : length f.cells ≡ f.lines * f.width

-- the four lines, and a rest
unfoldable pub text_before : TextFrame → List ℕ → List ℕ
text_before f rest =
    line width_name (decimal f.width)
    (line lines_name (decimal f.lines)
    (line structure_name (map flag_character f.structure) (line cells_name (map flag_character f.cells) rest)))

unfoldable pub text_of : TextFrame → List ℕ
text_of f = text_before f []

-- ---- the frame read from a text

-- what was read, and the text after it; or that the text is not of the form
pub data Parsed (A : Type 0) : Type 0 where
  parsed : A → List ℕ → Parsed A
  bad : Parsed A

-- go on with what was read and the text after it
unfoldable pub and_then : {A B : Type 0} → Parsed A → (A → List ℕ → Parsed B) → Parsed B
and_then (parsed a t) k = k a t
and_then bad k = bad

-- bytes that must stand here
unfoldable pub parse_exactly : List ℕ → List ℕ → Parsed (Unit {0})
parse_exactly [] t = parsed tt t
parse_exactly (x ∷ xs) [] = bad
parse_exactly (x ∷ xs) (y ∷ t) = cond (eqb x y) (parse_exactly xs t) bad

-- the value of one digit, where byte 10 follows it, else of two; whatever bytes stand here
unfoldable pub digits_value : List ℕ → ℕ
digits_value t = cond (eqb (get_or t 1 0) 10) (get_or t 0 0 - 48) (10 * (get_or t 0 0 - 48) + (get_or t 1 0 - 48))

-- a number from 1 to 48, decimal without leading zeros, and the byte 10 that ends its line
unfoldable pub parse_number : List ℕ → Parsed ℕ
parse_number t =
    cond (leb 1 (digits_value t) && leb (digits_value t) 48)
    (and_then (parse_exactly (decimal (digits_value t) ++ (10 ∷ [])) t) λ _ r. parsed (digits_value t) r)
    bad

-- n characters 0 or 1
unfoldable pub parse_flags : ℕ → List ℕ → Parsed (List Bool)
parse_flags zero t = parsed [] t
parse_flags (suc n) [] = bad
parse_flags (suc n) (b ∷ t) = cond (eqb b 48 || eqb b 49) (and_then (parse_flags n t) λ fs r. parsed (eqb b 49 ∷ fs) r) bad

-- how many flags the structure's line has: none where it ends at once
unfoldable pub flags_given : List ℕ → ℕ
flags_given t = cond (eqb (get_or t 0 0) 10) 0 9

-- the last two lines, where the first two say w and l
unfoldable pub last_lines : ℕ → ℕ → List ℕ → Parsed TextFrame
last_lines w l t₁ =
    and_then (parse_exactly structure_name t₁) λ _ t₂.
    and_then (parse_flags (flags_given t₂) t₂) λ s t₃.
    and_then (parse_exactly (10 ∷ cells_name) t₃) λ _ t₄.
    and_then (parse_flags (l * w) t₄) λ c t₅.
    and_then (parse_exactly (10 ∷ []) t₅) λ _ t₆. parsed (record { width = w; lines = l; structure = s; cells = c }) t₆

-- the frame whose four lines begin the text
unfoldable pub parse : List ℕ → Parsed TextFrame
parse t₁ =
    and_then (parse_exactly width_name t₁) λ _ t₂.
    and_then (parse_number t₂) λ w t₃.
    and_then (parse_exactly lines_name t₃) λ _ t₄.
    and_then (parse_number t₄) λ l t₅. last_lines w l t₅
