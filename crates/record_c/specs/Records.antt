-- A record as words: rank, shape, structure (a byte to a word), lines fed and the figures.
-- Assumes nothing.
use Rattle.std.specs.Prelude.{◌≡◌, Bool, true, ◌&&◌, List, [], ◌∷◌, ◌++◌, ℕ, ◌≤◌, ltb, length, get_or, take, drop}
use Rattle.frame.specs.declared.Figures.{Figures}
use Rattle.label.specs.declared.Session.{Session}

-- how many
abbrev pub record_words : ℕ
record_words = 90

-- the words of the figures: in a record, and in an answer
abbrev pub figure_words : Figures → List ℕ
figure_words f = f.runs ∷ f.joins ∷ f.cells ∷ []

-- the words of a record
unfoldable pub words_of : Session → List ℕ
words_of s = (s.rank ∷ []) ++ (s.shape ++ (s.structure ++ (s.fed ∷ figure_words s.figures)))

-- the structure's, of a record's words
abbrev pub structure_words : List ℕ → List ℕ
structure_words r = take 81 (drop 5 r)

-- the record that words hold
unfoldable pub record_of : List ℕ → Session
record_of r =
    record {
      rank = get_or r 0 0;
      shape = get_or r 1 0 ∷ get_or r 2 0 ∷ get_or r 3 0 ∷ get_or r 4 0 ∷ [];
      structure = structure_words r;
      fed = get_or r 86 0;
      figures = record { runs = get_or r 87 0; joins = get_or r 88 0; cells = get_or r 89 0 };
    }

-- is each word a byte?
unfoldable pub bytes : List ℕ → Bool
bytes [] = true
bytes (x ∷ xs) = ltb x 256 && bytes xs

-- words that are the bytes of a structure
pub record StructureReady (l : List ℕ) : Type 0 where
  pub long : length l ≡ 81
  pub are_bytes : bytes l ≡ true

-- words that hold a record, sound or not
pub record RecordReady (r : List ℕ) : Type 0 where
  pub long : record_words ≤ length r
  pub are_bytes : bytes (structure_words r) ≡ true
