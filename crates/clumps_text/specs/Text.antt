-- Lines of text as bytes: names, decimal numbers, flags.
-- Assumes nothing.
use Rattle.std.specs.Prelude.{Bool, cond, List, [], ◌∷◌, ◌++◌, ℕ, zero, suc, ◌+◌, ◌/◌, ◌%◌, ltb}

-- a name, a value, and the byte 10 that ends the line; then the lines that follow
abbrev pub line : List ℕ → List ℕ → List ℕ → List ℕ
line name value rest = name ++ (value ++ (10 ∷ rest))

-- ---- numbers

-- the last k digits of a number, without leading zeros. 48 is the character 0
unfoldable pub digits : ℕ → ℕ → List ℕ
digits zero n = []
digits (suc k) n = cond (ltb n 10) [] (digits k (n / 10)) ++ ((48 + n % 10) ∷ [])

-- decimal without leading zeros: no number has more digits than its successor counts
unfoldable pub decimal : ℕ → List ℕ
decimal n = digits (suc n) n

-- numbers with one blank, byte 32, between
unfoldable pub blank_before : List ℕ → List ℕ
blank_before [] = []
blank_before (n ∷ ns) = 32 ∷ (decimal n ++ blank_before ns)

unfoldable pub decimals : List ℕ → List ℕ
decimals [] = []
decimals (n ∷ ns) = decimal n ++ blank_before ns

-- ---- flags: the character 1 or 0

unfoldable pub flag_character : Bool → ℕ
flag_character b = cond b 49 48

-- ---- names

-- width=
unfoldable pub width_name : List ℕ
width_name = 119 ∷ 105 ∷ 100 ∷ 116 ∷ 104 ∷ 61 ∷ []

-- lines=
unfoldable pub lines_name : List ℕ
lines_name = 108 ∷ 105 ∷ 110 ∷ 101 ∷ 115 ∷ 61 ∷ []

-- structure=
unfoldable pub structure_name : List ℕ
structure_name = 115 ∷ 116 ∷ 114 ∷ 117 ∷ 99 ∷ 116 ∷ 117 ∷ 114 ∷ 101 ∷ 61 ∷ []

-- cells=, of the cells that are read and of their total that is printed
unfoldable pub cells_name : List ℕ
cells_name = 99 ∷ 101 ∷ 108 ∷ 108 ∷ 115 ∷ 61 ∷ []

-- runs=
unfoldable pub runs_name : List ℕ
runs_name = 114 ∷ 117 ∷ 110 ∷ 115 ∷ 61 ∷ []

-- joins=
unfoldable pub joins_name : List ℕ
joins_name = 106 ∷ 111 ∷ 105 ∷ 110 ∷ 115 ∷ 61 ∷ []

-- objects=
unfoldable pub objects_name : List ℕ
objects_name = 111 ∷ 98 ∷ 106 ∷ 101 ∷ 99 ∷ 116 ∷ 115 ∷ 61 ∷ []

-- labels=
unfoldable pub labels_name : List ℕ
labels_name = 108 ∷ 97 ∷ 98 ∷ 101 ∷ 108 ∷ 115 ∷ 61 ∷ []

-- refused=
unfoldable pub refused_name : List ℕ
refused_name = 114 ∷ 101 ∷ 102 ∷ 117 ∷ 115 ∷ 101 ∷ 100 ∷ 61 ∷ []
