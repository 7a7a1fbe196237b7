-- Masks: numbers whose bits are the flags of a chunk, which is 64 cells.
-- Assumes nothing.
use Rattle.std.specs.Prelude.{◌≡◌, Bool, true, false, List, [], ◌∷◌, ℕ, zero, suc, ◌+◌, ◌*◌, ◌%◌, ◌^◌, ◌<◌, get_or}
use Rattle.frame.specs.Kinds.{nz}

abbrev pub bit : Bool → ℕ
bit false = 0
bit true = 1

-- the first k flags of l as bits, the first lowest; past the end of l bits are 0
unfoldable pub mask_of : ℕ → List Bool → ℕ
mask_of zero l = 0
mask_of (suc k) [] = 0
mask_of (suc k) (b ∷ l) = mask_of k l * 2 + bit b

-- the first n bytes of b show flags: a byte is nonzero exactly where its flag is set, and zero past them
abbrev pub Shows : List Bool → List ℕ → ℕ → Type 0
Shows flags b n = (i : ℕ) → i < n → nz (get_or b i 0) ≡ get_or flags i false

-- the first n bytes of t are the weights of flags: 0 where the flag is false, else 2 to the power of its place among eight
abbrev pub Weighs : List Bool → List ℕ → ℕ → Type 0
Weighs flags t n = (i : ℕ) → i < n → get_or t i 0 ≡ bit (get_or flags i false) * 2 ^ (i % 8)

-- t has the weights of some flags, and eight of them begin at place j
pub record Eight (t : List ℕ) (j : ℕ) : Type 0 where
  pub flags : List Bool
  pub weighed : Weighs flags t 64
  pub inside : j < 64
  pub eight : j % 8 ≡ 0
