-- SciPy's description of `label`, from its text alone. Of symmetric structures its features are document 01's groups, with the same
-- numbers: proofs/ScipyLaws.antt.
-- Assumes nothing.
use Rattle.std.specs.Prelude.{◌≡◌, ◌≢◌, Bool, true, not, ◌&&◌, List, map, ℕ, ◌^◌, ◌<◌, eqb, length}
use Rattle.groups.specs.Groups.{Edge, groups}
use Rattle.groups.specs.Numbers.{Numbered, number}
use Rattle.frame.specs.Shape.{size, coords}
use Rattle.frame.specs.Structure.{offset, Moved, on, centre_code}
use Rattle.frame.specs.ChainRule.{nonzero, edges_by, range}

-- `structure` is "a structuring element that defines feature connections". It connects p to q: any offset but the centre, with a nonzero
-- structure byte, leads from p to q
pub record Connects (shape structure : List ℕ) (p q : ℕ) : Type 0 where
  pub code : ℕ
  pub is_code : code < 3 ^ length shape
  pub off_centre : code ≢ centre_code (length shape)
  pub is_on : on structure code ≡ true
  pub leads : Moved (coords shape p) (offset (length shape) code) (coords shape q)

-- "Any non-zero values in `input` are counted as features and zero values are considered the background": a step is between two of them
pub record ScipyStep (shape structure : List ℕ) (cells : List Bool) (p q : ℕ) : Type 0 where
  pub here : nonzero cells p ≡ true
  pub there : nonzero cells q ≡ true
  pub connected : Connects shape structure p q

-- "Each unique feature in `input` has a unique label": ν has 0 for the background and a feature's number, 1 to n, for its cells, and n is
-- "how many objects were found". The order, by first cells in C order, is that of SciPy's examples
abbrev pub ScipyLabelled : List ℕ → List ℕ → List Bool → ℕ → (ℕ → ℕ) → Type 0
ScipyLabelled shape structure cells n ν = Numbered (nonzero cells) (ScipyStep shape structure cells) (size shape) n ν

-- ---- computed: of a symmetric structure they are so (proofs/ScipyLaws.antt)

-- any offset but the centre, with a nonzero byte
unfoldable pub connecting : List ℕ → List ℕ → ℕ → Bool
connecting shape structure code = not (eqb code (centre_code (length shape))) && on structure code

unfoldable pub scipy_edges : List ℕ → List ℕ → List Bool → List Edge
scipy_edges shape structure cells = edges_by shape (connecting shape structure) cells

-- SciPy's num_features, and its labels of all cells in C order
unfoldable pub scipy_count : List ℕ → List ℕ → List Bool → ℕ
scipy_count shape structure cells = groups (nonzero cells) (scipy_edges shape structure cells) (size shape)

unfoldable pub scipy_labels : List ℕ → List ℕ → List Bool → List ℕ
scipy_labels shape structure cells = map (number (nonzero cells) (scipy_edges shape structure cells)) (range 0 (size shape))
