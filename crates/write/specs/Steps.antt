-- What the steps of painting ask and do: cells filled with one number, one line.
-- Assumes nothing.
use Rattle.std.specs.Prelude.{◌≡◌, List, ℕ, suc, ◌+◌, ◌*◌, ◌≤◌, ◌<◌, length}
use Rattle.frame.specs.Kinds.{Number, largest, Value, write}
use Rattle.frame.specs.Memory.{stride}
use Rattle.frame.specs.Runs.{Run, Covers}
use Rattle.frame.specs.Words.{line_start, run_end, name_of, stored_run}
use Rattle.sweep.specs.Sweeps.{InOrder}
use Rattle.write.specs.Writes.{output_at}

-- ---- cells

-- the cells a to before e hold v, and every other cell stands
pub record Filled (kind : Number) (a e : ℕ) (v : Value kind) (out out' : List (Value kind)) : Type 0 where
  pub long : length out' ≡ length out
  pub inside : (x : ℕ) → a ≤ x → x < e → output_at kind out' x ≡ v
  pub before : (x : ℕ) → x < a → output_at kind out' x ≡ output_at kind out x
  pub past : (x : ℕ) → e ≤ x → output_at kind out' x ≡ output_at kind out x

-- what painting the cells s to before e of a line of w cells asks: those past them are 0
pub record PaintReady (kind : Number) (s e w : ℕ) (out : List (Value kind)) : Type 0 where
  pub upward : s ≤ e
  pub within : e ≤ w
  pub room : w ≤ length out
  pub zeros : (x : ℕ) → e ≤ x → x < w → output_at kind out x ≡ write kind 0

-- ---- one line

-- what painting line ℓ asks, where out is the count of places: its runs are in order and within the width, and the kind holds their names
pub record LineToPaint (kind : Number) (L w ℓ : ℕ) (ws : List ℕ) (out : ℕ) : Type 0 where
  pub within : ℓ < L
  pub words : L + 1 + stride * line_start ws (suc ℓ) ≤ length ws
  pub sorted : InOrder (stored_run L ws) (line_start ws ℓ) (line_start ws (suc ℓ))
  pub inside : (r : ℕ) → line_start ws ℓ ≤ r → r < line_start ws (suc ℓ) → run_end L ws r ≤ w
  pub fits : (r : ℕ) → line_start ws ℓ ≤ r → r < line_start ws (suc ℓ) → name_of L ws r ≤ largest kind
  pub places : w ≤ out

-- of a line of w cells, each that one of the runs a to before b covers has that run's number, every other 0, and cells past the line
-- stand
pub record Painted (kind : Number) (R : ℕ → Run) (number : ℕ → ℕ) (a b w : ℕ) (out out' : List (Value kind)) : Type 0 where
  pub long : length out' ≡ length out
  pub covered : (x r : ℕ) → a ≤ r → r < b → Covers (R r) x → output_at kind out' x ≡ write kind (number r)
  pub zeros : (x : ℕ) → x < w → ((r : ℕ) → a ≤ r → r < b → Covers (R r) x → ⊥) → output_at kind out' x ≡ write kind 0
  pub past : (x : ℕ) → w ≤ x → output_at kind out' x ≡ output_at kind out x

-- line ℓ is painted: the number of each of its runs is the name that the words hold
abbrev pub LinePainted : (kind : Number) → ℕ → ℕ → ℕ → List ℕ → List (Value kind) → List (Value kind) → Type 0
LinePainted kind L w ℓ ws out out' = Painted kind (stored_run L ws) (name_of L ws) (line_start ws ℓ) (line_start ws (suc ℓ)) w out out'
