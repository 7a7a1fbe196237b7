-- `block_lines` meets its contract: it is the definition, by the block count.
-- Assumes nothing.
use mathlib.Core.Path.{ap, ◌∙◌}
use Prim.Native.Nat.{ℕ, ◌+◌, ◌-◌, ◌/◌, min}
use Rattle.label.specs.WholeFrame.{block_lines}
use Rattle.whole.proofs.block_lines.Goals as goal

pub returns : goal.returns
unfolding block_lines
returns c =
    let L = c.args.lines in
    ap (λ (n : ℕ). (L + n - 1) / n) (c.min-count.ensures ∙ ap (λ (n : ℕ). min n L) c.max.ensures)
