-- `label_into` meets its contract.
-- Assumes nothing.
use mathlib.Core.Path.{◌≡◌}
use Prim.Native.Nat.{ℕ}
use lib.ListN.{length, replicate, length-replicate}
use borrow.Author.Rules.{rules}
use Rattle.clumps_text.proofs.LabelLaws.{ready, labels_done}
use Rattle.clumps_text.proofs.label_into.Goals as goal

pub returns : goal.returns
returns c =
    let f = c.args.frame.now in
    let s : length f.structure ≡ 9 = search rules in
    let k : length f.cells ≡ 2304 = search rules in
    labels_done (ready f s k c.requires) (replicate 11569 0) (length-replicate {A = ℕ} 11569 0)
    (rw c.size.ensures.count at c.label_impl.ensures)
