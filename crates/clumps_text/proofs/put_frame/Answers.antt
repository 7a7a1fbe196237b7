-- `put_frame` meets its contract.
-- Assumes nothing.
use mathlib.Core.Path.{subst}
use mathlib.Core.List.{List}
use Prim.Native.Nat.{ℕ}
use Rattle.overlay.specs.Writers.{Writes}
use Rattle.clumps_text.proofs.LabelLaws.{answer_printed}
use Rattle.clumps_text.proofs.put_frame.Goals as goal

pub returns-in-Ok : goal.returns-in-Ok
returns-in-Ok c =
    let p = c.put_labelled_text in
    subst (λ (t : List ℕ). Writes t c.args.out.now p.new.out) (answer_printed c.in-Ok.ensures) p.ensures

pub returns-in-Err : goal.returns-in-Err
returns-in-Err c =
    let p = c.put_refusal in
    subst (λ (t : List ℕ). Writes t c.args.out.now p.new.out) (answer_printed c.in-Err.ensures) p.ensures
