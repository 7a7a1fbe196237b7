-- `put_answer` meets its contract.
-- Assumes nothing.
use mathlib.Core.Path.{subst}
use mathlib.Core.List.{List}
use Prim.Native.Nat.{ℕ}
use Rattle.overlay.specs.Writers.{Writes}
use Rattle.clumps_text.proofs.FrameLaws.{frame_output, refused_output}
use Rattle.clumps_text.proofs.put_answer.Goals as goal

pub returns-in-Some : goal.returns-in-Some
returns-in-Some c =
    let p = c.put_frame in
    subst (λ (t : List ℕ). Writes t c.args.out.now p.new.out) (frame_output c.in-Some.ensures) p.ensures

pub returns-in-None : goal.returns-in-None
returns-in-None c =
    let p = c.put_refusal in
    subst (λ (t : List ℕ). Writes t c.args.out.now p.new.out) (refused_output c.args.text.now c.in-None.ensures) p.ensures
