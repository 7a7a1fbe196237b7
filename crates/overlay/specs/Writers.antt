-- What a writer does.
-- Assumes nothing.
use Rattle.std.specs.Prelude.{◌≡◌, List}
use denote.Ref.{at_last}
use Rattle.frame.specs.Overlay.{Adds}
use Rattle.overlay.specs.declared.Writer.{Writer}

-- zs are written behind what was written before, and the writer still holds the same slice
pub record Writes {A : Type 0} (zs : List A) (before after : Writer A) : Type 0 where
  pub adds : Adds zs before.out.now before.at after.out.now after.at
  pub held : after.out ≡ at_last before.out after.out.now
