-- What writers write, one piece behind another, and from the first place on.
-- Assumes nothing.
use mathlib.Core.Path.{◌≡◌, refl, ap, ◌∙◌}
use mathlib.Core.List.{List, [], ◌++◌}
use denote.Ref.{at_last}
use denote.MutBor.{MutBor}
use Rattle.frame.specs.Overlay.{Holds}
use Rattle.frame.proofs.OverlayLaws.{adds_none, adds_then, adds_first}
use Rattle.overlay.specs.declared.Writer.{Writer}
use Rattle.overlay.specs.Writers.{Writes}

-- two pieces
pub writes_then : {A : Type 0} {zs vs : List A} {a b c : Writer A} → Writes zs a b → Writes vs b c → Writes (zs ++ vs) a c
writes_then {c = c} W V =
    record { adds = adds_then W.adds V.adds; held = V.held ∙ ap (λ (o : MutBor (List _)). at_last o c.out.now) W.held }

-- nothing
pub writes_none : {A : Type 0} (w : Writer A) → Writes [] w w
writes_none w = record { adds = adds_none; held = refl }

-- all that a writer wrote from the first place on
pub writes_first : {A : Type 0} {zs : List A} {a b : Writer A} → a.at ≡ 0 → Writes zs a b → Holds zs a.out.now b.out.now b.at
writes_first e W = adds_first (rw (← e) W.adds)
