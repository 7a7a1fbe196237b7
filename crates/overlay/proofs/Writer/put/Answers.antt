-- `Writer::put` meets its contract: there is room, or there is none.
-- Assumes nothing.
use Rattle.std.proofs.Common.{rules}
use Rattle.frame.proofs.OverlayLaws.{adds_put, adds_full}
use Rattle.overlay.proofs.Writer.put.Goals as goal

pub returns-then-self : goal.returns-then-self
returns-then-self g c = record { adds = adds_put _ _ _ c.if-self.true; held = search rules }

pub returns-else-self : goal.returns-else-self
returns-else-self g c = record { adds = adds_full _ _ _ c.if-self.false; held = search rules }
