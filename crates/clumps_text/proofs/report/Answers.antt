-- `report` meets its contract.
-- Assumes nothing.
use borrow.Author.Rules.{rules}
use Rattle.frame.proofs.OverlayLaws.{adds_first}
use Rattle.clumps_text.proofs.report.Goals as goal

pub returns : goal.returns
returns c =
    let h = adds_first c.put_answer.ensures.adds in
    let now = h.now_is in
    let place = h.place_is in
    search (rules, h, now, place)
