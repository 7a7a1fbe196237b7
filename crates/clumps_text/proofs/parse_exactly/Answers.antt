-- `parse_exactly` meets its contract.
-- Assumes nothing.
use Rattle.std.proofs.lemmas.Bool.Decides.{Decides-eqb}
use Rattle.std.proofs.lemmas.Slice.Eq.{strip_prefix_is}
use Rattle.clumps_text.proofs.ReadLaws.{stripped}
use Rattle.clumps_text.proofs.parse_exactly.Goals as goal

pub returns : goal.returns
returns c =
    let s = c.args in
    let r = c.strip_prefix in
    stripped s.name.now s.text.now r.result (strip_prefix_is Decides-eqb s.text.now s.name.now r.result r.ensures.cases)
