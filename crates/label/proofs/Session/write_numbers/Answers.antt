-- `write_numbers` meets its contract: refused, or numbered.
-- Assumes nothing.
use mathlib.Core.Path.{◌∙◌}
use lib.ListN.{length-map}
use Rattle.std.proofs.Common.{◌≡◌, Err, rules}
use Rattle.label.proofs.RefusedLaws.{failed_read}
use Rattle.label.proofs.WrittenNumbers.{read_joins, passed_ready, passed_read}
use Rattle.label.proofs.Session.write_numbers.Goals as goal

pub returns-in_err-g : goal.returns-in_err-g
returns-in_err-g g c =
    let same : c.from_residual.result ≡ Err c.in_err-g.field-0.0 = search rules in
    failed_read (rw length-map (c.read_check.ensures _ (c.MAXV.ensures ∙ g.met.T.FromU32.largest_is))) c.in_err-g.was same

pub write_block-requires : goal.write_block-requires
write_block-requires g c = passed_ready _ _ _ _ (c.read_check.ensures _ (c.MAXV.ensures ∙ g.met.T.FromU32.largest_is)) c.in_ok-g.was

pub counted-requires : goal.counted-requires
counted-requires g c =
    read_joins _ _ _ _ (c.read_check.ensures _ (c.MAXV.ensures ∙ g.met.T.FromU32.largest_is)) c.in_ok-g.was

pub returns : goal.returns
returns g c =
    passed_read (rw length-map (c.read_check.ensures _ (c.MAXV.ensures ∙ g.met.T.FromU32.largest_is))) c.in_ok-g.was
    c.write_block.ensures c.counted.ensures
