-- `write_sizes` meets its contract: refused, or counted.
-- Assumes nothing.
use Rattle.std.proofs.Common.{◌≡◌, Err, rules}
use Rattle.label.proofs.RefusedLaws.{failed_sizes}
use Rattle.label.proofs.WrittenSizes.{sizes_joins, passed_counts, passed_sizes}
use Rattle.label.proofs.Session.write_sizes.Goals as goal

pub returns-in_err-g : goal.returns-in_err-g
returns-in_err-g c =
    let same : c.from_residual.result ≡ Err c.in_err-g.field-0.0 = search rules in
    failed_sizes c.sizes_check.ensures c.in_err-g.was same

pub size_block-requires : goal.size_block-requires
size_block-requires c = passed_counts _ _ _ c.sizes_check.ensures c.in_ok-g.was

pub counted-requires : goal.counted-requires
counted-requires c = sizes_joins _ _ _ c.sizes_check.ensures c.in_ok-g.was

pub returns : goal.returns
returns c = passed_sizes c.sizes_check.ensures c.in_ok-g.was c.size_block.ensures c.counted.ensures
