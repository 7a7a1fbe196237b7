-- `geo_of` meets its contract: lines are counted up to the limit.
-- Assumes nothing.
use Rattle.geo.proofs.DimsLaws.{rank_limits}
use Rattle.geo.proofs.GeoLaws.{measured}
use Rattle.geo.proofs.geo_of.Goals as goal

pub left_byte-left-requires : goal.left_byte-left-requires
left_byte-left-requires c =
    let r = rank_limits c.args.rank c.args.shape c.requires.ranked in
    (r.0, r.1, c.requires.bytes)

pub returns : goal.returns
returns c =
    let d = c.leading_dims-dims in
    measured c.args.rank c.args.shape c.args.structure.now c.requires d.result c.limited_lines-lines.result
    c.last_dim-width.result c.left_byte-left.result
    d.ensures c.limited_lines-lines.ensures c.last_dim-width.ensures c.left_byte-left.ensures
