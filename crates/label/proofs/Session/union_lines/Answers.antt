-- `union_lines` meets its contract: the extracted lines are united, and the record has the new figures.
-- Assumes nothing.
use mathlib.Core.Path.{◌≡◌}
use borrow.Author.Rules.{rules}
use lib.ListN.{length}
use native.Mathlib.Omega.{arith}
use Rattle.label.proofs.RecordGeometry.{sound_bytes}
use Rattle.label.proofs.FeedBlockLaws.{feed_ready, feed_lines_fit, feed_figures_fit, feed_done}
use Rattle.label.proofs.Session.union_lines.Goals as goal

pub union_block-joins-requires : goal.union_block-joins-requires
union_block-joins-requires c =
    let structure-long : length c.args.self.structure ≡ 81 = search rules in
    let p = c.requires in
    let X = p.extracted in
    let long = sound_bytes c.args.self p.words structure-long X.given.is_sound in
    feed_ready c.args.self p.words c.args.k p.cells c.args.g _ c.args.new X long

pub plus-requires : goal.plus-requires
plus-requires c =
    let structure-long : length c.args.self.structure ≡ 81 = search rules in
    let p = c.requires in
    let X = p.extracted in
    let long = sound_bytes c.args.self p.words structure-long X.given.is_sound in
    let u = c.union_block-joins in
    feed_figures_fit c.args.self p.words c.args.k p.cells c.args.g _ c.args.new X long
    u.new.words u.result u.ensures

pub overflow_add-result : goal.overflow_add-result
overflow_add-result c =
    let p = c.requires in
    record { fits = omega (arith, feed_lines_fit c.args.self p.words c.args.k p.cells p.extracted.given) }

pub returns : goal.returns
returns c =
    let structure-long : length c.args.self.structure ≡ 81 = search rules in
    let u = c.union_block-joins in
    λ ws cells X.
    feed_done c.args.self ws c.args.k cells c.args.g _ c.args.new X
    (sound_bytes c.args.self ws structure-long X.given.is_sound) u.new.words u.result u.ensures
    c.plus.ensures
