-- `feed` meets its contract: refused, or extracted and united.
-- Assumes nothing.
use lib.ListN.{length-map}
use Rattle.label.proofs.RefusedLaws.{failed_feed}
use Rattle.label.proofs.FeedBlockLaws.{passed_room, passed_extracted, passed_feed}
use Rattle.label.proofs.Session.feed.Goals as goal

pub returns-in-Err : goal.returns-in-Err
returns-in-Err g c = failed_feed (c.feed_check.ensures _ (simp length-map)) c.in-Err.is

pub extract_block-new-requires : goal.extract_block-new-requires
extract_block-new-requires g c = passed_room _ _ _ _ (c.feed_check.ensures _ (simp length-map)) c.in-Ok.is

pub union_lines-session-requires : goal.union_lines-session-requires
union_lines-session-requires g c =
    passed_extracted (c.feed_check.ensures _ (simp length-map)) c.in-Ok.is c.extract_block-new.ensures

pub returns-in-Ok : goal.returns-in-Ok
returns-in-Ok g c =
    passed_feed (c.feed_check.ensures _ (simp length-map)) c.in-Ok.is c.extract_block-new.ensures
    c.union_lines-session.ensures c.fed_lines.ensures
