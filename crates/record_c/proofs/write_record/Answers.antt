-- `write_record` meets its contract: rank, shape, structure and figures, one behind the other.
-- Assumes nothing.
use Rattle.std.proofs.Common.{refl, rules}
use Rattle.overlay.proofs.WriterLaws.{writes_first, writes_then}
use Rattle.record_c.specs.Records.{words_of}
use Rattle.record_c.proofs.RecordLaws.{mapped_same}
use Rattle.record_c.proofs.write_record.Goals as goal

pub returns : goal.returns
unfolding words_of
returns c =
    let s = c.args.s in
    let shape = mapped_same _ _ s.shape c.map.result 4 c.map.ensures.items (search rules) (λ p q x y k. search rules) in
    let last = writes_then c.put_bytes.ensures c.put_all-2.ensures in
    let all = writes_first refl (writes_then c.put.ensures (writes_then c.put_all.ensures last)) in
    let W = rw (shape, c.count_words.ensures) at all.now_is in
    search (rules, W)
