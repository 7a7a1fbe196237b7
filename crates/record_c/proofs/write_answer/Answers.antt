-- `write_answer` meets its contract: its words are written from the first place on.
-- Assumes nothing.
use Rattle.std.proofs.Common.{refl, rules}
use Rattle.overlay.proofs.WriterLaws.{writes_first}
use Rattle.record_c.proofs.write_answer.Goals as goal

pub returns : goal.returns
returns c =
    let W = rw c.count_words.ensures at (writes_first refl c.put_all.ensures).now_is in
    search (rules, W)
