-- `end_feed` meets its contract: by the answer's case.
-- Assumes nothing.
use Rattle.std.proofs.Common.{refl}
use Rattle.std.proofs.lemmas.Result.{err_from_is_err_and}
use Rattle.causes.proofs.CaseLaws.{positive}
use Rattle.record_c.proofs.EndLaws.{ends_refused, record_written, record_stands}
use Rattle.record_c.proofs.end_feed.Goals as goal

pub returns-in_err-said : goal.returns-in_err-said
returns-in_err-said c =
    let p = err_from_is_err_and c.from_residual.result c.from_residual.ensures.1 in
    rw (p.1, p.2, c.in_err-said.was)
    (record { ends = ends_refused _ _ refl; record_is = record_stands _ _ _ (positive c.in_err-said.field-0.0) })

pub returns : goal.returns
returns c =
    rw c.in_ok-said.was
    (record {
      ends = record { number_is = refl; answer_is = c.write_answer.ensures };
      record_is = record_written 0 _ _ refl c.write_record.ensures;
    })
