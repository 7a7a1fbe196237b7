-- `try_record_of` meets its contract: each refusal where those before it are not found, and then the record, word by word.
-- Assumes nothing.
use Rattle.std.proofs.Common.{refl, sym, ◌∙◌, inl, inr, true, false, arith}
use Rattle.std.proofs.lemmas.Result.{err_from_is_err_and}
use Rattle.record_c.specs.Records.{record_of}
use Rattle.record_c.proofs.EarlyLaws.{record_short, answer_short, early_by_bytes}
use Rattle.record_c.proofs.try_record_of.Goals as goal

pub returns-then-rec-lt-RECORD_WORDS : goal.returns-then-rec-lt-RECORD_WORDS
returns-then-rec-lt-RECORD_WORDS c =
    elim c.then-rec-lt-RECORD_WORDS.either [
      | inl h ↦ sym (record_short c.args.rec.now c.args.answer (omega arith))
      | inr h ↦ sym (answer_short c.args.rec.now c.args.answer (omega arith) (omega arith))
    ]

pub returns-in_err-structure : goal.returns-in_err-structure
returns-in_err-structure c =
    let p = err_from_is_err_and c.from_residual.result c.from_residual.ensures.1 in
    let e = c.in_err-structure.ensures in
    rw (p.1, p.2)
    (e.1
    ∙ sym (early_by_bytes c.args.rec.now c.args.answer (omega arith) (omega arith) false e.0))

pub returns : goal.returns
unfolding record_of
returns c =
    let e = c.in_ok-structure.ensures in
    (early_by_bytes c.args.rec.now c.args.answer (omega arith) (omega arith) true e.0, rw e.1 refl)
