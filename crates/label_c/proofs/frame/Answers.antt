-- `frame` keeps its promise: the answer is too short, or the frame is labelled.
-- Assumes nothing.
use Rattle.label_c.proofs.CallLaws.{frame_early_lem, frame_made}
use Rattle.label_c.proofs.frame.Goals as goal

pub returns-then-answer-lt-ANSWER_WORDS : goal.returns-then-answer-lt-ANSWER_WORDS
returns-then-answer-lt-ANSWER_WORDS g c = frame_early_lem c.if-answer-lt-ANSWER_WORDS.true

pub returns : goal.returns
returns g c = frame_made c.if-answer-lt-ANSWER_WORDS.false c.label_impl-counted.ensures c.end_read.ensures
