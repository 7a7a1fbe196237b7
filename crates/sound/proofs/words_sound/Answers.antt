-- `words_sound` meets its contract.
-- Assumes nothing.
use Rattle.sound.proofs.ReadyLaws.{lines_ready}
use Rattle.sound.proofs.RunPassLaws.{roots_few}
use Rattle.sound.proofs.PassLaws.{start_wrong, lines_wrong, answer}
use Rattle.sound.proofs.words_sound.Goals as goal

pub returns-then-words-runs : goal.returns-then-words-runs
returns-then-words-runs c = start_wrong _ _ _ _ _ _ c.most_runs-most.ensures c.if-words-runs.true

pub returns-in_default : goal.returns-in_default
returns-in_default c = lines_wrong _ _ _ _ _ _ c.requires c.lines_pass.ensures c.in_default.is

pub overflow_sub-result : goal.overflow_sub-result
overflow_sub-result c = roots_few _ _ _ c.runs_pass-found.ensures

pub returns : goal.returns
returns c =
    let P = c.requires in
    answer _ _ _ _ _ _ P c.lines_pass.ensures (lines_ready _ _ _ _ _ c.most_runs-most.ensures P _ c.if-words-runs.false).first
    _ c.in-Some.is c.runs_pass-found.ensures
