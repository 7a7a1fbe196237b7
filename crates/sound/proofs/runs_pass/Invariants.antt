-- `runs_pass` meets its contract. The loop's invariant: what has been found of the runs of the blocks before this one.
-- Assumes nothing.
use Rattle.sound.proofs.RunPassLaws.{RunsTo}
use Rattle.sound.proofs.runs_pass.Given as goal

abbrev pub invariant-loop-block : goal.invariant-loop-block
invariant-loop-block l = RunsTo l.lines l.left l.words l.runs l.found l.block
