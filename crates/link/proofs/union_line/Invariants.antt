-- `union_line` meets its contract. The loop's invariant: the touches by the codes before this one are united.
-- Assumes nothing.
use Rattle.groups.specs.Groups.{gather}
use Rattle.link.specs.Lines.{UnitedIn, touches_by_in, runs_to}
use Rattle.link.proofs.union_line.Given as goal

abbrev pub invariant-loop-code : goal.invariant-loop-code
invariant-loop-code l =
    UnitedIn l.g.lines l.initial.words l.words (runs_to l.initial.words l.line)
    (gather (touches_by_in l.g l.structure l.initial.words l.line) 0 l.code) l.joins
