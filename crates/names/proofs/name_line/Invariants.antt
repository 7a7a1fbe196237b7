-- `name_line` meets its contract. The loop's invariant: the line's runs before r are named.
-- Assumes nothing.
use Rattle.names.proofs.NameLaws.{NamedTo}
use Rattle.names.proofs.name_line.Given as goal

abbrev pub invariant-loop-r : goal.invariant-loop-r
invariant-loop-r l = NamedTo l.lines l.line l.initial.words l.c l.r-end l.words l.named l.r
