-- The loop's invariant in `parse_flags`: the flags before i are read, and what follows decides.
-- Assumes nothing.
use lib.ListN.{length}
use Rattle.clumps_text.proofs.ReadLaws.{FlagsRead}
use Rattle.clumps_text.proofs.parse_flags.Given as goal

abbrev pub invariant-loop-i : goal.invariant-loop-i
invariant-loop-i l = FlagsRead l.text (length l.initial.flags) l.i l.flags
