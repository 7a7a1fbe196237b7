-- The loop's invariant in `put_decimals`: the others before this one are printed, with a blank before each.
-- Assumes nothing.
use lib.ListN.{take}
use Rattle.clumps_text.specs.Text.{blank_before}
use Rattle.overlay.specs.Writers.{Writes}
use Rattle.clumps_text.proofs.put_decimals.Given as goal

abbrev pub invariant-loop-number : goal.invariant-loop-number
invariant-loop-number l = Writes (blank_before (take l.number-index l.others)) l.initial.out l.out
