-- `put_bytes` meets its contract. The loop's invariant: the bytes so far are written.
-- Assumes nothing.
use lib.ListN.{take}
use Rattle.overlay.specs.Writers.{Writes}
use Rattle.record_c.proofs.put_bytes.Given as goal

abbrev pub invariant-loop-byte : goal.invariant-loop-byte
invariant-loop-byte l = Writes (take l.byte-index l.bytes) l.initial.words l.words
