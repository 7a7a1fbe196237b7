-- `structure_of` meets its contract. The loop's invariant: the first `i` words are bytes, and are copied.
-- Assumes nothing.
use Rattle.std.proofs.Common.{◌≡◌, ℕ, ◌<◌, length, get_or, drop}
use Rattle.record_c.specs.Records.{bytes}
use Rattle.record_c.proofs.structure_of.Given as goal

abbrev pub invariant-loop-i : goal.invariant-loop-i
invariant-loop-i l =
    (length l.structure ≡ 81) × ((k : ℕ) → k < l.i → get_or l.structure k 0 ≡ get_or l.words k 0)
    × (bytes (drop l.i l.words) ≡ bytes l.words)
