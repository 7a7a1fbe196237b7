-- The measure of the calls of `put_decimal` to itself is the number.
-- Assumes nothing.
use Rattle.clumps_text.proofs.+put_decimal.Given as goal

abbrev pub decreases-put_decimal : goal.decreases-put_decimal
decreases-put_decimal l = l.n
