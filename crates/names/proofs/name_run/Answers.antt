-- `name_run` meets its contract.
-- Assumes nothing.
use native.Mathlib.Omega.{arith}
use Rattle.names.proofs.NameLaws.{count_low, name_turn}
use Rattle.names.proofs.name_run.Goals as goal

pub overflow_add-words : goal.overflow_add-words
overflow_add-words c = record { fits = omega (arith, count_low c.requires) }

pub returns : goal.returns
returns c = name_turn c.requires c.word-up.ensures c.word-number.ensures
