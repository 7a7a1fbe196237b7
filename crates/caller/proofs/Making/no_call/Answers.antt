-- `no_call` meets its contract.
-- Assumes nothing.
use Rattle.caller.proofs.StepLaws.{step_none}
use Rattle.caller.proofs.Making.no_call.Goals as goal

pub returns-clause-step : goal.returns-clause-step
returns-clause-step c rooms = step_none (rw c.zero.ensures at c.put_eight.ensures.adds)
