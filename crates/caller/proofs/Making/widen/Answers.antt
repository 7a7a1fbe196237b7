-- `widen` meets its contract.
-- Assumes nothing.
use Rattle.caller.proofs.StepLaws.{step_widen}
use Rattle.caller.proofs.Making.widen.Goals as goal

pub returns-clause-step : goal.returns-clause-step
returns-clause-step c rooms = step_widen c.after_feed.ensures rooms c.widen-fed.ensures
