-- `feed` meets its contract.
-- Assumes nothing.
use Rattle.caller.proofs.StepLaws.{step_feed}
use Rattle.caller.proofs.Making.feed.Goals as goal

pub returns-clause-step : goal.returns-clause-step
returns-clause-step g c kind rooms is = step_feed c.after_feed.ensures rooms kind is c.feed-fed.ensures
