-- `put_refusal` meets its contract.
-- Assumes nothing.
use Rattle.clumps_text.specs.Text.{refused_name}
use Rattle.clumps_text.specs.Output.{refusal_text}
use Rattle.clumps_text.proofs.put_refusal.Goals as goal

pub returns : goal.returns
unfolding refusal_text refused_name
returns c = rw (← c.number.ensures) c.put_line.ensures
