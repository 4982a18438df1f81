use Rattle.policy.specs.File.{outputs_at}
use Rattle.policy.specs.Signals.{output_weight}
use Rattle.policy.proofs.signals.output_weight.Goals as goal

pub returns : goal.returns
unfolding outputs_at output_weight
returns c = rw (← c.byte_at-inputs.ensures.0) c.weight_at.ensures
