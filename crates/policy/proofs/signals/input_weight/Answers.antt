use Rattle.policy.specs.Signals.{input_weight}
use Rattle.policy.proofs.signals.input_weight.Goals as goal

pub returns : goal.returns
unfolding input_weight
returns c = c.weight_at.ensures
