-- The layout counts the inputs.
use Rattle.stepping.specs.Laid.{laid_limits, laid_inputs}
use Rattle.leading.proofs.start.inputs_of.Goals as goal

pub values-requires : goal.values-requires
values-requires c = (laid_limits c.requires).0

pub returns : goal.returns
returns c = rw c.values.ensures (laid_inputs c.requires)
