-- The layout counts the outputs.
use Rattle.stepping.specs.Laid.{laid_limits, laid_outputs}
use Rattle.leading.proofs.start.outputs_of.Goals as goal

pub values-requires : goal.values-requires
values-requires c = (laid_limits c.requires).1

pub returns : goal.returns
returns c = rw c.values.ensures (laid_outputs c.requires)
