-- The code is the definition.
use Rattle.std.proofs.Common.{rules}
use Rattle.choice.specs.After.{after}
use Rattle.choice.proofs.sets.after.Goals as goal

pub returns : goal.returns
unfolding after
returns c = search rules
