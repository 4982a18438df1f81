-- The location's own rules lie within the file.
use Rattle.std.proofs.Common.{arith}
use Rattle.stepping.specs.RuleAhead.{all_ahead}
use Rattle.stepping.proofs.ahead.rules_ahead.Goals as goal

pub overflow_add-at : goal.overflow_add-at
overflow_add-at c = omega (arith, (all_ahead c.requires.0 c.requires.1).ahead)

pub returns : goal.returns
returns c = all_ahead c.requires.0 c.requires.1
