-- The rule that decides the event takes the state on.
use Rattle.stepping.proofs.DecidedLaws.{decided_step}
use Rattle.stepping.proofs.state.State.step.Goals as goal

pub returns : goal.returns
returns c = decided_step (rw c.requires.2 at c.rule_of-rule.ensures) c.by.ensures
