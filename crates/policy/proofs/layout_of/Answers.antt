use Rattle.policy.specs.Check.{reading_refusal, refusal_under}
use Rattle.policy.specs.Layout.{checked_of, checked_under}
use Rattle.policy.proofs.layout_of.Goals as goal

pub returns : goal.returns
unfolding checked_of checked_under refusal_under reading_refusal
returns c = c.layout_under.ensures
