-- No input passed has something left that agrees.
use Rattle.std.proofs.Common.{◌-◌}
use Rattle.choice.specs.After.{Idle}
use Rattle.choice.proofs.sets.is_left.Given as goal

abbrev pub invariant-loop-x : goal.invariant-loop-x
invariant-loop-x l = Idle l.care l.value l.set l.left l.x

abbrev pub decreases-loop-x : goal.decreases-loop-x
decreases-loop-x l = l.inputs - l.x
