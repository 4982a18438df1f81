-- The sets of the inputs passed have lost what agrees.
use Rattle.std.proofs.Common.{◌-◌}
use Rattle.choice.specs.After.{Walked, rest}
use Rattle.choice.proofs.sets.take.Given as goal

abbrev pub invariant-loop-x : goal.invariant-loop-x
invariant-loop-x l = Walked l.care l.value (rest l.care l.value l.set l.initial.left) l.inputs l.initial.left l.x l.left

abbrev pub decreases-loop-x : goal.decreases-loop-x
decreases-loop-x l = l.inputs - l.x
