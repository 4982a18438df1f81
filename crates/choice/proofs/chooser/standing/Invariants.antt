-- The inputs from x on are put together.
use Rattle.choice.specs.Filled.{Filled}
use Rattle.choice.proofs.chooser.standing.Given as goal

abbrev pub invariant-loop-x : goal.invariant-loop-x
invariant-loop-x l = Filled l.sets l.x l.all
