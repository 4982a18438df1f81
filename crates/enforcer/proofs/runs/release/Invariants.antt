-- The answer is that of a run that has released i events and stands in `state`.
use Rattle.enforcer.proofs.RunLaws.{Going}
use Rattle.enforcer.proofs.runs.release.Given as goal

abbrev pub invariant-loop-i : goal.invariant-loop-i
invariant-loop-i l = Going l.file l.layout l.marks l.events l.fn.out l.fn.start l.i l.out l.state
