-- The first i events are explained, and the run stands in `state`.
use Rattle.reasons.specs.RunLaws.{Walking}
use Rattle.reasons.proofs.runs.explain_each.Given as goal

abbrev pub invariant-loop-i : goal.invariant-loop-i
invariant-loop-i l = Walking l.file l.layout l.marks l.events l.fn.words l.fn.start l.i l.words l.state
