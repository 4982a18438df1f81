-- The events before this one are told, and the state is the one after them.
use Rattle.stepping.specs.Code.{start_state}
use Rattle.telling.specs.Told.{Telling}
use Rattle.telling.proofs.tell.tell.Given as goal

abbrev pub invariant-loop-event : goal.invariant-loop-event
invariant-loop-event l = Telling l.file l.layout l.marks l.events l.fn.text l.fn.at start_state l.event-index l.text l.this
