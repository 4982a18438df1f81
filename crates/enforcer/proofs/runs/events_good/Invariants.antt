-- The events are good exactly if those from this one on are.
use Rattle.std.proofs.Common.{◌≡◌, drop}
use Rattle.policy.specs.Check.{all_pass}
use Rattle.enforcer.specs.Entries.{event_good}
use Rattle.enforcer.proofs.runs.events_good.Given as goal

abbrev pub invariant-loop-event : goal.invariant-loop-event
invariant-loop-event l =
    all_pass (event_good l.fn.layout.reading l.file) l.events ≡ all_pass (event_good l.fn.layout.reading l.file) (drop l.event-index l.events)
