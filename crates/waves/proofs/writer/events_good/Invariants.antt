-- The events are good exactly if those that are left are.
use Rattle.std.proofs.Common.{◌≡◌, drop}
use Rattle.policy.specs.Check.{all_pass}
use Rattle.waves.specs.BySignals.{good_for}
use Rattle.waves.proofs.writer.events_good.Given as goal

abbrev pub invariant-loop-event : goal.invariant-loop-event
invariant-loop-event l = all_pass (good_for l.inputs l.outputs) l.events ≡ all_pass (good_for l.inputs l.outputs) (drop l.event-index l.events)
