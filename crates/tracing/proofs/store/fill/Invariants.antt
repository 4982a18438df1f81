-- The event is stored up to this time.
use Rattle.std.proofs.Common.{◌-◌, ◌≡◌, replicate}
use Rattle.std.proofs.lemmas.List.Edits.{sets}
use Rattle.tracing.proofs.store.fill.Given as goal

abbrev pub invariant-loop-time : goal.invariant-loop-time
invariant-loop-time l = l.events ≡ sets l.fn.events l.from (replicate (l.time - l.from) l.event)
