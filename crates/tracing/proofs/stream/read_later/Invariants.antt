-- The lines before `next` are read, and their events are stored.
use Rattle.std.proofs.Common.{◌-◌, ◌≡◌, ◌≤◌, List, ℕ, length, drop}
use Rattle.std.proofs.lemmas.List.Edits.{sets}
use Rattle.tracing.specs.Reached.{ReadSoFar}
use Rattle.tracing.proofs.stream.read_later.Given as goal

abbrev pub invariant-loop-step : goal.invariant-loop-step
invariant-loop-step l = record {
  within : l.next ≤ length l.text;
  stored : (s : List ℕ) × ReadSoFar l.inputs l.outputs (drop l.at l.text) l.first (drop l.next l.text) l.count l.event s × (l.events ≡ sets l.fn.events 1 s);
}

abbrev pub decreases-loop-step : goal.decreases-loop-step
decreases-loop-step l = length l.text - l.next
