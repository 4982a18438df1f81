-- `enforcer::runs::events_good` meets its contract: an event that is not good decides, and none is left at the end.
use Rattle.std.proofs.Common.{sym, ◌∙◌, lt-ltb, le-ltb}
use Rattle.policy.proofs.Laws.{all_turn, all_end}
use Rattle.enforcer.proofs.runs.events_good.Goals as goal
use Rattle.enforcer.proofs.runs.events_good.Goals.{then-inputs-event-via-then-inputs-event, then-inputs-event-via-else-inputs-event+then-outputs-event}

pub returns-then-inputs-event : goal.returns-then-inputs-event
returns-then-inputs-event c =
    let turn = c.loop-event.invariant ∙ all_turn _ _ _ c.loop-event-test.true in
    elim c.then-inputs-event.branch [
      | then-inputs-event-via-then-inputs-event w ↦
          sym (turn ∙ rw (le-ltb _ _ (rw c.inputs_of-inputs.ensures.0 at w.if-inputs-event.true)))
      | then-inputs-event-via-else-inputs-event+then-outputs-event w ↦
          sym (turn ∙ rw (lt-ltb _ _ (rw c.inputs_of-inputs.ensures.0 at w.if-inputs-event.false), le-ltb _ _ (rw c.outputs_of-outputs.ensures.0 at w.if-outputs-event.true)))
    ]

pub loop-event-preserved : goal.loop-event-preserved
loop-event-preserved c =
    c.loop-event.invariant
    ∙ all_turn _ _ _ c.loop-event-test.true
    ∙ rw (lt-ltb _ _ (rw c.inputs_of-inputs.ensures.0 at c.if-inputs-event.false), lt-ltb _ _ (rw c.outputs_of-outputs.ensures.0 at c.if-outputs-event.false))

pub returns : goal.returns
returns c = sym (c.loop-event.invariant ∙ all_end _ _ _ c.loop-event-test.false)
