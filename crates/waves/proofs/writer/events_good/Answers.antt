use Rattle.std.proofs.Common.{◌/◌, ◌%◌, ◌^◌, sym, ◌∙◌, get_or, lt-ltb, le-ltb}
use Rattle.policy.proofs.Laws.{all_turn, all_end}
use Rattle.waves.specs.BySignals.{past_ones, within_ones}
use Rattle.waves.proofs.writer.events_good.Goals as goal
use Rattle.waves.proofs.writer.events_good.Goals.{then-x_last-event-via-then-x_last-event, then-x_last-event-via-else-x_last-event+then-y_last-event}

pub returns-then-x_last-event : goal.returns-then-x_last-event
returns-then-x_last-event c =
    let a = c.args in
    let e = get_or a.events.now c.loop-event.event-index 0 in
    let t = c.loop-event.invariant ∙ all_turn _ _ _ c.loop-event-test.true in
    let x = c.ones-x_last.ensures.0 in
    let y = c.ones-y_last.ensures.0 in
    elim c.then-x_last-event.branch [
      | then-x_last-event-via-then-x_last-event w ↦
          rw (t, le-ltb (e % 16) (2 ^ a.inputs) (past_ones a.inputs (e % 16) _ x w.if-x_last-event.true))
      | then-x_last-event-via-else-x_last-event+then-y_last-event w ↦
          rw (
            t,
            lt-ltb (e % 16) (2 ^ a.inputs) (within_ones a.inputs (e % 16) _ x w.if-x_last-event.false),
            le-ltb (e / 16) (2 ^ a.outputs) (past_ones a.outputs (e / 16) _ y w.if-y_last-event.true),
          )
    ]

pub loop-event-preserved : goal.loop-event-preserved
loop-event-preserved c =
    let a = c.args in
    let e = get_or a.events.now c.loop-event.event-index 0 in
    let t = c.loop-event.invariant ∙ all_turn _ _ _ c.loop-event-test.true in
    let x = c.ones-x_last.ensures.0 in
    let y = c.ones-y_last.ensures.0 in
    t ∙ rw (
      lt-ltb (e % 16) (2 ^ a.inputs) (within_ones a.inputs (e % 16) _ x c.if-x_last-event.false),
      lt-ltb (e / 16) (2 ^ a.outputs) (within_ones a.outputs (e / 16) _ y c.if-y_last-event.false),
    )

pub returns : goal.returns
returns c = sym (c.loop-event.invariant ∙ all_end _ _ _ c.loop-event-test.false)
