-- `telling::tell::tell` meets its contract: each turn tells one event more.
use Rattle.std.proofs.Common.{arith}
use Rattle.std.proofs.Math.Bool.{and-eq-true_iff}
use borrow.Author.Tests.{ltb-true}
use Rattle.policy.specs.Checked.{all_at}
use Rattle.telling.specs.Told.{telling_starts, telling_turn, telling_ends}
use Rattle.telling.proofs.tell.tell.Goals as goal

pub loop-event-init : goal.loop-event-init
loop-event-init c = rw c.start-start.ensures (telling_starts _ _ _ c.requires.asked.0)

pub tell_tick-this-requires-clause-event_bound : goal.tell_tick-this-requires-clause-event_bound
tell_tick-this-requires-clause-event_bound c =
    let l = c.loop-event in
    let g = (and-eq-true_iff _ _).0 (all_at _ _ c.requires.events_len_bound.1 l.event-index c.loop-event-test.true) in
    (ltb-true _ _ g.0, ltb-true _ _ g.1)

pub loop-event-preserved : goal.loop-event-preserved
loop-event-preserved c =
    let t = c.tell_tick-this in
    telling_turn c.loop-event.invariant c.loop-event-test.true (omega (arith, c.requires.events_len_bound.2)) t.auto.text t.ensures

pub returns : goal.returns
returns c = telling_ends c.loop-event.invariant c.loop-event-test.false
