use Rattle.std.proofs.Common.{sym, refl, ◌∙◌, [], drop, arith}
use Rattle.tracing.specs.Reached.{reached_start, reached_bad, reached_closes, reached_changes}
use Rattle.tracing.specs.Found.{stored_closes, stored_changes}
use Rattle.tracing.proofs.stream.read_later.Goals as goal

pub loop-step-init : goal.loop-step-init
loop-step-init c = record {
  within = c.requires.at_in_bounds;
  stored = ([], reached_start c.args.inputs.now c.args.outputs.now _ _ c.requires.signals_good.1, refl);
}

pub returns-in_err-step : goal.returns-in_err-step
returns-in_err-step c =
    rw c.from_residual.ensures (reached_bad _ _ c.requires.signals_good.0 c.loop-step.invariant.stored.1 (sym c.in_err-step.ensures.said))

pub fill-requires : goal.fill-requires
fill-requires c =
    let n = rw c.in-Closes.is at c.in_ok-step.ensures in
    (reached_closes _ _ c.requires.signals_good.0 c.loop-step.invariant.stored.1 c.in-Closes.time (sym n.said)).from

pub returns-in-Closes : goal.returns-in-Closes
returns-in-Closes c =
    let l = c.loop-step in
    let n = rw c.in-Closes.is at c.in_ok-step.ensures in
    stored_closes _ _ c.requires.signals_good.0 l.invariant.stored.1 c.in-Closes.time c.args.events.now l.events c.fill.new.events (sym n.said)
    l.invariant.stored.2 c.fill.ensures

pub fill-requires-in-Changes : goal.fill-requires-in-Changes
fill-requires-in-Changes c =
    let n = rw c.in-Changes.is at c.in_ok-step.ensures in
    (reached_changes _ _ c.requires.signals_good.0 c.loop-step.invariant.stored.1 c.in-Changes.time _ _ (sym n.said)).1

pub overflow_add-count : goal.overflow_add-count
overflow_add-count c =
    let n = rw c.in-Changes.is at c.in_ok-step.ensures in
    let k = reached_changes _ _ c.requires.signals_good.0 c.loop-step.invariant.stored.1 c.in-Changes.time c.in-Changes.changed _ (sym n.said) in
    omega (arith, k.2)

pub loop-step-smaller : goal.loop-step-smaller
loop-step-smaller c =
    let n = rw c.in-Changes.is at c.in_ok-step.ensures in
    omega (arith, n.between.after, n.between.within)

pub loop-step-preserved : goal.loop-step-preserved
loop-step-preserved c =
    let l = c.loop-step in
    let v = c.in-Changes in
    let g = c.requires.signals_good.0 in
    let n = rw v.is at c.in_ok-step.ensures in
    let k = reached_changes _ _ g l.invariant.stored.1 v.time v.changed (drop v.after c.args.text.now) (sym n.said) in
    record {
      within = n.between.within;
      stored = (
        _,
        k.0,
        c.put.ensures
            ∙ stored_changes _ _ g l.invariant.stored.1 v.time v.changed c.args.events.now l.events c.fill-in-Changes.new.events k.1 l.invariant.stored.2 c.fill-in-Changes.ensures,
      );
    }
