-- The line of a refusal, or the file of what is released.
use Rattle.std.proofs.Common.{◌≤◌, List, ℕ, length, sym, refl, subst, arith, length-take-le}
use Rattle.frames.specs.Framed.{events_few}
use Rattle.printing.specs.Reply.{replied}
use Rattle.viewer.specs.Ways.{shown_refused, shown_file}
use Rattle.viewer.proofs.view.Goals as goal

pub returns-in-Err : goal.returns-in-Err
returns-in-Err c =
    rw (shown_refused c.args.reading c.args.input.now c.in-Err.ensures.said) (replied (rw c.from.ensures at c.put_refused.ensures) c.put_refused.auto.text)

pub events_in-events-requires : goal.events_in-events-requires
events_in-events-requires c = (c.in-Ok.ensures.enforces _ refl).passes.events

pub policy_in-requires : goal.policy_in-requires
policy_in-requires c = (c.in-Ok.ensures.enforces _ refl).passes.policy

pub slice_bounds-write_file-end : goal.slice_bounds-write_file-end
slice_bounds-write_file-end c =
    let few = subst (λ (events : List ℕ). length events ≤ 16384) (sym c.events_in-events.ensures) (events_few c.args.input.now (c.in-Ok.ensures.enforces _ refl).passes.events) in
    omega (arith, few, c.outcome.auto.released, c.requires)

pub slice_bounds-write_file-end-in-Ok : goal.slice_bounds-write_file-end-in-Ok
slice_bounds-write_file-end-in-Ok c =
    let few = subst (λ (events : List ℕ). length events ≤ 16384) (sym c.events_in-events.ensures) (events_few c.args.input.now (c.in-Ok.ensures.enforces _ refl).passes.events) in
    sym (length-take-le _ _ (omega (arith, few, c.outcome.auto.released, c.requires)))

pub returns-in-Ok : goal.returns-in-Ok
returns-in-Ok c =
    rw (shown_file (c.in-Ok.ensures.enforces _ refl) c.policy_in.ensures c.events_in-events.ensures) c.write_file.ensures
