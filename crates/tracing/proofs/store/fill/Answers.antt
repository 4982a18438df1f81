use Rattle.std.proofs.Common.{List, ℕ, ap, sym, ◌∙◌, set}
use Rattle.tracing.specs.Next.{fill_more}
use Rattle.tracing.proofs.store.fill.Goals as goal

pub loop-time-preserved : goal.loop-time-preserved
loop-time-preserved c =
    let l = c.loop-time in
    c.put.ensures ∙ ap (λ (z : List ℕ). set z l.time c.args.event) l.invariant ∙ sym (fill_more c.args.events.now c.args.from l.time c.args.event l.auto.time)
