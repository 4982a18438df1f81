-- The line of the first refusal, or the lines of the run.
use Rattle.std.proofs.Common.{◌≤◌, List, ℕ, length, sym, refl, subst, ◌∙◌, arith, zero-le}
use Rattle.frames.specs.Framed.{events_few}
use Rattle.texts.specs.WroteLaws.{wrote_then}
use Rattle.printing.specs.Reply.{replied}
use Rattle.console.specs.OutcomeLaws.{printed_refused, printed_lines}
use Rattle.console.proofs.reply.reply.Goals as goal

pub returns-in-Err : goal.returns-in-Err
returns-in-Err c =
    rw (printed_refused c.args.input.now c.in-Err.ensures.said) (replied (rw c.from.ensures at c.put_refused.ensures) c.put_refused.auto.text)

pub events_in-requires : goal.events_in-requires
events_in-requires c = (c.in-Ok.ensures.enforces _ refl).passes.events

pub put_ticks-requires : goal.put_ticks-requires
put_ticks-requires c =
    let e = c.in-Ok.ensures.enforces _ refl in
    let n = subst (λ (events : List ℕ). length events ≤ 16384) (sym c.events_in.ensures) (events_few c.args.input.now e.passes.events) in (
      n,
      omega (arith, n, c.outcome.auto.released, c.requires),
      omega (arith, n, c.put_verdict-next.auto.text, c.put_verdict-next.ensures.1, c.requires),
    )

pub returns-in-Ok : goal.returns-in-Ok
returns-in-Ok c =
    rw (printed_lines c.args.input.now (c.in-Ok.ensures.enforces _ refl), ← c.events_in.ensures)
    (replied (wrote_then zero-le c.put_verdict-next.ensures.0 c.put_ticks.ensures) (c.put_ticks.auto.text ∙ c.put_verdict-next.auto.text))
