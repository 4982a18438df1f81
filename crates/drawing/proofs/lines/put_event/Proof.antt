-- `drawing::lines::put_event` meets its contract.
use native.Mathlib.Omega.{arith}
use Rattle.texts.specs.WroteLaws.{wrote_then}
use Rattle.drawing.specs.Wave.{event_lines}
use Rattle.drawing.specs.Under.{event_length}
use borrow.Author.Rules.{rules}
use Rattle.drawing.proofs.lines.put_event.Statement.{statement}
use Rattle.drawing.proofs.lines.put_event.Tie as tie

-- Earlier places in the code.
abbrev start : tie.After-put_values-next → tie.Start
start c = c.before.before.before.before.before

put-values-requires : tie.Need-put_values-next-requires
put-values-requires c κs =
    let a = c.args in omega (arith, event_length a.inputs.now a.outputs.now a.shown a.event)

put-values-requires-2 : tie.Need-put_values-requires
put-values-requires-2 c κs =
    let a = (start c.before.before.before).args in
    omega (arith, event_length a.inputs.now a.outputs.now a.shown a.event, c.put_values-next.ensures.next, c.put_values-next.auto.text)

returns : tie.Need-returns
unfolding event_lines
returns c =
    let a = (start c.before.before.before.before.before.before).args in
    let l = event_length a.inputs.now a.outputs.now a.shown a.event in
    wrote_then (omega arith) c.put_values-next.ensures c.put_values.ensures

pub put_event_spec : {M : Type 1} → statement M
put_event_spec = tie.close (tie.spec put-values-requires put-values-requires-2 (λ c. search rules) returns)
