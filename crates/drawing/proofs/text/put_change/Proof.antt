-- `drawing::text::put_change` meets its contract.
use native.Mathlib.Omega.{arith}
use borrow.Author.Tests.{eq-eqb, ne_eqb}
use Rattle.texts.specs.WroteLaws.{wrote_none, wrote_then}
use Rattle.drawing.specs.Lengths.{change_long}
use borrow.Author.Rules.{rules}
use Rattle.drawing.proofs.text.put_change.Statement.{statement}
use Rattle.drawing.proofs.text.put_change.Tie as tie

returns : tie.Need-returns-then-shown-eq0
returns c = rw (eq-eqb _ 0 c.if-shown-eq0.true) (wrote_none _ _)

put-time-requires : tie.Need-put_time-next-requires
put-time-requires c κs =
    let a = c.args in
    omega (arith, change_long a.inputs.now a.outputs.now a.time a.shown a.event c.if-shown-eq0.false)

put-event-requires : tie.Need-put_event-requires
put-event-requires c κs =
    let a = c.args in
    omega (arith, change_long a.inputs.now a.outputs.now a.time a.shown a.event c.if-shown-eq0.false)

returns-2 : tie.Need-returns
returns-2 c =
    let a = c.args in
    let l = change_long a.inputs.now a.outputs.now a.time a.shown a.event c.if-shown-eq0.false in
    rw (ne_eqb _ 0 c.if-shown-eq0.false) (wrote_then (omega arith) c.put_time-next.ensures c.put_event.ensures)

pub put_change_spec : {M : Type 1} → statement M
put_change_spec = tie.close (tie.spec returns put-time-requires put-event-requires (λ c. search rules) returns-2)
