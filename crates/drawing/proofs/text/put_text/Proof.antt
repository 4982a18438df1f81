-- `drawing::text::put_text` meets its contract: the opening, the values at time 0, the later lines.
use native.Mathlib.Omega.{arith}
use lib.ListN.{get_or}
use Rattle.texts.specs.WroteLaws.{wrote_then}
use Rattle.drawing.specs.Lengths.{event_same, text_long, text_parts, text_empty, text_least}
use borrow.Author.Rules.{rules}
use Rattle.drawing.proofs.text.put_text.Statement.{statement}
use Rattle.drawing.proofs.text.put_text.Tie as tie

put-opening-requires : tie.Need-put_opening-next-requires
put-opening-requires c κs = omega (arith, text_least c.args.inputs.now c.args.outputs.now c.args.events.now)

returns : tie.Need-returns-then-events-eq0
returns c =
    rw (text_empty c.args.inputs.now c.args.outputs.now c.args.events.now c.if-events-eq0.true) c.put_opening-next.ensures

put-event-requires : tie.Need-put_event-later-requires
put-event-requires c κs =
    let a = c.args in
    omega (
      arith,
      text_long a.inputs.now a.outputs.now a.events.now (omega arith),
      event_same a.inputs.now a.outputs.now 255 (get_or a.events.now 0 0),
    )

put-later-requires : tie.Need-put_later-requires
put-later-requires c κs =
    let a = c.args in (
      omega (
        arith,
        text_long a.inputs.now a.outputs.now a.events.now (omega arith),
        event_same a.inputs.now a.outputs.now 255 (get_or a.events.now 0 0),
      ),
      omega arith,
    )

returns-2 : tie.Need-returns
returns-2 c =
    let l = text_least c.args.inputs.now c.args.outputs.now c.args.events.now in
    rw (text_parts c.args.inputs.now c.args.outputs.now c.args.events.now (omega arith))
    (wrote_then (omega arith) (wrote_then (omega arith) c.put_opening-next.ensures c.put_event-later.ensures) c.put_later.ensures)

pub put_text_spec : {M : Type 1} → statement M
put_text_spec = tie.close (tie.spec put-opening-requires (λ c. search rules) returns (λ c. search rules) put-event-requires put-later-requires (λ c. search rules) returns-2)
