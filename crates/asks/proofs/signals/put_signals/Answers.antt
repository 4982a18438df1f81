-- Nothing, or the comma, the names and the word.
use Rattle.std.proofs.Common.{arith}
use Rattle.texts.specs.WroteLaws.{wrote_none, wrote_then}
use Rattle.asks.specs.Turns.{signals_none, signals_some, signals_length}
use Rattle.asks.proofs.signals.put_signals.Goals as goal

pub returns-then-x-y-eq0 : goal.returns-then-x-y-eq0
returns-then-x-y-eq0 c =
    let a = c.args in
    rw (signals_none a.inputs.now a.outputs.now a.x a.y a.word.now c.if-x-y-eq0.true) (wrote_none _ _)

pub put_bytes-first-requires : goal.put_bytes-first-requires
put_bytes-first-requires c = omega (arith, c.requires, signals_length c.args.inputs.now c.args.outputs.now c.args.x c.args.y c.args.word.now c.if-x-y-eq0.false)

pub put_names-more-requires : goal.put_names-more-requires
put_names-more-requires c =
    omega (arith, c.requires, signals_length c.args.inputs.now c.args.outputs.now c.args.x c.args.y c.args.word.now c.if-x-y-eq0.false, c.put_bytes-first.ensures.next, c.put_bytes-first.auto.text)

pub put_names-end-requires : goal.put_names-end-requires
put_names-end-requires c =
    omega (arith, c.requires, signals_length c.args.inputs.now c.args.outputs.now c.args.x c.args.y c.args.word.now c.if-x-y-eq0.false, c.put_bytes-first.ensures.next, c.put_bytes-first.auto.text, c.put_names-more.ensures.next, c.put_names-more.auto.text)

pub put_bytes-requires : goal.put_bytes-requires
put_bytes-requires c =
    omega (
      arith,
      c.requires,
      signals_length c.args.inputs.now c.args.outputs.now c.args.x c.args.y c.args.word.now c.if-x-y-eq0.false,
      c.put_bytes-first.ensures.next,
      c.put_bytes-first.auto.text,
      c.put_names-more.ensures.next,
      c.put_names-more.auto.text,
      c.put_names-end.ensures.next,
      c.put_names-end.auto.text,
    )

pub returns : goal.returns
returns c =
    let a = c.args in
    let two = wrote_then (omega (arith, c.requires)) c.put_bytes-first.ensures c.put_names-more.ensures in
    let three = wrote_then (omega (arith, c.requires)) two c.put_names-end.ensures in
    rw (signals_some a.inputs.now a.outputs.now a.x a.y a.word.now c.if-x-y-eq0.false) (wrote_then (omega (arith, c.requires)) three c.put_bytes.ensures)
