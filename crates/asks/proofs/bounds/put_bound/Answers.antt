-- By what the bounds are.
use Rattle.std.proofs.Common.{arith}
use Rattle.texts.specs.WroteLaws.{wrote_none, wrote_then}
use Rattle.asks.specs.Turns.{bound_to, bound_none, bound_on, to_length, on_length}
use Rattle.asks.proofs.bounds.put_bound.Goals as goal

pub put_clock-next-requires : goal.put_clock-next-requires
put_clock-next-requires c =
    let a = c.args in
    omega (arith, c.requires, to_length a.number a.low a.high c.if-high.true)

pub put_bytes-to-requires : goal.put_bytes-to-requires
put_bytes-to-requires c =
    let a = c.args in
    omega (arith, c.requires, c.put_clock-next.ensures.next, c.put_clock-next.auto.text, to_length a.number a.low a.high c.if-high.true)

pub put_decimal-requires : goal.put_decimal-requires
put_decimal-requires c =
    let a = c.args in
    omega (
      arith,
      c.requires,
      c.put_clock-next.ensures.next,
      c.put_clock-next.auto.text,
      c.put_bytes-to.ensures.next,
      c.put_bytes-to.auto.text,
      to_length a.number a.low a.high c.if-high.true,
    )

pub returns-then-high : goal.returns-then-high
returns-then-high c =
    let two = wrote_then (omega (arith, c.requires)) c.put_clock-next.ensures c.put_bytes-to.ensures in
    rw (bound_to c.args.number c.args.low c.args.high c.if-high.true) (wrote_then (omega (arith, c.requires)) two c.put_decimal.ensures)

pub returns-then-low-eq0 : goal.returns-then-low-eq0
returns-then-low-eq0 c =
    let a = c.args in
    rw (bound_none a.number a.low a.high c.if-high.false c.if-low-eq0.true) (wrote_none _ _)

pub put_clock-next-requires-2 : goal.put_clock-next-requires-2
put_clock-next-requires-2 c =
    let a = c.args in
    omega (arith, c.requires, on_length a.number a.low a.high c.if-high.false c.if-low-eq0.false)

pub put_bytes-requires : goal.put_bytes-requires
put_bytes-requires c =
    let a = c.args in
    omega (arith, c.requires, c.put_clock-next-2.ensures.next, c.put_clock-next-2.auto.text, on_length a.number a.low a.high c.if-high.false c.if-low-eq0.false)

pub returns : goal.returns
returns c =
    rw (bound_on c.args.number c.args.low c.args.high c.if-high.false c.if-low-eq0.false)
    (wrote_then (omega (arith, c.requires)) c.put_clock-next-2.ensures c.put_bytes.ensures)
