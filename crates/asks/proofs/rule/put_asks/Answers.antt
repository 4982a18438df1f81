-- The location, the signals, the clocks.
use Rattle.std.proofs.Common.{arith}
use Rattle.texts.specs.WroteLaws.{wrote_then}
use Rattle.asks.specs.Turns.{asks_parts, asks_length}
use Rattle.asks.proofs.rule.put_asks.Goals as goal

pub put_location-next-requires : goal.put_location-next-requires
put_location-next-requires c =
    let a = c.args in
    omega (arith, c.requires.rule_in_bounds, asks_length a.inputs.now a.outputs.now a.rule.now a.clocks c.byte_within.ensures.0)

pub put_cared-more-requires-clause-rule_in_bounds : goal.put_cared-more-requires-clause-rule_in_bounds
put_cared-more-requires-clause-rule_in_bounds c =
    let a = c.args in
    omega (
      arith,
      c.requires.rule_in_bounds,
      asks_length a.inputs.now a.outputs.now a.rule.now a.clocks c.byte_within.ensures.0,
      c.put_location-next.ensures.next,
      c.put_location-next.auto.text,
    )

pub put_bounds-requires : goal.put_bounds-requires
put_bounds-requires c =
    let a = c.args in (
      c.requires.clocks_bound.0,
      c.requires.clocks_bound.1,
      omega (
        arith,
        c.requires.rule_in_bounds,
        asks_length a.inputs.now a.outputs.now a.rule.now a.clocks c.byte_within.ensures.0,
        c.put_location-next.ensures.next,
        c.put_location-next.auto.text,
        c.put_cared-more.ensures.next,
        c.put_cared-more.auto.text,
      ),
    )

pub returns : goal.returns
returns c =
    let a = c.args in
    let room = c.requires.rule_in_bounds in
    let two = wrote_then (omega (arith, room)) c.put_location-next.ensures c.put_cared-more.ensures in
    rw (asks_parts a.inputs.now a.outputs.now a.rule.now a.clocks c.byte_within.ensures.0) (wrote_then (omega (arith, room)) two c.put_bounds.ensures)
