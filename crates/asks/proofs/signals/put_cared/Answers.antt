-- Those that must be on, then those that must be off.
use Rattle.std.proofs.Common.{arith}
use Rattle.texts.specs.WroteLaws.{wrote_then}
use Rattle.asks.specs.Turns.{cared_parts, cared_length}
use Rattle.asks.proofs.signals.put_cared.Goals as goal

pub put_signals-off-requires : goal.put_signals-off-requires
put_signals-off-requires c =
    let a = c.args in
    let long = cared_length a.inputs.now a.outputs.now a.rule.now c.byte_within-x_on.ensures.0 c.byte_within-y_on.ensures.0 c.byte_within.ensures.0 c.byte_within-2.ensures.0 in
    (c.byte_within-x_on.ensures.1, c.byte_within-y_on.ensures.1, omega (arith, long, c.requires.rule_in_bounds))

pub put_signals-requires : goal.put_signals-requires
put_signals-requires c =
    let a = c.args in
    let long = cared_length a.inputs.now a.outputs.now a.rule.now c.byte_within-x_on.ensures.0 c.byte_within-y_on.ensures.0 c.byte_within.ensures.0 c.byte_within-2.ensures.0 in (
      omega (arith, c.byte_within.ensures.1),
      omega (arith, c.byte_within-2.ensures.1),
      omega (arith, long, c.requires.rule_in_bounds, c.put_signals-off.ensures.next, c.put_signals-off.auto.text),
    )

pub returns : goal.returns
returns c =
    let a = c.args in
    rw (cared_parts a.inputs.now a.outputs.now a.rule.now c.byte_within-x_on.ensures.0 c.byte_within-y_on.ensures.0 c.byte_within.ensures.0 c.byte_within-2.ensures.0)
    (wrote_then (omega (arith, c.requires.rule_in_bounds)) c.put_signals-off.ensures c.put_signals.ensures)
