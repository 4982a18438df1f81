-- The words, then the number.
use Rattle.std.proofs.Common.{arith}
use Rattle.texts.specs.WroteLaws.{wrote_then}
use Rattle.asks.specs.Words.{location}
use Rattle.asks.specs.Turns.{location_length}
use Rattle.asks.proofs.rule.put_location.Goals as goal

pub put_bytes-next-requires : goal.put_bytes-next-requires
put_bytes-next-requires c = omega (arith, c.requires, location_length c.args.number)

pub put_decimal-requires : goal.put_decimal-requires
put_decimal-requires c =
    omega (arith, c.requires, c.put_bytes-next.ensures.next, c.put_bytes-next.auto.text, location_length c.args.number)

pub returns : goal.returns
unfolding location
returns c =
    wrote_then (omega (arith, c.requires)) c.put_bytes-next.ensures c.put_decimal.ensures
