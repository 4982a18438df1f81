-- Its number, then its low.
use Rattle.std.proofs.Common.{arith}
use Rattle.texts.specs.Text.{ascii, decimal}
use Rattle.texts.specs.WroteLaws.{wrote_then}
use Rattle.asks.specs.Turns.{three_length, clock_length}
use Rattle.asks.proofs.bounds.put_clock.Goals as goal

pub put_about-next-requires : goal.put_about-next-requires
put_about-next-requires c = omega (arith, c.requires, clock_length c.args.number c.args.low)

pub put_decimal-requires : goal.put_decimal-requires
put_decimal-requires c =
    omega (
      arith,
      c.requires,
      c.put_about-next.ensures.next,
      c.put_about-next.auto.text,
      three_length (ascii ", clock ") (decimal c.args.number) (ascii " from "),
      clock_length c.args.number c.args.low,
    )

pub returns : goal.returns
returns c =
    wrote_then (omega (arith, c.requires)) c.put_about-next.ensures c.put_decimal.ensures
