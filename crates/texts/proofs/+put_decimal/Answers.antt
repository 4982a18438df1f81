-- `texts::put_decimal` meets its contract: the digits before the last, then the last.
use Rattle.std.proofs.Common.{arith, ap, length}
use Rattle.texts.specs.Decimal.{decimal_one, decimal_more, decimal_longer}
use Rattle.texts.specs.WroteLaws.{wrote_then}
use Rattle.texts.proofs.+put_decimal.Goals as goal

pub put_digit-requires : goal.put_digit-requires
put_digit-requires t c = omega (arith, ap length (decimal_one c.args.n c.if-n-lt10.true))

pub returns-then-n-lt10 : goal.returns-then-n-lt10
returns-then-n-lt10 t c = rw (decimal_one c.args.n c.if-n-lt10.true) c.put_digit.ensures

pub put_decimal-last-requires : goal.put_decimal-last-requires
put_decimal-last-requires t c =
    (omega arith, omega (arith, decimal_longer c.args.n c.if-n-lt10.false))

pub put_digit-requires-2 : goal.put_digit-requires-2
put_digit-requires-2 t c =
    omega (arith, decimal_longer c.args.n c.if-n-lt10.false, c.put_decimal-last.ensures.next, c.put_decimal-last.auto.text)

pub returns : goal.returns
returns t c =
    rw (decimal_more c.args.n c.if-n-lt10.false)
    (wrote_then (omega arith) c.put_decimal-last.ensures c.put_digit-2.ensures)
