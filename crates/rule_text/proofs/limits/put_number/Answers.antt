-- A number below 65,536 has at most five digits.
use Rattle.std.proofs.Common.{arith}
use Rattle.texts.specs.WroteLaws.{wrote_then}
use Rattle.texts.specs.Decimal.{decimal_short}
use Rattle.rule_text.proofs.limits.put_number.Goals as goal

pub put_digits-next-requires : goal.put_digits-next-requires
put_digits-next-requires c = omega (arith, decimal_short c.args.n 4 (omega arith))

pub put_bytes-requires : goal.put_bytes-requires
put_bytes-requires c = omega (arith, c.put_digits-next.ensures.next, decimal_short c.args.n 4 (omega arith))

pub returns : goal.returns
returns c =
    let a = c.args in
    let p = c.put_digits-next in
    let q = c.put_bytes in
    (wrote_then (omega arith) p.ensures q.ensures, omega (arith, p.ensures.next, q.ensures.next, decimal_short a.n 4 (omega arith)))
