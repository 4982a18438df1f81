-- At most three digits.
use Rattle.std.proofs.Common.{arith}
use Rattle.texts.specs.WroteLaws.{wrote_then}
use Rattle.printing.specs.Text.{refused_line}
use Rattle.texts.specs.Decimal.{decimal_short}
use Rattle.printing.proofs.put_refused.Goals as goal

pub put_labelled-end-requires : goal.put_labelled-end-requires
put_labelled-end-requires c = omega (arith, decimal_short c.args.n 2 (omega arith))

pub put_bytes-requires : goal.put_bytes-requires
put_bytes-requires c =
    let n = c.args.n in omega (arith, decimal_short n 2 (omega arith))

pub returns : goal.returns
unfolding refused_line
returns c =
    wrote_then (omega arith) c.put_labelled-end.ensures c.put_bytes.ensures
