-- One digit is the number itself, and two are its tens and what is left of it.
use Rattle.std.proofs.Common.{◌≡◌, ◌/◌, ◌%◌, ap, arith, length}
use Rattle.texts.specs.Decimal.{decimal_one, decimal_two}
use Rattle.rule_text.proofs.limits.put_digits.Goals as goal

pub put_bytes-requires : goal.put_bytes-requires
put_bytes-requires c = omega (arith, ap length (decimal_one c.args.n (omega arith)))

pub returns-then-n-lt10 : goal.returns-then-n-lt10
returns-then-n-lt10 c =
    let n = c.args.n in
    let same : n % 10 ≡ n = omega arith in
    rw (decimal_one n (omega arith), same) c.put_bytes.ensures

pub put_bytes-requires-then-n-lt100 : goal.put_bytes-requires-then-n-lt100
put_bytes-requires-then-n-lt100 c = omega (arith, ap length (decimal_two c.args.n (omega arith) (omega arith)))

pub returns-then-n-lt100 : goal.returns-then-n-lt100
returns-then-n-lt100 c =
    let n = c.args.n in
    let same : n / 10 % 10 ≡ n / 10 = omega arith in
    rw (decimal_two n (omega arith) (omega arith), same) c.put_bytes-then-n-lt100.ensures
