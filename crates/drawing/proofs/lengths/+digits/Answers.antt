-- `drawing::lengths::digits` meets its contract: the last digit, and those before it if there are any.
use mathlib.Core.Path.{ap}
use native.Mathlib.Omega.{arith}
use lib.ListN.{length}
use Rattle.texts.specs.Decimal.{decimal_one, decimal_longer}
use Rattle.drawing.proofs.lengths.+digits.Goals as goal

pub returns-then-n-lt10 : goal.returns-then-n-lt10
returns-then-n-lt10 t c = (omega (arith, ap length (decimal_one c.args.n (omega arith))), omega arith)

pub returns : goal.returns
returns t c = (omega (arith, decimal_longer c.args.n (omega arith)), omega arith)
