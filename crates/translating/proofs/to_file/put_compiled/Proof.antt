-- `translating::to_file::put_compiled` meets its contract: at most twenty digits.
use native.Mathlib.Omega.{arith}
use borrow.Author.Rules.{rules}
use Rattle.texts.specs.Decimal.{decimal_short}
use Rattle.translating.specs.ToFile.{compiled_line}
use Rattle.translating.proofs.to_file.put_compiled.Statement.{statement}
use Rattle.translating.proofs.to_file.put_compiled.Tie as tie

put-about-requires : tie.Need-put_about-requires
put-about-requires c κs = omega (arith, decimal_short c.args.bytes 19 (omega arith))

returns : tie.Need-returns
unfolding compiled_line
returns c = c.put_about.ensures

pub put_compiled_spec : {M : Type 1} → statement M
put_compiled_spec = tie.close (tie.spec put-about-requires (λ c. search rules) returns)
