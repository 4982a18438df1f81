-- `listing::lines::put_left` meets its contract: at most twenty digits.
use native.Mathlib.Omega.{arith}
use borrow.Author.Rules.{rules}
use Rattle.texts.specs.Decimal.{decimal_short}
use Rattle.listing.specs.Listed.{left_line}
use Rattle.listing.proofs.lines.put_left.Statement.{statement}
use Rattle.listing.proofs.lines.put_left.Tie as tie

put-about-requires : tie.Need-put_about-requires
put-about-requires c κs = omega (arith, decimal_short c.args.n 19 (omega arith))

returns : tie.Need-returns
unfolding left_line
returns c = c.put_about.ensures

pub put_left_spec : {M : Type 1} → statement M
put_left_spec = tie.close (tie.spec put-about-requires (λ c. search rules) returns)
