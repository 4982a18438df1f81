-- `sentences::lines::put_rests` meets its contract: none, or some.
use mathlib.Core.Path.{ap}
use native.Mathlib.Omega.{arith}
use lib.ListN.{length}
use borrow.Author.Rules.{rules}
use Rattle.sentences.specs.Text.{rests_none, rests_some}
use Rattle.sentences.proofs.lines.put_rests.Statement.{statement}
use Rattle.sentences.proofs.lines.put_rests.Tie as tie

put-plain-requires : tie.Need-put_plain-requires
put-plain-requires c κs =
    omega (arith, ap length (rests_none c.args.k c.if-k-eq0.true))

returns : tie.Need-returns-then-k-eq0
returns c =
    rw (rests_none c.args.k c.if-k-eq0.true) c.put_plain.ensures

put-most-requires : tie.Need-put_most-requires
put-most-requires c κs =
    omega (arith, ap length (rests_some c.args.k c.if-k-eq0.false))

returns-2 : tie.Need-returns
returns-2 c =
    rw (rests_some c.args.k c.if-k-eq0.false) c.put_most.ensures

pub put_rests_spec : {M : Type 1} → statement M
put_rests_spec = tie.close (tie.spec put-plain-requires (λ c. search rules) returns put-most-requires (λ c. search rules) returns-2)
