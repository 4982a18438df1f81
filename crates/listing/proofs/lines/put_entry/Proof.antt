-- `listing::lines::put_entry` meets its contract, kind by kind: at most five digits. No answer names the test of kind 2.
use native.Mathlib.Omega.{arith}
use borrow.Author.Rules.{rules}
use borrow.Author.Tests.{eq-eqb, ne_eqb}
use Rattle.texts.specs.Decimal.{decimal_short}
use Rattle.listing.specs.Listed.{entry_line}
use Rattle.listing.proofs.lines.put_entry.Statement.{statement}
use Rattle.listing.proofs.lines.put_entry.Tie as tie

put-about-requires : tie.Need-put_about-requires
put-about-requires c κs = omega (arith, c.requires, decimal_short c.args.number 4 c.requires.0)

returns : tie.Need-returns-then-kind-eq1
unfolding entry_line
returns c = rw (eq-eqb _ _ c.if-kind-eq1.true) c.put_about.ensures

put-about-requires-3 : tie.Need-put_about-requires-2
put-about-requires-3 c κs = omega (arith, c.requires, decimal_short c.args.number 4 c.requires.0)

returns-3 : tie.Need-returns
unfolding entry_line
returns-3 c =
    rw (ne_eqb _ _ c.if-kind-eq1.false, ne_eqb c.args.kind 2 (omega arith)) c.put_about-2.ensures

pub put_entry_spec : {M : Type 1} → statement M
unfolding entry_line
put_entry_spec = tie.close (tie.spec put-about-requires (λ c. search rules) returns
    (λ c κs. omega (arith, c.requires, decimal_short c.args.number 4 c.requires.0)) (λ c. search rules)
    (λ c. rw (ne_eqb _ _ c.if-kind-eq1.false, eq-eqb c.args.kind 2 (omega arith)) (search rules)) put-about-requires-3 (λ c. search rules) returns-3)
