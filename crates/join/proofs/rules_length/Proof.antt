-- `join::rules_length` meets its contract: nothing is laid into the part with no bytes.
use native.Mathlib.Omega.{arith}
use borrow.Author.Rules.{rules}
use Rattle.laying.specs.Laying.{laid_nowhere}
use Rattle.join.proofs.rules_length.Statement.{statement}
use Rattle.join.proofs.rules_length.Tie as tie

returns : tie.Need-returns
returns c =
    let e = c.lay_joined.ensures in (omega (arith, e.0.ends), e.1, rw (laid_nowhere e.0))

pub rules_length_spec : {M : Type 1} → statement M
rules_length_spec = tie.close (tie.spec (λ c. search rules) (λ c. search rules) (λ c κs. search rules) (λ c. search rules) returns)
