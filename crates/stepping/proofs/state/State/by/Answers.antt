-- What the rule says stands in its bytes.
use Rattle.std.proofs.Common.{sym, ap, ◌∙◌, arith}
use Rattle.std.proofs.Math.Option.{bind}
use borrow.Author.Tests.{ne_eqb}
use Rattle.policy.specs.Rules.{taken}
use Rattle.policy.specs.File.{rule_from}
use Rattle.stepping.specs.Code.{step_from}
use Rattle.stepping.specs.Laid.{laid_limits, laid_ceilings, laid_four}
use Rattle.stepping.specs.Led.{advance_four}
use Rattle.stepping.proofs.DecidedLaws.{taken_violation}
use Rattle.stepping.proofs.state.State.by.Goals as goal

pub returns-in_err-at : goal.returns-in_err-at
unfolding bind
returns-in_err-at c = rw (c.from_residual.ensures, c.in_err-at.was)

pub returns-then-target-eq-VIOLATION : goal.returns-then-target-eq-VIOLATION
unfolding bind rule_from
returns-then-target-eq-VIOLATION c =
    rw c.in_ok-at.was (sym (ap step_from (taken_violation _ _ _ (sym c.byte_within-target.ensures.0 ∙ c.if-target-eq-VIOLATION.true))))

pub returns : goal.returns
unfolding bind taken rule_from
returns c =
    let a = c.args in
    let up = advance_four a.layout.ceilings a.self.clocks a.layout.clocks c.byte_within.result (omega (arith, laid_limits c.requires.0)) (omega arith) (omega arith) (laid_four c.requires.0) in
    rw (c.in_ok-at.was, ← laid_ceilings c.requires.0)
    (simp (
      ← c.byte_within-target.ensures.0,
      ne_eqb _ _ c.if-target-eq-VIOLATION.false,
      ← c.byte_within.ensures.0,
      ← (c.advanced.ensures ∙ up),
    ))
