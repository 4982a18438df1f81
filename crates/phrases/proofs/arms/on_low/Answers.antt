-- By whether there is a number.
use Rattle.std.proofs.Common.{ap, ◌∙◌}
use Rattle.streams.specs.Answer.{refused, gives}
use Rattle.refusals.specs.Refused.{number_of}
use Rattle.conditions.specs.Steps.{begun_of, parse_handed}
use Rattle.phrases.specs.Arms.{low_read}
use Rattle.phrases.proofs.arms.on_low.Goals as goal

pub returns-in_err-number-clause-said : goal.returns-in_err-number-clause-said
returns-in_err-number-clause-said c =
    let a = c.args in
    λ n d. parse_handed n _ _ c.from_residual.ensures.1 ∙ low_read d (begun_of n a.parsed) a.word.now a.k (refused (number_of c.in_err-number.field-0.0)) c.in_err-number.ensures

pub returns-clause-said : goal.returns-clause-said
returns-clause-said c =
    let a = c.args in
    λ n d. ap gives (c.on_at_least.ensures.0 n) ∙ low_read d (begun_of n a.parsed) a.word.now a.k (gives c.in_ok-number.number) c.in_ok-number.ensures
