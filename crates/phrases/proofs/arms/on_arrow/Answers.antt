use Rattle.std.proofs.Common.{ap, ◌∙◌}
use Rattle.streams.specs.Answer.{gives}
use Rattle.conditions.specs.Steps.{begun_of}
use Rattle.phrases.specs.Arms.{word_test, arrow_is, arrow_not}
use Rattle.phrases.proofs.arms.on_arrow.Goals as goal

pub returns-then-eq-clause-said : goal.returns-then-eq-clause-said
returns-then-eq-clause-said c =
    let a = c.args in
    λ n d. ap gives (c.turned.ensures.0 n) ∙ arrow_is d (begun_of n a.parsed) a.word.now (word_test _ _ _ c.as_slice.ensures c.if-eq.ensures)

pub returns-clause-said : goal.returns-clause-said
returns-clause-said c =
    let a = c.args in
    λ n d. arrow_not d (begun_of n a.parsed) a.word.now (word_test _ _ _ c.as_slice.ensures c.if-eq.ensures)
