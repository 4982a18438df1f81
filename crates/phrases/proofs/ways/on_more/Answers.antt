use Rattle.std.proofs.Common.{ap, ◌∙◌}
use Rattle.streams.specs.Answer.{gives}
use Rattle.conditions.specs.Steps.{begun_of}
use Rattle.conditions.specs.Conditions.{scope_of}
use Rattle.phrases.specs.Arms.{word_test, more_arrow, more_on}
use Rattle.phrases.proofs.ways.on_more.Goals as goal

pub returns-then-eq-clause-said : goal.returns-then-eq-clause-said
returns-then-eq-clause-said c =
    let a = c.args in
    λ n places. ap gives (c.turned.ensures.0 n) ∙ more_arrow (scope_of a.text.now a.tags.now a.starts.now a.lengths.now a.clocks places) (begun_of n a.parsed) a.word.now (word_test _ _ _ c.as_slice.ensures c.if-eq.ensures)

pub returns-clause-said : goal.returns-clause-said
returns-clause-said c =
    let a = c.args in
    λ n places. c.on_condition.ensures.said n places ∙ more_on (scope_of a.text.now a.tags.now a.starts.now a.lengths.now a.clocks places) (begun_of n a.parsed) a.word.now (word_test _ _ _ c.as_slice.ensures c.if-eq.ensures)
