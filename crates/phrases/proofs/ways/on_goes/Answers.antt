-- The violation, a location, or neither.
use Rattle.std.proofs.Common.{ap, ◌∙◌}
use Rattle.streams.specs.Answer.{gives}
use Rattle.conditions.specs.Steps.{begun_of}
use Rattle.phrases.specs.Arms.{word_test, goes_violation, goes_found}
use Rattle.phrases.proofs.ways.on_goes.Goals as goal

pub returns-then-eq-clause-said : goal.returns-then-eq-clause-said
returns-then-eq-clause-said c =
    let a = c.args in
    λ n d e. ap gives (c.on_target.ensures.0 n) ∙ goes_violation d (begun_of n a.parsed) a.word.now (word_test _ _ _ c.as_slice.ensures c.if-eq.ensures)

pub returns-in-Some-clause-said : goal.returns-in-Some-clause-said
returns-in-Some-clause-said c =
    let a = c.args in
    λ n d e. ap gives (c.on_target-in-Some.ensures.0 n) ∙ goes_found d (begun_of n a.parsed) a.word.now (word_test _ _ _ c.as_slice.ensures c.if-eq.ensures) e c.in-Some.ensures.found

pub returns-in-None-clause-said : goal.returns-in-None-clause-said
returns-in-None-clause-said c =
    let a = c.args in
    λ n d e. goes_found d (begun_of n a.parsed) a.word.now (word_test _ _ _ c.as_slice.ensures c.if-eq.ensures) e c.in-None.ensures.found
