use Rattle.std.proofs.Common.{ap, ◌∙◌}
use Rattle.streams.specs.Answer.{gives}
use Rattle.conditions.specs.Steps.{begun_of}
use Rattle.phrases.specs.Arms.{word_test, sign_low, sign_high, sign_none}
use Rattle.phrases.proofs.arms.on_sign.Goals as goal

pub returns-then-eq-clause-said : goal.returns-then-eq-clause-said
returns-then-eq-clause-said c =
    let a = c.args in
    λ n d. ap gives (c.turned.ensures.0 n) ∙ sign_low d (begun_of n a.parsed) a.word.now a.k (word_test _ _ _ c.as_slice.ensures c.if-eq.ensures)

pub returns-then-eq-2-clause-said : goal.returns-then-eq-2-clause-said
returns-then-eq-2-clause-said c =
    let a = c.args in
    λ n d. ap gives (c.turned-then-eq-2.ensures.0 n) ∙ sign_high d (begun_of n a.parsed) a.word.now a.k (word_test _ _ _ c.as_slice.ensures c.if-eq.ensures) (word_test _ _ _ c.as_slice-2.ensures c.if-eq-2.ensures)

pub returns-clause-said : goal.returns-clause-said
returns-clause-said c =
    let a = c.args in
    λ n d. sign_none d (begun_of n a.parsed) a.word.now a.k (word_test _ _ _ c.as_slice.ensures c.if-eq.ensures) (word_test _ _ _ c.as_slice-2.ensures c.if-eq-2.ensures)
