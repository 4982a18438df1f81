-- The word of the reasons for five numbers, and a refusal for any other state.
use Rattle.std.proofs.Common.{◌∙◌, ap, eqb-true}
use borrow.Author.Tests.{eqb-false}
use Rattle.reasons.specs.Promise.{answer_said}
use Rattle.reasons.specs.Word.{why_word}
use Rattle.groovepawn.proofs.why_call.groovepawn_why.Goals as goal

pub returns-then-state-ne-STATE_NUMBERS : goal.returns-then-state-ne-STATE_NUMBERS
returns-then-state-ne-STATE_NUMBERS c =
    record { odd = λ e. c.from.ensures ∙ c.refusal_word.ensures ∙ c.odd_refusal.ensures; said = λ e. absurd (c.if-state-ne-STATE_NUMBERS.true (eqb-true _ 5 e)) }

pub word-requires : goal.word-requires
word-requires c = rw c.numbered.ensures c.why.ensures.1

pub returns : goal.returns
returns c =
    record {
      odd = λ e. absurd (eqb-false _ 5 e c.if-state-ne-STATE_NUMBERS.false);
      said = λ e. (answer_said c.why.result, rw (← c.state_of.ensures) c.why.ensures.0.answers, c.why.ensures.1, c.word.ensures ∙ ap why_word c.numbered.ensures);
    }
