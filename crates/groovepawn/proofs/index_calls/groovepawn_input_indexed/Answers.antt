-- The answer of the input half with an index for five numbers, and a refusal for any other state.
use Rattle.std.proofs.Common.{ap, ◌∙◌, eq-eqb, ne_eqb}
use Rattle.groovepawn.specs.Words.{answer_word}
use Rattle.groovepawn.specs.Indexed.{input_indexed_word}
use Rattle.groovepawn.proofs.index_calls.groovepawn_input_indexed.Goals as goal

pub returns-then-state-ne-STATE_NUMBERS : goal.returns-then-state-ne-STATE_NUMBERS
unfolding input_indexed_word
returns-then-state-ne-STATE_NUMBERS c =
    record { said = rw (ne_eqb _ 5 c.if-state-ne-STATE_NUMBERS.true) (c.refusal_word.ensures ∙ c.odd_indexed.ensures) }

pub returns : goal.returns
unfolding input_indexed_word
returns c =
    record { said = rw (eq-eqb _ 5 c.if-state-ne-STATE_NUMBERS.false, ← c.state_of.ensures) (c.answer_word.ensures ∙ ap answer_word c.input_indexed.ensures.said) }
