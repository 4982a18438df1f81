-- The answer and the state of the output half for five numbers, and a refusal for any other state.
use Rattle.std.proofs.Common.{ap, ◌∙◌, eq-eqb, ne_eqb}
use Rattle.enforcer.specs.Entries.{OutputAnswer}
use Rattle.stepping.specs.Five.{state_words}
use Rattle.groovepawn.specs.Words.{answer_word, output_word, output_state}
use Rattle.groovepawn.proofs.groovepawn_output.Goals as goal

pub returns-then-state-ne-STATE_NUMBERS : goal.returns-then-state-ne-STATE_NUMBERS
unfolding output_word output_state
returns-then-state-ne-STATE_NUMBERS c =
    let n = ne_eqb _ 5 c.if-state-ne-STATE_NUMBERS.true in
    record { said = rw n (c.refusal_word.ensures ∙ c.odd_refusal.ensures); next = rw n }

pub returns : goal.returns
unfolding output_word output_state
returns c =
    let five = eq-eqb _ 5 c.if-state-ne-STATE_NUMBERS.false in
    let o = c.output_half-answer.ensures.said in
    record {
      said = rw (five, ← c.state_of-held.ensures) (c.answer_word.ensures ∙ ap (λ (r : OutputAnswer). answer_word r.answer) o);
      next = rw (five, ← c.state_of-held.ensures) (c.put_state.ensures ∙ ap (λ (r : OutputAnswer). state_words r.state) o);
    }
