-- The answer and the state of the output half with an index for five numbers, and a refusal for any other state.
use Rattle.std.proofs.Common.{◌≡◌, ap, sym, ◌∙◌, arith, length, eq-eqb, ne_eqb}
use Rattle.enforcer.specs.Entries.{OutputAnswer}
use Rattle.stepping.specs.Five.{state_words, words_back}
use Rattle.groovepawn.specs.Words.{answer_word}
use Rattle.groovepawn.specs.Indexed.{output_indexed_word, output_indexed_state}
use Rattle.groovepawn.proofs.index_calls.groovepawn_output_indexed.Goals as goal

pub returns-then-state-ne-STATE_NUMBERS : goal.returns-then-state-ne-STATE_NUMBERS
unfolding output_indexed_word output_indexed_state
returns-then-state-ne-STATE_NUMBERS c =
    let n = ne_eqb _ 5 c.if-state-ne-STATE_NUMBERS.true in
    record { said = rw n (c.refusal_word.ensures ∙ c.odd_indexed.ensures); next = rw n }

pub returns-in-Ok : goal.returns-in-Ok
unfolding output_indexed_word output_indexed_state
returns-in-Ok c =
    let five = eq-eqb _ 5 c.if-state-ne-STATE_NUMBERS.false in
    let o = c.in-Ok.ensures.said in
    record {
      said = rw (five, ← c.state_of-given.ensures, c.from.ensures) (ap (λ (r : OutputAnswer). answer_word r.answer) o);
      next = rw (five, ← c.state_of-given.ensures) (c.put_state.ensures ∙ ap (λ (r : OutputAnswer). state_words r.state) o);
    }

pub returns-in-Err : goal.returns-in-Err
unfolding output_indexed_word output_indexed_state
returns-in-Err c =
    let five = eq-eqb _ 5 c.if-state-ne-STATE_NUMBERS.false in
    let same : length c.args.state.now ≡ 5 = omega arith in
    let o = c.in-Err.ensures.said in
    record {
      said = rw (five, ← c.state_of-given.ensures) (c.refusal_word-in-Err.ensures ∙ ap (λ (r : OutputAnswer). answer_word r.answer) o);
      next = rw (five, ← c.state_of-given.ensures) (sym (words_back c.args.state.now same) ∙ ap state_words (sym c.state_of-given.ensures) ∙ ap (λ (r : OutputAnswer). state_words r.state) o);
    }
