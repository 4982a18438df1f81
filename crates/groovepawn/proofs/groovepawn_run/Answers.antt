-- The answer, the state and the slice of the run for five numbers, and a refusal for any other state.
use Rattle.std.proofs.Common.{◌∙◌, eq-eqb, ne_eqb}
use Rattle.groovepawn.specs.Words.{run_word, run_state, run_out}
use Rattle.groovepawn.proofs.groovepawn_run.Goals as goal

pub returns-then-state-ne-STATE_NUMBERS : goal.returns-then-state-ne-STATE_NUMBERS
unfolding run_word run_state run_out
returns-then-state-ne-STATE_NUMBERS c =
    let n = ne_eqb _ 5 c.if-state-ne-STATE_NUMBERS.true in
    record { said = rw n (c.from.ensures ∙ c.refusal_word.ensures ∙ c.odd_refusal-odd.ensures); next = rw n; released = rw n }

pub returns : goal.returns
unfolding run_word run_state run_out
returns c =
    let five = eq-eqb _ 5 c.if-state-ne-STATE_NUMBERS.false in
    record {
      said = rw (five, ← c.state_of-given.ensures, ← c.run-ran.ensures.said, ← c.refused_word.ensures.0);
      next = rw (five, ← c.state_of-given.ensures, ← c.run-ran.ensures.said) c.put_state.ensures;
      released = rw (five, ← c.state_of-given.ensures, ← c.run-ran.ensures.said);
    }
