-- The answer of the join in one number, and its slice.
use Rattle.std.proofs.Common.{ap, sym, ◌∙◌, arith}
use Rattle.groovepawn.specs.Words.{answer_word, join_word}
use Rattle.groovepawn.specs.Bounds.{joined_short}
use Rattle.groovepawn.proofs.join_call.groovepawn_join.Goals as goal

pub overflow_mul-result : goal.overflow_mul-result
overflow_mul-result c = omega (arith, joined_short _ _ _ _ (sym c.in-Ok.ensures.answers))

pub returns-in-Ok : goal.returns-in-Ok
unfolding join_word
returns-in-Ok c = record { said = ap answer_word c.in-Ok.ensures.answers; out = c.in-Ok.ensures.writes }

pub returns-in-Err : goal.returns-in-Err
unfolding join_word
returns-in-Err c = record { said = c.from.ensures ∙ c.refusal_word.ensures ∙ ap answer_word c.in-Err.ensures.answers; out = c.in-Err.ensures.writes }
