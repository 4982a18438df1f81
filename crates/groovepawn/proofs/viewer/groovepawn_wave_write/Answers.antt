-- The answer of the writer in one number, and its slice.
use Rattle.std.proofs.Common.{ap, ◌∙◌, arith}
use Rattle.waves.specs.Laws.{wrote_text}
use Rattle.groovepawn.specs.Words.{answer_word}
use Rattle.groovepawn.specs.Waves.{wave_write_word}
use Rattle.groovepawn.proofs.viewer.groovepawn_wave_write.Goals as goal

pub overflow_mul-result : goal.overflow_mul-result
overflow_mul-result c = omega (arith, (wrote_text _ _ _ _ _ c.in-Ok.ensures).count)

pub returns-in-Ok : goal.returns-in-Ok
unfolding wave_write_word
returns-in-Ok c = record { said = ap answer_word c.in-Ok.ensures.answers; text = c.in-Ok.ensures.writes }

pub returns-in-Err : goal.returns-in-Err
unfolding wave_write_word
returns-in-Err c = record { said = c.from.ensures ∙ c.refusal_word.ensures ∙ ap answer_word c.in-Err.ensures.answers; text = c.in-Err.ensures.writes }
