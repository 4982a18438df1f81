-- The answer of the reader in one number, and its slice.
use Rattle.std.proofs.Common.{refl, ◌∙◌, arith}
use Rattle.streams.specs.Answer.{refused, gives}
use Rattle.refusals.specs.Refused.{number_of}
use Rattle.waves.specs.Laws.{took_stream}
use Rattle.groovepawn.proofs.viewer.groovepawn_wave_read.Goals as goal

pub overflow_mul-result : goal.overflow_mul-result
overflow_mul-result c = omega (arith, (took_stream _ _ _ _ c.in-Ok.ensures.reads refl).count)

pub returns-in-Ok : goal.returns-in-Ok
returns-in-Ok c = record { says = gives c.in-Ok.count; reads = c.in-Ok.ensures.reads; said = refl }

pub returns-in-Err : goal.returns-in-Err
returns-in-Err c = record { says = refused (number_of c.in-Err.refusal); reads = c.in-Err.ensures.reads; said = c.from.ensures ∙ c.refusal_word.ensures }
