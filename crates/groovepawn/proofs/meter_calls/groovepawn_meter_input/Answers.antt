-- The word is that of the meter's answer.
use Rattle.std.proofs.Common.{ap, ◌∙◌}
use Rattle.groovepawn.specs.Words.{answer_word}
use Rattle.groovepawn.proofs.meter_calls.groovepawn_meter_input.Goals as goal

pub returns : goal.returns
returns c = record { said = c.answer_word.ensures ∙ ap answer_word c.meter_input.ensures.said }
