-- The word is that of the bay's answer.
use Rattle.std.proofs.Common.{ap, ◌∙◌}
use Rattle.groovepawn.specs.Words.{answer_word}
use Rattle.groovepawn.proofs.bay_calls.groovepawn_bay_input.Goals as goal

pub returns : goal.returns
returns c = record { said = c.answer_word.ensures ∙ ap answer_word c.bay_input.ensures.said }
