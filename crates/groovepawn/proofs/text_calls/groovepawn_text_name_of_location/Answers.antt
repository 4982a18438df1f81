-- The word is that of the answer.
use Rattle.std.proofs.Common.{ap, sym, subst, ◌∙◌}
use Rattle.pointing.specs.Short.{Shaped, given_shaped}
use Rattle.groovepawn.specs.Text.{named_word, text_name_word}
use Rattle.groovepawn.proofs.text_calls.groovepawn_text_name_of_location.Goals as goal

pub name_word-requires : goal.name_word-requires
name_word-requires c = subst Shaped (sym c.name_of_location.ensures.said) (given_shaped 2 _ _)

pub returns : goal.returns
unfolding text_name_word
returns c = record { said = c.name_word.ensures ∙ ap named_word c.name_of_location.ensures.said }
