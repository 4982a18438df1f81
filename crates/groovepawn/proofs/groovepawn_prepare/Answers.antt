-- The answer of prepare in one number.
use Rattle.std.proofs.Common.{ap, sym, ◌∙◌}
use Rattle.groovepawn.specs.Words.{summary_word, prepare_word}
use Rattle.groovepawn.specs.Bounds.{summary_small}
use Rattle.groovepawn.proofs.groovepawn_prepare.Goals as goal

pub summary_word-requires : goal.summary_word-requires
summary_word-requires c = λ s e. summary_small _ _ _ s (sym c.prepare.ensures.said ∙ e)

pub returns : goal.returns
unfolding prepare_word
returns c = let e = c.prepare.ensures in record { said = c.summary_word.ensures ∙ ap summary_word e.said; marks = e.marks }
