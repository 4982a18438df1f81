-- The answer of the second engine in one number.
use Rattle.std.proofs.Common.{ap, sym, ◌∙◌}
use Rattle.groovepawn.specs.Words.{summary_word}
use Rattle.groovepawn.specs.Fast.{fast_small}
use Rattle.groovepawn.proofs.second.groovepawn_prepare_fast.Goals as goal

pub summary_word-requires : goal.summary_word-requires
summary_word-requires c = λ s e. fast_small _ _ _ _ s (sym c.prepare_fast.ensures.said ∙ e)

pub returns : goal.returns
returns c =
    let e = c.prepare_fast.ensures in
    record { said = c.summary_word.ensures ∙ ap summary_word e.said; marks = e.marks; scratch = e.scratch }
