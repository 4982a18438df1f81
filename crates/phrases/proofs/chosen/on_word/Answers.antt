use Rattle.std.proofs.Common.{ap, sym, ◌∙◌}
use Rattle.conditions.specs.Steps.{part_of, begun_of}
use Rattle.conditions.specs.declared.steps.Part.{Part}
use Rattle.wording.specs.Reader.{word_at}
use Rattle.conditions.specs.Conditions.{scope_of}
use Rattle.phrases.specs.Arms.{clears_word}
use Rattle.phrases.proofs.chosen.on_word.Goals as goal

pub returns-in-Clears-clause-said : goal.returns-in-Clears-clause-said
returns-in-Clears-clause-said c =
    let a = c.args in
    λ n. c.on_clear.ensures.said n ∙ clears_word (scope_of a.text.now a.tags.now a.starts.now a.lengths.now a.clocks a.places) (begun_of n a.parsed) a.word.now
    ∙ ap (λ (q : Part). word_at (scope_of a.text.now a.tags.now a.starts.now a.lengths.now a.clocks a.places) (begun_of n a.parsed) (part_of q a.parsed.clock) a.word.now) (sym c.in-Clears.is)
