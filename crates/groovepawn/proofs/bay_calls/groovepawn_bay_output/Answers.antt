-- The word is that of the bay's answer, and the list is the bays'.
use Rattle.std.proofs.Common.{ap, ◌∙◌}
use Rattle.bays.specs.Entries.{BayAnswer}
use Rattle.groovepawn.specs.Words.{answer_word}
use Rattle.groovepawn.proofs.bay_calls.groovepawn_bay_output.Goals as goal

pub returns : goal.returns
returns c =
    let o = c.bay_output.ensures.said in
    record {
      said = c.answer_word.ensures ∙ ap (λ (r : BayAnswer). answer_word r.answer) o;
      next = ap (λ (r : BayAnswer). r.states) o;
    }
