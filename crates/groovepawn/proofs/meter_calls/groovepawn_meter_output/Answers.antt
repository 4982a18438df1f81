-- The word is that of the meter's answer, and the slices are the meter's.
use Rattle.std.proofs.Common.{ap, ◌∙◌}
use Rattle.meter.specs.Entries.{MeterAnswer}
use Rattle.groovepawn.specs.Words.{answer_word}
use Rattle.groovepawn.proofs.meter_calls.groovepawn_meter_output.Goals as goal

pub returns : goal.returns
returns c =
    let o = c.meter_output.ensures.said in
    record {
      said = c.answer_word.ensures ∙ ap (λ (r : MeterAnswer). answer_word r.answer) o;
      next = ap (λ (r : MeterAnswer). r.station) o;
      sums = ap (λ (r : MeterAnswer). r.totals) o;
    }
