use Rattle.std.proofs.Common.{sym, arith}
use Rattle.refusals.specs.Laws.{number_above, handed_on}
use Rattle.waves.specs.BySignals.{take_refused, take_by}
use Rattle.waves.proofs.reader.take.Goals as goal

pub returns-in_err-tags : goal.returns-in_err-tags
returns-in_err-tags c = rw (handed_on _ _ c.from_residual.ensures.1) (take_refused _ (sym c.in_err-tags.ensures) (λ z. omega (arith, number_above c.in_err-tags.field-0.0)))

pub returns : goal.returns
returns c =
    let t = c.in_ok-tags.ensures in
    take_by t.passes (rw (t.inputs_are, t.outputs_are) at c.take_checked.ensures)
