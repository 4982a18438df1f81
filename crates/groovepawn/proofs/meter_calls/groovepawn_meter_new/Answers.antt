-- The refusal of the entry in one number, and its slices.
use Rattle.std.proofs.Common.{◌∙◌}
use Rattle.groovepawn.proofs.meter_calls.groovepawn_meter_new.Goals as goal

pub returns : goal.returns
returns c =
    let m = c.meter_new.ensures in
    record { said = c.from.ensures ∙ c.number.ensures ∙ m.said; placed = m.placed; cleared = m.cleared }
