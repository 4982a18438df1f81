-- The refusal of the entry in one number, and its list.
use Rattle.std.proofs.Common.{◌∙◌}
use Rattle.groovepawn.proofs.bay_calls.groovepawn_bays_new.Goals as goal

pub returns : goal.returns
returns c = record { said = c.from.ensures ∙ c.number.ensures ∙ c.bays_new.ensures.said; states = c.bays_new.ensures.states }
