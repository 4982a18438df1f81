-- The refusal of the entry in one number, and its slice.
use Rattle.std.proofs.Common.{◌∙◌}
use Rattle.groovepawn.proofs.index_calls.groovepawn_index.Goals as goal

pub returns : goal.returns
returns c = record { said = c.from.ensures ∙ c.number.ensures ∙ c.write_index.ensures.refuses; index = c.write_index.ensures.writes }
