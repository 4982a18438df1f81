-- `correcting::arrive::arrival` meets its contract: what the rule that decides makes of the state counts if it is marked.
use Rattle.std.proofs.Common.{◌∙◌}
use Rattle.stepping.proofs.DecidedLaws.{decided_step}
use Rattle.correcting.proofs.ArrivedLaws.{next_fits, marked_arrives}
use Rattle.correcting.proofs.arrive.arrival.Goals as goal

pub if_marked-requires : goal.if_marked-requires
if_marked-requires c = next_fits c.requires.standing _ _ _ (decided_step c.rule_of-rule.ensures c.by-next.ensures)

pub returns : goal.returns
returns c = c.if_marked.ensures ∙ marked_arrives c.requires.standing _ _ _ (decided_step c.rule_of-rule.ensures c.by-next.ensures)
