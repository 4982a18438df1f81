-- No rule leads nowhere, and else the rule says it.
use Rattle.std.proofs.Common.{rules}
use Rattle.std.proofs.Math.Option.{bind}
use Rattle.stepping.specs.Ways.{leads}
use Rattle.leading.proofs.reach.leads_by.Goals as goal

pub returns-in-None : goal.returns-in-None
unfolding bind
returns-in-None c = search rules

pub returns-in-Some : goal.returns-in-Some
unfolding bind leads
returns-in-Some c = search rules
