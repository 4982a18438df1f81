-- An event that reaches is an output that stands, and else the row says it.
use Rattle.std.proofs.Common.{sym, ◌∙◌, pow_pos}
use Rattle.streams.specs.ChooseLaws.{some_has}
use Rattle.stepping.specs.Tick.{may_stand}
use Rattle.stepping.specs.Laid.{laid_well}
use Rattle.stepping.specs.WaysLaws.{row_stands}
use Rattle.leading.proofs.pass.may_stand.Goals as goal

pub returns-then-reaches : goal.returns-then-reaches
unfolding may_stand
returns-then-reaches c = c.if-reaches.true ∙ sym (some_has _ _ 0 (pow_pos _) (sym c.reaches.ensures ∙ c.if-reaches.true))

pub returns-else-reaches : goal.returns-else-reaches
returns-else-reaches c = rw c.row.ensures (sym (row_stands _ (laid_well c.requires.standing.laid) _ _ _))
