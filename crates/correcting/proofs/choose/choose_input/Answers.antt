-- `correcting::choose::choose_input` meets its contract: the sets that are not empty are just those of the inputs that may stand.
use Rattle.std.proofs.Common.{sym, ◌∙◌}
use Rattle.streams.specs.ChooseLaws.{nearest_kept}
use Rattle.stepping.specs.Tick.{input_choice}
use Rattle.stepping.specs.Laid.{laid_well}
use Rattle.correcting.specs.Choice.{sets_chosen}
use Rattle.correcting.proofs.choose.choose_input.Goals as goal

pub returns-then-may_stand : goal.returns-then-may_stand
unfolding input_choice
returns-then-may_stand c = sym (nearest_kept _ _ _ c.requires.1 (sym c.may_stand.ensures ∙ c.if-may_stand.true))

pub returns : goal.returns
returns c =
    rw c.inputs_of.ensures.0 at c.nearest.ensures
    ∙ sets_chosen _ (laid_well c.requires.0.standing.laid) _ _ c.allowed-sets.result _ c.allowed-sets.ensures c.standing.ensures _
