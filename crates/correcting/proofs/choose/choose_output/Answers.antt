-- `correcting::choose::choose_output` meets its contract: an output that reaches a marked state is kept, and the row has just the outputs that reach a marked state.
use Rattle.std.proofs.Common.{sym, ◌∙◌}
use Rattle.streams.specs.ChooseLaws.{nearest_kept}
use Rattle.stepping.specs.Tick.{output_choice}
use Rattle.stepping.specs.Laid.{laid_well}
use Rattle.correcting.specs.Choice.{row_chosen}
use Rattle.correcting.proofs.choose.choose_output.Goals as goal

pub returns-then-reaches : goal.returns-then-reaches
unfolding output_choice
returns-then-reaches c =
    let y = rw c.outputs_of-n.ensures.0 at c.if-y-n.true in
    sym (nearest_kept _ _ _ y (sym c.reaches.ensures ∙ c.if-reaches.true))

pub returns : goal.returns
returns c =
    rw c.outputs_of-n.ensures.0 at c.nearest.ensures ∙ row_chosen _ (laid_well c.requires.standing.laid) _ _ _ _ c.row.ensures _
