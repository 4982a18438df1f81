-- `correcting::tick::corrected` meets its contract: the output half goes on from the chosen input, by the set that one pass has found for it.
use Rattle.std.proofs.Common.{sym, ◌∙◌, arith, pow_pos}
use Rattle.std.proofs.Math.Option.{bind}
use Rattle.stepping.specs.Tick.{tick}
use Rattle.stepping.specs.Laid.{laid_well}
use Rattle.correcting.specs.Choice.{input_stands, input_below, sets_chosen, set_chosen}
use Rattle.correcting.proofs.tick.corrected.Goals as goal

pub returns-then-reaches : goal.returns-then-reaches
unfolding tick bind
returns-then-reaches c =
    rw (input_stands _ _ _ _ 0 c.requires.1 (pow_pos _) (sym c.reaches.ensures ∙ c.if-reaches.true)) c.output_tick.ensures

pub returns-in_err-z : goal.returns-in_err-z
unfolding tick bind
returns-in_err-z c =
    rw (
      c.from_residual.ensures,
      sym (rw c.inputs_of.ensures.0 at c.in_err-z.ensures ∙ sets_chosen _ (laid_well c.requires.0.standing.laid) _ _ c.allowed-sets.result _ c.allowed-sets.ensures c.standing.ensures _),
    )

pub bounds-sets-z : goal.bounds-sets-z
bounds-sets-z c =
    let input = rw c.inputs_of.ensures.0 at c.in_ok-z.ensures ∙ sets_chosen _ (laid_well c.requires.0.standing.laid) _ _ c.allowed-sets.result _ c.allowed-sets.ensures c.standing.ensures _ in
    omega (arith, input_below _ _ _ _ (sym input), c.inputs_of.ensures)

pub returns : goal.returns
unfolding tick bind
returns c =
    let k = laid_well c.requires.0.standing.laid in
    let input = rw c.inputs_of.ensures.0 at c.in_ok-z.ensures ∙ sets_chosen _ k _ _ c.allowed-sets.result _ c.allowed-sets.ensures c.standing.ensures _ in
    let output = rw c.outputs_of.ensures.0 at c.nearest-output.ensures ∙ set_chosen _ k _ _ _ _ (c.allowed-sets.ensures _) (input_below _ _ _ _ (sym input)) _ in
    rw (sym input) (c.moved.ensures _ _ output)
