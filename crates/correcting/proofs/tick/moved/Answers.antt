-- `correcting::tick::moved` meets its contract: the chosen output's event takes the state on.
use Rattle.std.proofs.Common.{ap, sym, ◌∙◌}
use Rattle.std.proofs.Math.Option.{bind}
use Rattle.stepping.specs.Tick.{output_tick}
use Rattle.choice.specs.Said.{choice_said}
use Rattle.correcting.specs.Chosen.{output_chosen}
use Rattle.correcting.proofs.tick.moved.Goals as goal

pub returns-in_err-y : goal.returns-in_err-y
unfolding output_tick bind
returns-in_err-y c marks y e = rw (c.from_residual.ensures, sym e ∙ ap choice_said c.in_err-y.was)

-- An output that is chosen leads on.
pub returns-in_err-state : goal.returns-in_err-state
returns-in_err-state c marks y e =
    let r = output_chosen _ _ _ _ _ (sym e ∙ ap choice_said c.in_ok-y.was) in
    let none = rw r.1 at (sym c.in_err-state.was ∙ c.step.ensures) in
    absurd (cc)

pub returns : goal.returns
returns c marks y e =
    let r = output_chosen _ _ _ _ _ (sym e ∙ ap choice_said c.in_ok-y.was) in
    let next = rw r.1 at c.in_ok-state.ensures in
    rw r.2 (cc)
