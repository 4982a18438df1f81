use Rattle.std.proofs.Common.{◌≡◌, ◌+◌, ◌*◌, refl, arith}
use Rattle.policy.specs.Number.{states_of}
use Rattle.policy.specs.Numbered.{states_fit}
use Rattle.policy.proofs.Laws.{states_more}
use Rattle.policy.proofs.sections.state_count.Goals as goal
use Rattle.policy.proofs.sections.state_count.Goals.{After-from}

pub loop-ceiling-init : goal.loop-ceiling-init
unfolding states_of
loop-ceiling-init c = refl

-- With the clock that a turn looks at.
more : (c : After-from) → c.loop-ceiling.states * (c.from.result + 1) ≡ states_of c.args.ceilings.now (c.loop-ceiling.ceiling-index + 1) c.args.locations
more c = rw (c.loop-ceiling.invariant, c.from.ensures, states_more)

pub overflow_mul-states : goal.overflow_mul-states
overflow_mul-states c =
    omega (
      arith,
      more (goal.at.overflow_mul-states c).After-from,
      states_fit c.args.ceilings.now {k = c.loop-ceiling.ceiling-index + 1} {l = c.args.locations} (λ j l. c.requires.2 j (omega arith)) c.requires.1 (omega arith),
    )

pub loop-ceiling-preserved : goal.loop-ceiling-preserved
loop-ceiling-preserved c = more (goal.at.loop-ceiling-preserved c).After-from
