use Rattle.std.proofs.Common.{◌≡◌}
use Rattle.policy.specs.Number.{states_of}
use Rattle.policy.proofs.sections.state_count.Given as goal

-- The number of states with the clocks so far.
abbrev pub invariant-loop-ceiling : goal.invariant-loop-ceiling
invariant-loop-ceiling l = l.states ≡ states_of l.ceilings l.ceiling-index l.locations
