-- From what is left and found, the rules still to come find what all rules find.
use Rattle.std.proofs.Common.{◌≡◌, length}
use Rattle.policy.specs.File.{rules_from, policy_of}
use Rattle.stepping.specs.State.{place}
use Rattle.stepping.specs.Pass.{Gathering}
use Rattle.stepping.specs.RulePlaces.{PlacesAhead}
use Rattle.leading.proofs.pass.allowed.Given as goal

abbrev pub invariant-loop-at : goal.invariant-loop-at
invariant-loop-at l =
    (goal.iterator-loop-at).can_next l.at-iterator
    × (goal.iterator-loop-at).is_finite l.at-iterator
    × PlacesAhead l.file l.layout l.here.state.location l.at-iterator
    × (length l.left ≡ 16)
    × (length l.found ≡ 16)
    × Gathering (place l.layout.clocks l.here.state) (policy_of l.layout.reading l.file) l.marks (rules_from l.layout.clocks l.file l.at-iterator.at l.at-iterator.ahead) l.left l.found
