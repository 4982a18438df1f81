use Rattle.std.proofs.Common.{◌≡◌, ◌+◌, ◌-◌, ◌*◌}
use Rattle.policy.specs.File.{rule_size, rules_from}
use Rattle.policy.specs.Own.{below}
use Rattle.policy.proofs.own.rules_below.Given as goal

-- What the rules from i on add to i is what all give.
abbrev pub invariant-loop-i : goal.invariant-loop-i
invariant-loop-i l =
    l.i + below l.location (rules_from l.clocks l.rules (l.at + l.i * rule_size l.clocks) (l.count - l.i))
    ≡ below l.location (rules_from l.clocks l.rules l.at l.count)
