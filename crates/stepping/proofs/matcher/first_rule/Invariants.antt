-- All rules from `at` on are the location's, and the first of them that fires is the first of all.
use Rattle.std.proofs.Common.{◌≡◌, ◌-◌, ◌*◌}
use Rattle.policy.specs.File.{rule_size, rules_from}
use Rattle.policy.specs.Sound.{Each}
use Rattle.stepping.specs.Code.{event_xy, decider}
use Rattle.stepping.specs.State.{place}
use Rattle.stepping.proofs.RuleLaws.{decider_from}
use Rattle.stepping.proofs.matcher.first_rule.Given as goal

abbrev pub invariant-loop-number : goal.invariant-loop-number
invariant-loop-number l =
    (l.at ≡ l.number * rule_size l.clocks)
    × Each (λ r. r.source ≡ l.state.location) (rules_from l.clocks l.rules l.at (l.count - l.number))
    × (decider (rules_from l.clocks l.rules 0 l.count) (place l.clocks l.state) (event_xy l.x l.y)
    ≡ decider_from l.clocks l.rules (place l.clocks l.state) (event_xy l.x l.y) l.count l.at l.number)
