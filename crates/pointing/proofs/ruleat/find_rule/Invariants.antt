-- The rule lines that are left decide.
use Rattle.std.proofs.Common.{◌≡◌, ◌-◌, ◌≤◌, length, get_or}
use Rattle.wording.specs.RuleLines.{rule_numbers}
use Rattle.pointing.specs.RuleAt.{rules_left}
use Rattle.pointing.proofs.ruleat.find_rule.Given as goal

abbrev pub invariant-loop-at : goal.invariant-loop-at
invariant-loop-at l =
    record {
      within : l.at ≤ length l.text;
      few : l.passed ≤ l.at;
      same : get_or (rule_numbers l.text) l.i 0 ≡ get_or (rules_left l.text l.passed l.at) l.left 0;
    }

abbrev pub decreases-loop-at : goal.decreases-loop-at
decreases-loop-at l = length l.text - l.at
