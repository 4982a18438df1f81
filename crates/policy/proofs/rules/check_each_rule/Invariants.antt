use Rattle.std.proofs.Common.{◌≡◌, ◌-◌, ◌*◌, take}
use Rattle.policy.specs.File.{rule_size, rules_from}
use Rattle.policy.specs.Check.{rules_refusal}
use Rattle.policy.proofs.rules.check_each_rule.Given as goal

-- The refusal of the rules from i on is that of all.
abbrev pub invariant-loop-i : goal.invariant-loop-i
invariant-loop-i l =
    rules_refusal l.shape.inputs l.shape.outputs (take l.shape.clocks l.shape.ceilings) l.shape.locations l.before
    (rules_from l.shape.clocks l.section (l.i * rule_size l.shape.clocks) (l.n - l.i))
    ≡ rules_refusal l.shape.inputs l.shape.outputs (take l.shape.clocks l.shape.ceilings) l.shape.locations 0
    (rules_from l.shape.clocks l.section 0 l.n)
