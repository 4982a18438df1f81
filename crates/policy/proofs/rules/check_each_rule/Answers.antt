use Rattle.std.proofs.Common.{◌≡◌, ℕ, ◌+◌, ◌-◌, ◌*◌, ◌∙◌, arith}
use Rattle.refusals.specs.Laws.{handed_first}
use Rattle.policy.specs.File.{byte_at, part, rule_size, rule_from, rules_from}
use Rattle.policy.specs.Check.{rules_refusal}
use Rattle.policy.specs.Parts.{byte_part, rule_part}
use Rattle.policy.proofs.RuleLaws.{rules_turn}
use Rattle.policy.proofs.rules.check_each_rule.Goals as goal
use Rattle.policy.proofs.rules.check_each_rule.Goals.{After-check_rule}

-- What is read in the part of the section that the rule i is: that rule, and its source.
module _ (c : After-check_rule) where
  abbrev size : ℕ
  size = rule_size c.args.shape.clocks

  rule_read : rule_from c.args.shape.clocks (part c.args.section.now (c.loop-i.i * size) ((c.loop-i.i + 1) * size - c.loop-i.i * size)) 0
      ≡ rule_from c.args.shape.clocks c.args.section.now (c.loop-i.i * size)
  rule_read = rule_part c.args.section.now (c.loop-i.i * size) _ c.args.shape.clocks 0 (c.loop-i.i * size) (omega arith) (omega arith)

  source_read : byte_at (part c.args.section.now (c.loop-i.i * size) ((c.loop-i.i + 1) * size - c.loop-i.i * size)) 0
      ≡ byte_at c.args.section.now (c.loop-i.i * size)
  source_read = byte_part c.args.section.now (c.loop-i.i * size) _ 0 (c.loop-i.i * size) (omega arith) (omega arith)

pub returns-in_err-check_rule : goal.returns-in_err-check_rule
returns-in_err-check_rule c =
    let bad = rw (rule_read (goal.at.returns-in_err-check_rule c).After-check_rule) at c.in_err-check_rule.ensures in
    rw (← c.loop-i.invariant, rules_turn _ _ _ _ _ _ _ _ _ c.loop-i-test.true) (handed_first _ _ _ c.from_residual.ensures.1 bad)

pub loop-i-preserved : goal.loop-i-preserved
loop-i-preserved c =
    let p = (goal.at.loop-i-preserved c).After-check_rule in
    let good = rw (rule_read p) at c.in_ok-check_rule.ensures in
    rw (
      ← c.loop-i.invariant,
      rules_turn _ _ _ _ _ _ _ _ _ c.loop-i-test.true,
      ← good,
      c.from-before.ensures ∙ source_read p,
    )

pub returns : goal.returns
unfolding rules_refusal rules_from
returns c = let e : c.args.n - c.loop-i.i ≡ 0 = omega arith in rw e at c.loop-i.invariant
