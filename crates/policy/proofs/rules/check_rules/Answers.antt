use Rattle.std.proofs.Common.{◌≡◌, ◌∙◌, arith, sym}
use Rattle.refusals.specs.Laws.{handed_on, handed_first}
use Rattle.policy.specs.File.{rule_count, rule_size, clock_count, rules_at}
use Rattle.policy.specs.Check.{section_refusal, rules_section_refusal}
use Rattle.policy.specs.Frame.{section_fits}
use Rattle.policy.proofs.RuleLaws.{rules_read}
use Rattle.policy.proofs.rules.check_rules.Goals as goal
use Rattle.policy.proofs.rules.check_rules.Goals.{After-check_section}

-- What the section's check says, as the definition has it.
known : (c : After-check_section) →
    section_refusal c.args.file.now c.args.at 2 c.pair_at-n.result 0 256 (rule_size c.args.shape.clocks)
    ≡ section_refusal c.args.file.now (rules_at c.args.file.now) 2 (rule_count c.args.file.now) 0 256 (rule_size (clock_count c.args.file.now))
known c = cc

pub returns-in_err-check_section-clause-refuses : goal.returns-in_err-check_section-clause-refuses
unfolding rules_section_refusal
returns-in_err-check_section-clause-refuses c =
    handed_first _ _ _ c.from_residual.ensures.1 (c.in_err-check_section.ensures ∙ known (goal.at.returns-in_err-check_section-clause-refuses c).After-check_section)

pub slice_bounds-check_each_rule-end : goal.slice_bounds-check_each_rule-end
slice_bounds-check_each_rule-end c = omega (arith, section_fits _ _ _ _ _ _ _ (sym c.in_ok-check_section.ensures))

pub check_each_rule-requires-clause-n_bound : goal.check_each_rule-requires-clause-n_bound
check_each_rule-requires-clause-n_bound c = ((section_fits _ _ _ _ _ _ _ (sym c.in_ok-check_section.ensures)).1, c.requires.2.shaped)

pub returns-in_err-check_each_rule-clause-refuses : goal.returns-in_err-check_each_rule-clause-refuses
unfolding rules_section_refusal
returns-in_err-check_each_rule-clause-refuses c =
    let p = (goal.at.returns-in_err-check_each_rule-clause-refuses c).After-check_section in
    let read = rules_read c.args.file.now c.args.shape c.args.at c.pair_at-n.result c.requires.1 c.pair_at-n.ensures.0 c.requires.2 in
    rw (← known p, ← c.in_ok-check_section.ensures, handed_on _ _ c.from_residual-in_err-check_each_rule.ensures.1)
    (c.in_err-check_each_rule.ensures ∙ read)

pub returns-clause-refuses : goal.returns-clause-refuses
unfolding rules_section_refusal
returns-clause-refuses c =
    let p = (goal.at.returns-clause-refuses c).After-check_section in
    let read = rules_read c.args.file.now c.args.shape c.args.at c.pair_at-n.result c.requires.1 c.pair_at-n.ensures.0 c.requires.2 in
    rw (← known p, ← c.in_ok-check_section.ensures) (c.in_ok-check_each_rule.ensures ∙ read)
