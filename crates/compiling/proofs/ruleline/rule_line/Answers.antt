use Rattle.std.proofs.Common.{◌-◌}
use Rattle.refusals.specs.Laws.{handed_on}
use Rattle.policy.specs.File.{part}
use Rattle.wording.specs.Words.{words_of}
use Rattle.compiling.specs.RuleLine.{rule_nowhere, rule_refused, rule_ended, rule_tested}
use Rattle.compiling.proofs.ruleline.rule_line.Goals as goal

pub returns-then-table-ge-LOCATIONS-clause-said : goal.returns-then-table-ge-LOCATIONS-clause-said
returns-then-table-ge-LOCATIONS-clause-said c left rules long =
    let a = c.args in
    rule_nowhere a.text.now a.starts.now a.lengths.now left c.requires.2 rules (words_of (part a.text.now a.at (a.end - a.at))) c.if-table-ge-LOCATIONS.true

pub returns-in_err-parsed-clause-said : goal.returns-in_err-parsed-clause-said
returns-in_err-parsed-clause-said c left rules long =
    let a = c.args in
    rw (handed_on _ _ c.from_residual.ensures.1)
    (rule_refused a.text.now a.starts.now a.lengths.now left c.requires.2 rules (words_of (part a.text.now a.at (a.end - a.at))) c.if-table-ge-LOCATIONS.false
    _ (c.in_err-parsed.ensures.said left rules))

pub returns-in_err-check_rule-clause-said : goal.returns-in_err-check_rule-clause-said
returns-in_err-check_rule-clause-said c left rules long =
    let a = c.args in
    rw (handed_on _ _ c.from_residual-in_err-check_rule.ensures.1)
    (rule_ended a.text.now a.starts.now a.lengths.now left c.requires.2 rules (words_of (part a.text.now a.at (a.end - a.at))) c.if-table-ge-LOCATIONS.false
    c.in_ok-parsed.parsed (c.in_ok-parsed.ensures.said left rules) c.in_err-check_rule.field-0.0 long c.in_err-check_rule.ensures)

pub returns-clause-said : goal.returns-clause-said
returns-clause-said c left rules long =
    let a = c.args in
    rule_tested a.text.now a.starts.now a.lengths.now left c.requires.2 rules (words_of (part a.text.now a.at (a.end - a.at))) c.if-table-ge-LOCATIONS.false
    c.in_ok-parsed.parsed (c.in_ok-parsed.ensures.said left rules) long c.in_ok-check_rule.ensures
