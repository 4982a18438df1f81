-- , by whether there is a rule before.
use Rattle.std.proofs.Common.{ap, arith, ◌-◌, ◌∙◌}
use Rattle.policy.specs.File.{byte_at}
use Rattle.policy.specs.Frame.{longest}
use Rattle.showing.specs.Lines.{framed, first_source, later_source, rule_position, rule_within}
use Rattle.showing.proofs.lines.source_before.Goals as goal

pub returns-then-i-eq0 : goal.returns-then-i-eq0
returns-then-i-eq0 c = first_source c.args.file.now c.args.i c.if-i-eq0.true

pub rule_at-requires : goal.rule_at-requires
rule_at-requires c =
    omega (arith, c.requires, framed c.requires.0, longest c.args.file.now (framed c.requires.0))

pub byte_within-requires : goal.byte_within-requires
byte_within-requires c =
    let at = c.rule_at.ensures ∙ rule_position c.requires.0 (c.args.i - 1) in
    omega (arith, at, rule_within c.args.file.now (framed c.requires.0) (c.args.i - 1) (omega (arith, c.requires, c.if-i-eq0.false)))

pub returns : goal.returns
returns c =
    c.byte_within.ensures.0
    ∙ ap (byte_at c.args.file.now) (c.rule_at.ensures ∙ rule_position c.requires.0 (c.args.i - 1))
    ∙ later_source c.args.file.now c.args.i c.if-i-eq0.false
