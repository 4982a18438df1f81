-- The rule's parts of the file, its `at`, its line.
use Rattle.std.proofs.Common.{List, arith, refl, subst, ℕ, ◌+◌, ◌-◌, ◌∙◌}
use Rattle.policy.specs.Frame.{longest}
use Rattle.texts.specs.Wrote.{Wrote}
use Rattle.texts.specs.WroteLaws.{wrote_then}
use Rattle.showing.specs.Lines.{framed, rule_position, rule_within, rule-by}
use Rattle.showing.proofs.lines.put_ruled.Goals as goal

pub rule_at-rule-requires : goal.rule_at-rule-requires
rule_at-rule-requires c =
    omega (arith, c.requires, framed c.requires.0, longest c.args.file.now (framed c.requires.0))

pub byte_within-source-requires : goal.byte_within-source-requires
byte_within-source-requires c =
    omega (arith, c.rule_at-rule.ensures ∙ rule_position c.requires.0 c.args.i, rule_within c.args.file.now (framed c.requires.0) c.args.i (omega (arith, c.requires)))

pub overflow_add-inputs_end : goal.overflow_add-inputs_end
overflow_add-inputs_end c =
    omega (arith, c.requires, framed c.requires.0)

pub overflow_add-outputs_start : goal.overflow_add-outputs_start
overflow_add-outputs_start c =
    omega (arith, c.requires, framed c.requires.0)

pub overflow_add-outputs_end : goal.overflow_add-outputs_end
overflow_add-outputs_end c =
    omega (arith, c.requires, framed c.requires.0)

pub slice_bounds-put_rule-end : goal.slice_bounds-put_rule-end
slice_bounds-put_rule-end c =
    omega (arith, c.requires, framed c.requires.0)

pub slice_bounds-put_rule-end-2 : goal.slice_bounds-put_rule-end-2
slice_bounds-put_rule-end-2 c =
    omega (arith, c.requires, framed c.requires.0)

pub put_rule-requires : goal.put_rule-requires
put_rule-requires c =
    let k = framed c.requires.0 in
    let at = c.rule_at-rule.ensures ∙ rule_position c.requires.0 c.args.i in
    let within = rule_within c.args.file.now k c.args.i (omega (arith, c.requires)) in
    (omega (arith, k, c.requires), omega (arith, k, c.requires), omega (arith, k, c.requires), omega (arith, at, within, c.requires.0.clocks), omega (arith, c.requires.2, c.put_at-next.ensures.1, c.put_at-next.auto.text))

pub returns : goal.returns
returns c =
    let a = c.args in
    let k = framed c.requires.0 in
    let p = c.requires.0 in
    let e = a.layout.inputs in
    let g = 1 + e + 1 in
    let r = c.rule_at-rule in
    let q = c.put_rule in
    let made =
    rule-by a.file.now a.i {a = 1} {x = 1 + e - 1} {b = g} {y = g + a.layout.outputs - g} {n = a.layout.clocks} {p = r.result} {before = c.source_before-before.result} {source = c.byte_within-source.result} refl (omega (arith, p)) (omega (arith, k, p)) (omega (arith, p)) p.clocks (r.ensures ∙ rule_position p a.i) c.source_before-before.ensures c.byte_within-source.ensures.0 in
    (subst (λ (z : List ℕ). Wrote a.text.now a.at z q.result q.new.text) made (wrote_then (omega (arith, c.requires.2)) c.put_at-next.ensures.0 q.ensures.0), omega (arith, c.put_at-next.ensures.1, q.ensures.1))
