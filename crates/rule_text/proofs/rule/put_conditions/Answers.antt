-- Nothing was written where the position is the same.
use Rattle.std.proofs.Common.{List, arith, subst}
use Rattle.policy.specs.File.{rule_from}
use Rattle.texts.specs.WroteLaws.{wrote_then}
use Rattle.texts.specs.Wrote.{Wrote}
use Rattle.rule_text.specs.Pieces.{condition_text, any_other, any_alone}
use Rattle.rule_text.proofs.rule.put_conditions.Goals as goal

pub returns-then-next-at : goal.returns-then-next-at
returns-then-next-at c =
    let a = c.args in
    let p = c.put_asked-next in
    let t = condition_text a.inputs.now a.outputs.now (rule_from a.clocks a.file.now a.rule) in
    (subst (λ (z : List _). Wrote a.text.now a.at z p.result p.new.text) (any_other t (λ e. c.if-next-at.true (omega (arith, p.ensures.0.next)))) p.ensures.0, omega arith)

pub returns : goal.returns
returns c =
    let a = c.args in
    let p = c.put_asked-next in
    let t = condition_text a.inputs.now a.outputs.now (rule_from a.clocks a.file.now a.rule) in
    let q = c.put_bytes in
    (rw (any_alone t (omega (arith, p.ensures.0.next, c.if-next-at.false))) (wrote_then (omega arith) p.ensures.0 q.ensures), omega (arith, q.ensures.next))
