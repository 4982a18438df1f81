-- The margin, the conditions, where it leads.
use Rattle.std.proofs.Common.{List, arith, subst}
use Rattle.texts.specs.WroteLaws.{wrote_then}
use Rattle.texts.specs.Wrote.{Wrote}
use Rattle.rule_text.specs.Pieces.{rule_made}
use Rattle.rule_text.proofs.rule.put_rule.Goals as goal

pub returns : goal.returns
returns c =
    let a = c.args in
    let e = c.put_ending in
    let made = rule_made a.inputs.now a.outputs.now a.file.now a.clocks a.rule c.byte_within-mask.ensures.0 c.byte_within-target.ensures.0 in
    let all = wrote_then (omega (arith, c.requires.4)) (wrote_then (omega (arith, c.requires.4)) c.put_bytes-next.ensures c.put_conditions-end.ensures.0) e.ensures.0 in
    (subst (λ (z : List _). Wrote a.text.now a.at z e.result e.new.text) made all, omega (arith, c.put_bytes-next.ensures.next, c.put_conditions-end.ensures.1, e.ensures.1))
