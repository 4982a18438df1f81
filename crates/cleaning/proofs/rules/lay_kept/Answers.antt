use Rattle.std.proofs.Common.{arith}
use Rattle.usage.specs.Code.{flags_of}
use Rattle.cleaning.proofs.LayLaws.{rule_long}
use Rattle.cleaning.proofs.rules.lay_kept.Goals as goal

pub returns : goal.returns
returns c =
    let a = c.args in
    let w = c.lay_rule.ensures in
    (rw c.if-not-kept.false w, omega (arith, w.ends, rule_long (flags_of a.entered.now) a.clocks a.file.now a.p))
