use Rattle.std.proofs.Common.{arith}
use Rattle.texts.specs.WroteLaws.{wrote_then}
use Rattle.phrases.specs.Ended.{rule_stored}
use Rattle.phrases.proofs.stored.store_rule.Goals as goal

pub returns : goal.returns
returns c =
    let a = c.args in
    let p = c.put_bytes-next in
    let q = c.store_bounds in
    (rw (← rule_stored a.inputs a.source a.clocks a.parsed c.power-bit.ensures.0) (wrote_then (omega (arith, c.requires.4)) p.ensures q.ensures.0), omega (arith, p.ensures.next, q.ensures.1))
