-- Nothing, the letter, or the letter after its mark.
use Rattle.std.proofs.Common.{arith}
use Rattle.texts.specs.WroteLaws.{wrote_none, wrote_then}
use Rattle.rule_text.specs.Trail.{trail_off, trail_on, trail_not}
use Rattle.rule_text.proofs.signals.put_signal.Goals as goal

pub returns-then-care-ne1 : goal.returns-then-care-ne1
returns-then-care-ne1 c = let a = c.args in rw (trail_off a.t a.care a.value c.if-care-ne1.true) (wrote_none _ _)

pub returns-then-value-eq1 : goal.returns-then-value-eq1
returns-then-value-eq1 c =
    let a = c.args in
    rw (trail_on a.t a.care a.value c.if-care-ne1.false c.if-value-eq1.true)
    (wrote_then (omega arith) c.put-next.ensures c.put.ensures)

pub returns : goal.returns
returns c =
    let a = c.args in
    rw (trail_not a.t a.care a.value c.if-care-ne1.false c.if-value-eq1.false)
    (wrote_then (omega arith) (wrote_then (omega arith) c.put-next-2.ensures c.put-next-3.ensures) c.put-2.ensures)
