use Rattle.std.proofs.Common.{arith}
use Rattle.texts.specs.Under.{under_start, under_all, under_on}
use Rattle.phrases.specs.Ended.{stored_start, stored_turn, stored_end}
use Rattle.phrases.proofs.stored.store_bounds.Goals as goal

pub loop-i-init : goal.loop-i-init
loop-i-init c = record { place = omega arith; stored = under_start _ _ _ }

pub loop-i-preserved : goal.loop-i-preserved
loop-i-preserved c =
    let p = c.put_bytes-next in
    let l = c.loop-i in
    let a = c.args in
    record {
      place = omega (arith, p.ensures.next, l.invariant.place);
      stored = under_on (omega arith) l.invariant.stored (stored_turn a.low a.high a.clocks l.i (omega arith) (omega arith) (omega arith) c.high_byte.ensures c.low_byte.ensures c.high_byte-in-loop-i.ensures c.low_byte-in-loop-i.ensures) p.ensures p.auto.text;
    }

pub returns : goal.returns
returns c =
    let l = c.loop-i in
    let a = c.args in
    (rw (← stored_start a.low a.high a.clocks) (under_all l.invariant.stored (stored_end a.low a.high a.clocks l.i (omega arith))), omega arith)
