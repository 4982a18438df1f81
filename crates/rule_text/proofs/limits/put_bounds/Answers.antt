use Rattle.std.proofs.Common.{arith}
use Rattle.texts.specs.Under.{under_start, under_on, under_all}
use Rattle.rule_text.specs.Pieces.{bounds_start, bounds_turn, bounds_end}
use Rattle.rule_text.proofs.limits.put_bounds.Goals as goal

pub loop-clock-init : goal.loop-clock-init
loop-clock-init c = record { short = omega arith; under = under_start _ _ _ }

pub loop-clock-preserved : goal.loop-clock-preserved
loop-clock-preserved c =
    let a = c.args in
    let low = c.pair_within-low.ensures in
    let high = c.pair_within-high.ensures in
    let turn = bounds_turn a.file.now a.from a.clocks c.loop-clock.clock (omega arith) low.0 high.0 high.1 in
    record {
      short = omega arith;
      under = under_on (omega arith) c.loop-clock.invariant.under turn c.put_bound-next.ensures.0 c.put_bound-next.auto.text;
    }

pub returns : goal.returns
returns c =
    let a = c.args in
    let l = c.loop-clock in
    let all = under_all l.invariant.under (bounds_end a.file.now a.from a.clocks l.clock (omega arith)) in
    (rw (← bounds_start a.file.now a.from a.clocks) all, omega arith)
