use Rattle.std.proofs.Common.{arith}
use Rattle.texts.specs.Under.{under_start, under_on, under_all}
use Rattle.rule_text.specs.Pieces.{resets_start, resets_turn, resets_end}
use Rattle.rule_text.proofs.rule.put_resets.Goals as goal

pub loop-clock-init : goal.loop-clock-init
loop-clock-init c = record { short = omega arith; under = under_start _ _ _ }

pub loop-clock-preserved : goal.loop-clock-preserved
loop-clock-preserved c =
    let l = c.loop-clock in
    let turn = resets_turn c.args.clocks l.clock l.mask_on (omega arith) in
    record {
      short = omega arith;
      under = under_on (omega arith) l.invariant.under turn c.put_reset-next.ensures.0 c.put_reset-next.auto.text;
    }

pub returns : goal.returns
returns c =
    let a = c.args in
    let l = c.loop-clock in
    let all = under_all l.invariant.under (resets_end a.clocks l.clock l.mask_on (omega arith)) in
    (rw (← resets_start a.clocks a.mask) all, omega arith)
