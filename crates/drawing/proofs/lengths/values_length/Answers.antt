use Rattle.std.proofs.Common.{arith, ap, length}
use Rattle.drawing.specs.Under.{values_end}
use Rattle.drawing.specs.Lengths.{values_length_turn}
use Rattle.drawing.proofs.lengths.values_length.Goals as goal

pub loop-signal-preserved : goal.loop-signal-preserved
loop-signal-preserved c =
    let l = c.loop-signal in
    record { few = omega arith; counted = omega (arith, values_length_turn c.args.signals.now l._signal-index l.shown_on c.loop-signal-test.true) }

pub returns : goal.returns
returns c =
    let l = c.loop-signal in
    (omega (arith, ap length (values_end c.args.signals.now l._signal-index l.shown_on 0 c.loop-signal-test.false)), omega arith)
