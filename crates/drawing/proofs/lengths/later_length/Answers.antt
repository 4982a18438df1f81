use Rattle.std.proofs.Common.{◌≡◌, arith, ap, length}
use Rattle.drawing.specs.Wave.{time_line}
use Rattle.drawing.specs.Lengths.{later_length_turn, later_end}
use Rattle.drawing.proofs.lengths.later_length.Goals as goal

pub loop-time-preserved : goal.loop-time-preserved
loop-time-preserved c =
    let a = c.args in
    let l = c.loop-time in
    record {
      few = omega arith;
      counted = omega (arith, later_length_turn a.inputs.now a.outputs.now a.events.now l.time l.before (omega arith));
    }

pub returns : goal.returns
returns c =
    let a = c.args in
    let l = c.loop-time in
    let e : l.time ≡ length a.events.now = omega arith in (
      omega (arith, ap length (later_end a.inputs.now a.outputs.now a.events.now l.time l.before (omega arith)), ap (λ n. length (time_line n)) e),
      omega arith,
    )
