-- The lines of the signals so far are counted.
use Rattle.std.proofs.Common.{◌+◌, ◌*◌, ◌≤◌, ◌≡◌, length, drop}
use Rattle.drawing.specs.Wave.{value_lines}
use Rattle.drawing.proofs.lengths.values_length.Given as goal

abbrev pub invariant-loop-signal : goal.invariant-loop-signal
invariant-loop-signal l = record {
  few : l.total ≤ 3 * l._signal-index;
  counted : l.total + length (value_lines (drop l._signal-index l.signals) l.shown_on 0) ≡ length (value_lines l.fn.signals l.fn.shown 0);
}
