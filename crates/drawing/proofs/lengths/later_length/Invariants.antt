-- The lines of the events so far are counted.
use Rattle.std.proofs.Common.{◌+◌, ◌*◌, ◌≤◌, ◌≡◌, length, get_or, drop}
use Rattle.drawing.specs.Wave.{later_lines}
use Rattle.drawing.proofs.lengths.later_length.Given as goal

abbrev pub invariant-loop-time : goal.invariant-loop-time
invariant-loop-time l = record {
  few : l.total ≤ 16411 * l.time;
  counted : l.total + length (later_lines l.inputs l.outputs l.time l.before (drop l.time l.events))
      ≡ length (later_lines l.inputs l.outputs 1 (get_or l.events 0 0) (drop 1 l.events));
}
