-- The lines of the events that are left are still to be written, and each line so far has at most 21 bytes.
use Rattle.std.proofs.Common.{◌+◌, ◌*◌, ◌≡◌, ◌≤◌, length}
use Rattle.printing.specs.Text.{tick_lines}
use Rattle.texts.specs.Under.{LinesUnder}
use Rattle.printing.proofs.put_ticks.Given as goal

abbrev pub invariant-loop-i : goal.invariant-loop-i
invariant-loop-i l =
    let ticks = l.i-iterator.count in
    let events = l.i-iterator.iter.a.rest.now in
    let released = l.i-iterator.iter.b.rest.now in
    record {
      under : LinesUnder l.fn.text l.at (tick_lines 1 l.fn.events l.fn.released) l.next l.text (tick_lines (ticks + 1) events released);
      passed : ticks + length events ≡ length l.fn.events;
      enough : length events ≤ length released;
      short : l.next ≤ l.at + 21 * ticks;
    }
