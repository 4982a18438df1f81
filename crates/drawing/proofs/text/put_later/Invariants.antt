-- The lines of the events so far are written.
use Rattle.std.proofs.Common.{get_or, drop}
use Rattle.texts.specs.Under.{LinesUnder}
use Rattle.drawing.specs.Wave.{later_lines}
use Rattle.drawing.proofs.text.put_later.Given as goal

abbrev pub invariant-loop-time : goal.invariant-loop-time
invariant-loop-time l =
    LinesUnder l.fn.text l.at (later_lines l.inputs l.outputs 1 (get_or l.events 0 0) (drop 1 l.events)) l.next l.text
    (later_lines l.inputs l.outputs l.time l.before (drop l.time l.events))
