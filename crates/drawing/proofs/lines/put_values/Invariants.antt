-- The lines of the signals so far are written.
use Rattle.std.proofs.Common.{drop}
use Rattle.texts.specs.Under.{LinesUnder}
use Rattle.drawing.specs.Wave.{value_lines}
use Rattle.drawing.proofs.lines.put_values.Given as goal

abbrev pub invariant-loop-tag : goal.invariant-loop-tag
invariant-loop-tag l =
    LinesUnder l.fn.text l.at (value_lines l.tags l.shown l.values) l.next l.text (value_lines (drop l.tag-index l.tags) l.shown_on l.values_on)
