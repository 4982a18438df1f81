-- The lines of the signals so far are written.
use Rattle.std.proofs.Common.{drop}
use Rattle.texts.specs.Under.{LinesUnder}
use Rattle.drawing.specs.Wave.{var_lines}
use Rattle.drawing.proofs.lines.put_vars.Given as goal

abbrev pub invariant-loop-tag : goal.invariant-loop-tag
invariant-loop-tag l = LinesUnder l.fn.text l.at (var_lines l.tags) l.next l.text (var_lines (drop l.tag-index l.tags))
