-- The text before the i-th line is written.
use Rattle.texts.specs.Under.{LinesUnder}
use Rattle.showing.specs.Lines.{text_from}
use Rattle.showing.proofs.writer.put_text.Given as goal

abbrev pub invariant-loop-i : goal.invariant-loop-i
invariant-loop-i l = LinesUnder l.fn.out 0 (text_from l.file 0) l.next l.out (text_from l.file l.i)
