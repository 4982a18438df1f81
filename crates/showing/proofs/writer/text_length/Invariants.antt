-- The sum and what is left are as long as the text, and no line is longer than 216 bytes.
use Rattle.std.proofs.Common.{◌≡◌, ◌+◌, ◌*◌, ◌≤◌, length}
use Rattle.showing.specs.Lines.{text_from}
use Rattle.showing.proofs.writer.text_length.Given as goal

abbrev pub invariant-loop-i : goal.invariant-loop-i
invariant-loop-i l =
    record {
      small : l.total ≤ 216 * l.i;
      left : l.total + length (text_from l.file l.i) ≡ length (text_from l.file 0);
    }
