-- The bounds of the clocks before this one are written, in at most 32 bytes each.
use Rattle.std.proofs.Common.{◌+◌, ◌*◌, ◌≤◌}
use Rattle.texts.specs.Under.{LinesUnder}
use Rattle.rule_text.specs.Pieces.{bounds_on}
use Rattle.rule_text.proofs.limits.put_bounds.Given as goal

abbrev pub invariant-loop-clock : goal.invariant-loop-clock
invariant-loop-clock l =
    record {
      short : l.next ≤ l.at + 32 * l.clock;
      under : LinesUnder l.fn.text l.at (bounds_on l.file l.from l.clocks 0) l.next l.text (bounds_on l.file l.from l.clocks l.clock);
    }
