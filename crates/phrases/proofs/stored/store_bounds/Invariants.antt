-- The bounds of the first i clocks are stored.
use Rattle.std.proofs.Common.{◌≡◌, ◌+◌, ◌*◌}
use Rattle.texts.specs.Under.{LinesUnder}
use Rattle.phrases.specs.Ended.{stored_from}
use Rattle.phrases.proofs.stored.store_bounds.Given as goal

abbrev pub invariant-loop-i : goal.invariant-loop-i
invariant-loop-i l =
    record {
      place : l.next ≡ l.at + 4 * l.i;
      stored : LinesUnder l.initial.out l.at (stored_from l.low l.high l.clocks 0) l.next l.out (stored_from l.low l.high l.clocks l.i);
    }
