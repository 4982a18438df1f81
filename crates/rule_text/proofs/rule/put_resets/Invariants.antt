-- The clocks before this one are looked at, in at most 7 bytes each.
use Rattle.std.proofs.Common.{◌+◌, ◌-◌, ◌*◌, ◌≤◌}
use Rattle.texts.specs.Under.{LinesUnder}
use Rattle.wording.specs.Writer.{reset_names}
use Rattle.rule_text.specs.Pieces.{leading}
use Rattle.rule_text.proofs.rule.put_resets.Given as goal

abbrev pub invariant-loop-clock : goal.invariant-loop-clock
invariant-loop-clock l =
    record {
      short : l.next ≤ l.at + 7 * l.clock;
      under : LinesUnder l.fn.text l.at (leading (reset_names 0 (l.clocks - 0) l.mask)) l.next l.text (leading (reset_names l.clock (l.clocks - l.clock) l.mask_on));
    }
