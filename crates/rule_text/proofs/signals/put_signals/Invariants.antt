-- The signals before this one are written, in at most 3 bytes each; the masks' first bits are this one's.
use Rattle.std.proofs.Common.{◌+◌, ◌*◌, ◌≤◌, drop}
use Rattle.texts.specs.Under.{LinesUnder}
use Rattle.wording.specs.Writer.{signal_words}
use Rattle.rule_text.specs.Trail.{trailing}
use Rattle.rule_text.proofs.signals.put_signals.Given as goal

abbrev pub invariant-loop-tag : goal.invariant-loop-tag
invariant-loop-tag l =
    record {
      short : l.next ≤ l.at + 3 * l.tag-index;
      under : LinesUnder l.fn.text l.at (trailing (signal_words l.tags l.care l.value)) l.next l.text (trailing (signal_words (drop l.tag-index l.tags) l.c l.v));
    }
