-- The signals before this one are looked at; the mask's first bit is this one's.
use Rattle.std.proofs.Common.{drop}
use Rattle.texts.specs.Under.{LinesUnder}
use Rattle.asks.specs.Words.{names}
use Rattle.asks.proofs.signals.put_names.Given as goal

abbrev pub invariant-loop-tag : goal.invariant-loop-tag
invariant-loop-tag l = LinesUnder l.fn.text l.at (names l.tags l.mask) l.next l.text (names (drop l.tag-index l.tags) l.mask_on)
