-- The clocks before this one are written.
use Rattle.texts.specs.Under.{LinesUnder}
use Rattle.asks.specs.Turns.{bounds_on}
use Rattle.asks.proofs.bounds.put_bounds.Given as goal

abbrev pub invariant-loop-clock : goal.invariant-loop-clock
invariant-loop-clock l = LinesUnder l.fn.text l.at (bounds_on l.rule l.clocks 0) l.next l.text (bounds_on l.rule l.clocks l.clock)
