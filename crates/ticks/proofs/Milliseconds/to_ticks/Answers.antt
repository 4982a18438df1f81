-- Each return gives what the definition gives after the same tests.
use Rattle.std.proofs.Common.{ap, sym, ◌∙◌, arith}
use Rattle.streams.specs.Answer.{gives}
use Rattle.ticks.specs.Laws.{no_length, too_many, given}
use Rattle.ticks.proofs.Milliseconds.to_ticks.Goals as goal

pub returns-then-tick-eq0 : goal.returns-then-tick-eq0
returns-then-tick-eq0 c = record { said = sym (no_length _ _ _ c.if-tick-eq0.true) }

pub returns-then-ticks-gt-MOST : goal.returns-then-ticks-gt-MOST
returns-then-ticks-gt-MOST c = record { said = sym (too_many _ _ _ (omega arith) (omega arith)) }

pub returns : goal.returns
returns c = record { said = ap gives c.rounded-ticks.ensures ∙ sym (given _ _ _ (omega arith) (omega arith)) }
