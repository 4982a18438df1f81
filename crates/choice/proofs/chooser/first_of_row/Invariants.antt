-- What is left of the row decides.
use Rattle.streams.specs.Choose.{nearest}
use Rattle.choice.specs.Sets.{has}
use Rattle.choice.proofs.ChooserLaws.{LeftOfRow}
use Rattle.choice.proofs.chooser.first_of_row.Given as goal

abbrev pub invariant-loop-value : goal.invariant-loop-value
invariant-loop-value l = LeftOfRow (has l.set) l.n l.value-items (nearest (has l.set) l.wanted l.n) l.value-index
