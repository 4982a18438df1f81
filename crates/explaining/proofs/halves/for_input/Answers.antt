-- `explaining::halves::for_input` meets its contract: no reason where x was kept, else the input's.
use Rattle.explaining.specs.Halves.{input_kept, input_edited}
use Rattle.explaining.proofs.halves.for_input.Goals as goal

pub returns-then-x-passed : goal.returns-then-x-passed
returns-then-x-passed c = input_kept c.if-x-passed.true

pub returns-else-x-passed : goal.returns-else-x-passed
returns-else-x-passed c = input_edited c.if-x-passed.false c.reason_for_input.ensures
