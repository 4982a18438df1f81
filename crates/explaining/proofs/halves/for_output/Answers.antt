-- `explaining::halves::for_output` meets its contract: no reason where y was kept, else the event's.
use Rattle.explaining.specs.Halves.{output_kept, output_edited}
use Rattle.explaining.proofs.halves.for_output.Goals as goal

pub returns-then-y-released : goal.returns-then-y-released
returns-then-y-released c = output_kept c.if-y-released.true

pub returns-else-y-released : goal.returns-else-y-released
returns-else-y-released c = output_edited c.if-y-released.false c.reason_of.ensures
