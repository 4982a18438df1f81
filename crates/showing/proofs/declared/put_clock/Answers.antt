use Rattle.std.proofs.Common.{arith}
use Rattle.texts.specs.WroteLaws.{wrote_then}
use Rattle.showing.proofs.declared.put_clock.Goals as goal

pub returns : goal.returns
returns c = (wrote_then (omega arith) c.put_named-next.ensures.0 c.put_number.ensures.0, omega arith)
