use Rattle.std.proofs.Common.{arith}
use Rattle.texts.specs.WroteLaws.{wrote_then}
use Rattle.rule_text.proofs.limits.put_bound.Goals as goal

pub returns : goal.returns
returns c = (wrote_then (omega arith) c.put_low-next.ensures.0 c.put_high.ensures.0, omega arith)
