-- The inputs, the outputs, the clocks.
use Rattle.std.proofs.Common.{arith}
use Rattle.policy.specs.File.{rule_from}
use Rattle.texts.specs.WroteLaws.{wrote_then}
use Rattle.rule_text.proofs.rule.put_asked.Goals as goal

pub returns : goal.returns
unfolding rule_from
returns c = (wrote_then (omega arith) (wrote_then (omega arith) c.put_signals-first.ensures.0 c.put_signals-next.ensures.0) c.put_bounds.ensures.0, omega arith)
