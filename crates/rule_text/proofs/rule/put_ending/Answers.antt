use Rattle.std.proofs.Common.{arith}
use Rattle.texts.specs.WroteLaws.{wrote_then}
use Rattle.rule_text.proofs.rule.put_ending.Goals as goal

pub returns : goal.returns
returns c = (wrote_then (omega arith) (wrote_then (omega arith) c.put_target-next.ensures.0 c.put_clears-end.ensures.0) c.put_bytes.ensures, omega (arith, c.put_bytes.ensures.next))
