-- Nothing for an empty mask.
use Rattle.std.proofs.Common.{arith}
use borrow.Author.Tests.{eq-eqb, ne_eqb}
use Rattle.texts.specs.WroteLaws.{wrote_none, wrote_then}
use Rattle.rule_text.proofs.rule.put_clears.Goals as goal

pub returns-then-mask-eq0 : goal.returns-then-mask-eq0
returns-then-mask-eq0 c = (rw (eq-eqb c.args.mask 0 c.if-mask-eq0.true) (wrote_none _ _), omega arith)

pub returns : goal.returns
returns c = (rw (ne_eqb c.args.mask 0 c.if-mask-eq0.false) (wrote_then (omega arith) c.put_bytes-next.ensures c.put_resets.ensures.0), omega (arith, c.put_bytes-next.ensures.next))
