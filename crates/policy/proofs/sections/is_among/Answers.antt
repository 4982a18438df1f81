use Rattle.std.proofs.Common.{eq-eqb}
use borrow.Author.Tests.{ne_eqb}
use Rattle.policy.proofs.Laws.{among_turn, among_end}
use Rattle.policy.proofs.sections.is_among.Goals as goal

pub returns-then-tags-i : goal.returns-then-tags-i
returns-then-tags-i c = rw (← c.loop-i.invariant, among_turn _ _ _ c.loop-i-test.true, eq-eqb _ _ c.if-tags-i.true)

pub loop-i-preserved : goal.loop-i-preserved
loop-i-preserved c = rw (← c.loop-i.invariant, among_turn _ _ _ c.loop-i-test.true, ne_eqb _ _ c.if-tags-i.false)

pub returns : goal.returns
returns c = rw (← c.loop-i.invariant, among_end _ _ _ c.loop-i-test.false)
