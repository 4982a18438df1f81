use Rattle.std.proofs.Common.{arith}
use Rattle.laying.specs.Laying.{laid_none, laid_more}
use Rattle.cleaning.proofs.list.lay_unless.Goals as goal

pub returns-then-kept : goal.returns-then-kept
returns-then-kept c = (rw c.if-kept.true (laid_none _ _), omega arith)

pub returns : goal.returns
returns c =
    (rw (c.if-kept.false, ← c.from.ensures) (laid_more c.put-next.ensures c.put_pair.ensures), omega (arith, c.put-next.ensures.ends, c.put_pair.ensures.ends))
