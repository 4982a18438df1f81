use Rattle.std.proofs.Common.{arith}
use Rattle.laying.specs.Laying.{left_start, laid_as}
use Rattle.laying.proofs.Laws.{left_next, left_all, range_bytes}
use Rattle.laying.proofs.lay.copy.Goals as goal

pub loop-byte-init : goal.loop-byte-init
loop-byte-init c = record { next = omega arith; left = left_start _ _ _ }

pub loop-byte-preserved : goal.loop-byte-preserved
loop-byte-preserved c = record {
  next = omega (arith, c.put-next.ensures.ends);
  left = left_next _ c.loop-byte-test.true c.loop-byte.invariant.left c.put-next.ensures;
}

pub returns : goal.returns
returns c = laid_as (range_bytes _ _ _ c.requires.0) (left_all _ c.loop-byte-test.false c.loop-byte.invariant.left)
