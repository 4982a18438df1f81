use Rattle.std.proofs.Common.{refl, arith}
use Rattle.policy.specs.File.{pairs_from}
use Rattle.policy.proofs.Laws.{pairs_more}
use Rattle.policy.proofs.sections.ceilings_of.Goals as goal

pub loop-i-init : goal.loop-i-init
unfolding pairs_from
loop-i-init c = refl

pub loop-i-preserved : goal.loop-i-preserved
loop-i-preserved c = rw (c.loop-i.invariant, c.pair_at.ensures.0) (pairs_more _ _ _ (omega arith))
