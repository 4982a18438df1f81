use Rattle.std.proofs.Common.{arith}
use Rattle.join.specs.Entry.{said}
use Rattle.laying.specs.Laying.{laid_none, laid_more, laid_as}
use Rattle.pairing.proofs.RuleLaws.{left_none, left_more}
use Rattle.join.proofs.counts.lay_left.Goals as goal

pub loop-location-init : goal.loop-location-init
loop-location-init c = record { next = omega arith; laid = laid_as (left_none _ _) (laid_none _ _) }

pub loop-location-preserved : goal.loop-location-preserved
loop-location-preserved c =
    let v = c.loop-location.invariant in
    let e = left_more (said c.args.a.now) (said c.args.b.now) c.loop-location.location in
    record {
      next = omega (arith, c.put-next.ensures.ends);
      laid = laid_as (rw c.left_at.ensures.0 e) (laid_more v.laid c.put-next.ensures);
    }
