use Rattle.std.proofs.Common.{refl, arith}
use Rattle.laying.specs.Laying.{left_turn}
use Rattle.cleaning.proofs.LayLaws.{locations_turn}
use Rattle.cleaning.proofs.list.lay_locations.Goals as goal

pub loop-location-preserved : goal.loop-location-preserved
loop-location-preserved c =
    let l = c.loop-location in
    let w = c.lay_unless-next.ensures in
    record {
      next = omega (arith, w.1);
      left = left_turn l.invariant.left (locations_turn c.args.entered.now l.location c.loop-location-test.true refl) w.0;
    }
