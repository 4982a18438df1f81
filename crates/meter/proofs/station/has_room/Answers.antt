-- `meter::station::has_room` meets its contract.
use Rattle.std.proofs.Common.{◌∙◌}
use Rattle.meter.specs.Meter.{fits}
use Rattle.meter.proofs.station.has_room.Goals as goal

pub returns-then-billed : goal.returns-then-billed
unfolding fits
returns-then-billed c = c.fits_in.ensures ∙ rw c.if-billed.true

pub returns : goal.returns
unfolding fits
returns c = c.fits_in-2.ensures ∙ rw c.if-billed.false
