-- `meter::station::pulses` meets its contract.
use Rattle.std.proofs.Common.{refl}
use Rattle.meter.specs.Meter.{pulses_of}
use Rattle.meter.proofs.station.pulses.Goals as goal

pub returns : goal.returns
unfolding pulses_of
returns c = refl
