-- `meter::station::station_state` meets its contract.
use Rattle.std.proofs.Common.{sym, arith, length-take-le, rules}
use Rattle.meter.proofs.station.station_state.Statement.{statement}
use Rattle.meter.proofs.station.station_state.Tie as tie

slice-aggregate-state-of : tie.Need-slice_bounds-state_of-end
slice-aggregate-state-of c = sym (length-take-le 5 c.args.station.now (omega (arith, c.requires)))

state-of-requires : tie.Need-state_of-requires
state-of-requires c κs = length-take-le 5 c.args.station.now (omega (arith, c.requires))

pub station_state_spec : {M : Type 1} → statement M
station_state_spec = tie.close (tie.spec slice-aggregate-state-of state-of-requires (λ c. search rules))
