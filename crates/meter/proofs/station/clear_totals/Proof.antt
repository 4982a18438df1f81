-- `meter::station::clear_totals` meets its contract.
use Rattle.meter.proofs.Laws.{both_cleared}
use Rattle.std.proofs.Common.{rules}
use Rattle.meter.proofs.station.clear_totals.Statement.{statement}
use Rattle.meter.proofs.station.clear_totals.Tie as tie

returns : tie.Need-returns
returns c = both_cleared c.args.totals.now c.requires

pub clear_totals_spec : {M : Type 1} → statement M
clear_totals_spec = tie.close (tie.spec (λ c. search rules) (λ c. search rules) (λ c. search rules) returns)
