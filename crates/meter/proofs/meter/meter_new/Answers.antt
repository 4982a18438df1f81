-- `meter::meter::meter_new` meets its contract.
use Rattle.std.proofs.Common.{length, ap, ◌∙◌, le-leb}
use Rattle.std.proofs.lemmas.Bool.{lt-leb}
use Rattle.stepping.specs.declared.state.State.{State}
use Rattle.meter.specs.Meter.{with_station}
use Rattle.meter.specs.Entries.{new_refusal, new_station, new_totals}
use Rattle.meter.proofs.meter.meter_new.Goals as goal
use Rattle.meter.proofs.meter.meter_new.Goals.{then-station-lt-STATION-via-then-station-lt-STATION, then-station-lt-STATION-via-else-station-lt-STATION+then-totals-lt-TOTALS}

pub returns : goal.returns
unfolding new_refusal new_station new_totals
returns c =
    let a = c.args in
    let e = le-leb 6 (length a.station.now) c.if-station-lt-STATION.false in
    let g = le-leb 2 (length a.totals.now) c.if-totals-lt-TOTALS.false in
    record {
      said = rw (e, g);
      placed = rw (e, g) (c.put_station.ensures ∙ ap (λ (s : State). with_station a.station.now s a.register) c.start.ensures);
      cleared = rw (e, g) c.clear_totals.ensures;
    }

pub returns-then-station-lt-STATION : goal.returns-then-station-lt-STATION
unfolding new_refusal new_station new_totals
returns-then-station-lt-STATION c =
    elim c.then-station-lt-STATION.branch [
      | then-station-lt-STATION-via-then-station-lt-STATION w ↦
          let e = lt-leb 6 (length c.args.station.now) w.if-station-lt-STATION.true in
          record { said = rw e; placed = rw e; cleared = rw e }
      | then-station-lt-STATION-via-else-station-lt-STATION+then-totals-lt-TOTALS w ↦
          let e = le-leb 6 (length c.args.station.now) w.if-station-lt-STATION.false in
          let g = lt-leb 2 (length c.args.totals.now) w.if-totals-lt-TOTALS.true in
          record { said = rw (e, g); placed = rw (e, g); cleared = rw (e, g) }
    ]
