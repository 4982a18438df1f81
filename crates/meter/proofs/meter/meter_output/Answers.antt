-- `meter::meter::meter_output` meets its contract.
use Rattle.std.proofs.Common.{length, sym, ap, ◌∙◌, le-leb}
use Rattle.std.proofs.lemmas.Bool.{lt-leb}
use Rattle.enforcer.specs.Entries.{output_of}
use Rattle.meter.specs.Meter.{station_state}
use Rattle.meter.specs.Entries.{kept, metered}
use Rattle.meter.specs.There.{output_lacks, output_odd, output_there}
use Rattle.meter.specs.declared.signals.Signals.{Signals}
use Rattle.meter.proofs.meter.meter_output.Goals as goal
use Rattle.meter.proofs.meter.meter_output.Goals.{then-station-lt-STATION-via-then-station-lt-STATION, then-station-lt-STATION-via-else-station-lt-STATION+then-totals-lt-TOTALS}

pub returns-in_default : goal.returns-in_default
returns-in_default c =
    let a = c.args in
    record {
      said =
          ap (kept a.station.now a.totals.now) c.no_signals.ensures
          ∙ sym (output_lacks a.reading a.file.now a.marks.now a.station.now a.totals.now _ _ _ c.in_default.ensures);
    }

pub returns-then-station-lt-STATION : goal.returns-then-station-lt-STATION
returns-then-station-lt-STATION c =
    let a = c.args in
    let k = c.in-Some.ensures in
    let odd = output_odd a.reading a.file.now a.marks.now a.station.now k.1 k.2 a.totals.now a.register a.x a.y in
    record {
      said =
          ap (kept a.station.now a.totals.now) c.odd_refusal.ensures
          ∙ sym (odd (elim c.then-station-lt-STATION.branch [
            | then-station-lt-STATION-via-then-station-lt-STATION w ↦ rw (lt-leb 6 (length a.station.now) w.if-station-lt-STATION.true)
            | then-station-lt-STATION-via-else-station-lt-STATION+then-totals-lt-TOTALS w ↦
                rw (le-leb 6 (length a.station.now) w.if-station-lt-STATION.false, lt-leb 2 (length a.totals.now) w.if-totals-lt-TOTALS.true)
          ]));
    }

pub returns : goal.returns
returns c =
    let a = c.args in
    let k = c.in-Some.ensures in
    let o = output_of a.reading a.file.now a.marks.now (station_state a.station.now) a.x a.y in
    record {
      said =
          c.release.ensures.said
          ∙ ap (λ (s : Signals). metered a.station.now a.totals.now a.register s.dispense o.state o.answer) k.0
          ∙ sym (output_there a.reading a.file.now a.marks.now a.station.now k.1 k.2 a.totals.now a.register a.x a.y
          (rw (le-leb 6 (length a.station.now) c.if-station-lt-STATION.false, le-leb 2 (length a.totals.now) c.if-totals-lt-TOTALS.false)));
    }
