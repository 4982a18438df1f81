-- `meter::meter::meter_input` meets its contract: P is set or cleared, and then it is the input half.
use Rattle.std.proofs.Common.{length, sym, ap, ap₂, ◌∙◌, ℕ, le-leb}
use Rattle.std.proofs.lemmas.Bool.{lt-leb}
use Rattle.streams.specs.Answer.{refused}
use Rattle.stepping.specs.declared.state.State.{State}
use Rattle.enforcer.specs.Entries.{input_of}
use Rattle.meter.specs.Meter.{with_pulse}
use Rattle.meter.specs.There.{input_lacks, input_odd, input_there}
use Rattle.meter.specs.declared.signals.Signals.{Signals}
use Rattle.meter.proofs.meter.meter_input.Goals as goal

pub returns-in_default : goal.returns-in_default
returns-in_default c =
    record { said = ap refused c.no_signals.ensures ∙ sym (input_lacks c.args.reading c.args.file.now c.args.marks.now _ _ _ c.in_default.ensures) }

pub returns-then-station-lt-STATION : goal.returns-then-station-lt-STATION
returns-then-station-lt-STATION c =
    let a = c.args in
    let k = c.in-Some.ensures in
    record {
      said =
          ap refused c.odd_refusal.ensures
          ∙ sym (input_odd a.reading a.file.now a.marks.now a.station.now k.1 k.2 _ _ (lt-leb 6 (length a.station.now) c.if-station-lt-STATION.true));
    }

pub returns : goal.returns
returns c =
    let a = c.args in
    let k = c.in-Some.ensures in
    let x = c.with_pulse-z.ensures ∙ ap₂ (λ (w n : ℕ). with_pulse w n a.x) (ap (λ (r : Signals). r.pulse) k.0) c.pulses-n.ensures in
    record {
      said =
          c.input_half.ensures.said
          ∙ ap₂ (λ (s : State) (z : ℕ). input_of a.reading a.file.now a.marks.now s z) c.station_state.ensures x
          ∙ sym (input_there a.reading a.file.now a.marks.now a.station.now k.1 k.2 _ _ (le-leb 6 (length a.station.now) c.if-station-lt-STATION.false));
    }
