-- The whole promise of each entry of the meter, under one name, and that one answer and one later content alone meet it.
use Rattle.std.specs.Prelude.{◌≡◌, ℕ, Bool, List}
use Rattle.std.proofs.Common.{sym, ap, ◌∙◌}
use Rattle.streams.specs.Answer.{Answer}
use Rattle.enforcer.specs.Entries.{output_of}
use Rattle.stepping.specs.declared.state.State.{State}
use Rattle.meter.specs.Entries.{MeterAnswer, new_refusal, new_station, new_totals, settled, metered, meter_input_of, meter_output_of}
use Rattle.meter.specs.Meter.{station_state}

-- `station` and `totals` are what the lent slices hold before, and `after` and `risen` what they hold then.
pub record MeterNewPromise (station totals : List ℕ) (register r : ℕ) (after risen : List ℕ) : Type 0 where
  pub said : r ≡ new_refusal station totals
  pub placed : after ≡ new_station station totals register
  pub cleared : risen ≡ new_totals station totals

-- The whole promise of the first half: its answer.
pub record MeterInputPromise (reading : ℕ) (file marks station : List ℕ) (register x : ℕ) (r : Answer ℕ) : Type 0 where
  pub said : r ≡ meter_input_of reading file marks station register x

-- The whole promise of the second half: its answer, and what the station and the totals are then.
pub record MeterOutputPromise (reading : ℕ) (file marks station totals : List ℕ) (register x y : ℕ) (r : Answer ℕ) (after risen : List ℕ) : Type 0 where
  pub said : record { answer = r; station = after; totals = risen } ≡ meter_output_of reading file marks station totals register x y

-- Of the part past the output half.
pub record SettledPromise (station totals : List ℕ) (next : State) (register : ℕ) (on : Bool) (y : ℕ) (r : Answer ℕ) (after risen : List ℕ) : Type 0 where
  pub said : record { answer = r; station = after; totals = risen } ≡ settled station totals next register on y

-- Of the second half past the refusals of its own: what follows from what the output half answers.
pub record ReleasePromise (reading : ℕ) (file marks station totals : List ℕ) (register x y weight : ℕ) (r : Answer ℕ) (after risen : List ℕ) : Type 0 where
  pub said :
      let o = output_of reading file marks (station_state station) x y in
      record { answer = r; station = after; totals = risen } ≡ metered station totals register weight o.state o.answer

-- One answer alone sets a meter up as promised, and one later content of each slice.
pub meter_new_one : {station totals : List ℕ} {register r q : ℕ} {after risen also other : List ℕ} →
    MeterNewPromise station totals register r after risen → MeterNewPromise station totals register q also other →
    (r ≡ q) × (after ≡ also) × (risen ≡ other)
meter_new_one h g = (h.said ∙ sym g.said, h.placed ∙ sym g.placed, h.cleared ∙ sym g.cleared)

module _ {reading : ℕ} {file marks station : List ℕ} {register x : ℕ} {r q : Answer ℕ} where
  -- One answer alone meets the promise of the first half.
  pub meter_input_one : MeterInputPromise reading file marks station register x r → MeterInputPromise reading file marks station register x q → r ≡ q
  meter_input_one h g = h.said ∙ sym g.said

  -- One answer alone meets the promise of the second half, and one later content of each slice.
  pub meter_output_one : {totals : List ℕ} {y : ℕ} {after risen also other : List ℕ} →
      MeterOutputPromise reading file marks station totals register x y r after risen → MeterOutputPromise reading file marks station totals register x y q also other →
      (r ≡ q) × (after ≡ also) × (risen ≡ other)
  meter_output_one h g =
      let e = h.said ∙ sym g.said in
      (ap (λ (z : MeterAnswer). z.answer) e, ap (λ (z : MeterAnswer). z.station) e, ap (λ (z : MeterAnswer). z.totals) e)
