-- What an accepted tick is: both halves of the library accepted it, the state is the next one, the register is the last reading, and the pulses went into a
-- total.
use Rattle.std.specs.Prelude.{◌≡◌, ℕ, zero, suc, Bool, true, false, cond, ◌&&◌, List, ◌∷◌, length, drop, refl}
use Rattle.std.proofs.Common.{sym, ap, ◌∙◌, arith, take_at}
use Rattle.streams.specs.Answer.{Answer, refused, gives}
use Rattle.enforcer.specs.Entries.{OutputAnswer, input_of, output_of}
use Rattle.stepping.specs.Five.{state_words, state_in, words_in}
use Rattle.bays.specs.Halves.{output_four}
use Rattle.bays.specs.Odd.{odd_refusal}
use Rattle.meter.specs.Meter.{is_station, are_totals, station_state, last_reading, with_station, pulses_of, with_pulse, is_on, risen, fits}
use Rattle.meter.specs.Entries.{MeterAnswer, kept, settled, metered, past, meter_refusal, weight_p, weight_d, meter_input_of, meter_output_of}
use Rattle.stepping.specs.declared.state.State.{State}

-- The state in a station's numbers is the one that was put there.
pub station_back : (station : List ℕ) (s : State) (register : ℕ) → length s.clocks ≡ 4 → station_state (with_station station s register) ≡ s
station_back station s register e = ap state_in (take_at (state_words s) (register ∷ drop 6 station) 5 (omega arith)) ∙ words_in s e

not_given : {n y : ℕ} → ◌≡◌ {A = Answer ℕ} (refused n) (gives y) → ⊥
not_given e = let z : ◌≡◌ {A = ℕ} 0 1 = cc in omega arith

module _ (reading : ℕ) (file marks station : List ℕ) where
  -- P is set in x exactly when pulses is not 0, and so the input half was asked.
  pub accepted_input :
      (register x : ℕ) {z : ℕ} → meter_input_of reading file marks station register x ≡ gives z →
      input_of reading file marks (station_state station) (with_pulse (weight_p reading file) (pulses_of register (last_reading station)) x) ≡ gives z
  unfolding meter_input_of
  accepted_input register x {z} = first (meter_refusal reading file)
    where
      a : Answer ℕ
      a = input_of reading file marks (station_state station) (with_pulse (weight_p reading file) (pulses_of register (last_reading station)) x)

      second : (t : Bool) → cond t a (refused (odd_refusal reading file marks true)) ≡ gives z → a ≡ gives z
      second true e = e
      second false e = absurd (not_given e)

      first : (n : ℕ) → past {A = Answer ℕ} n refused (cond (is_station station) a (refused (odd_refusal reading file marks true))) ≡ gives z → a ≡ gives z
      first zero e = second (is_station station) e
      first (suc n) e = absurd (not_given e)

  module _ (totals : List ℕ) (register x y : ℕ) where
    abbrev half : OutputAnswer
    half = output_of reading file marks (station_state station) x y

    -- The output half released z, the station goes on, and the pulses went into a total that has room for them.
    pub record Accepted (z : ℕ) (a : MeterAnswer) : Type 0 where
      pub released : half.answer ≡ gives z
      pub next : a.station ≡ with_station station half.state register
      pub sums : a.totals ≡ risen totals (is_on (weight_d reading file) z) (pulses_of register (last_reading station))
      pub room : fits totals (is_on (weight_d reading file) z) (pulses_of register (last_reading station)) ≡ true

    -- A tick for which the second half gives an output is accepted so.
    pub accepted_output :
        {z : ℕ} → (meter_output_of reading file marks station totals register x y).answer ≡ gives z →
        Accepted z (meter_output_of reading file marks station totals register x y)
    unfolding meter_output_of settled
    accepted_output {z} = first (meter_refusal reading file)
      where
        n : ℕ
        n = pulses_of register (last_reading station)

        last : (y : ℕ) → half.answer ≡ gives y → (t : Bool) → fits totals (is_on (weight_d reading file) y) n ≡ t →
            let a =
            cond t
            (record { answer = gives y; station = with_station station half.state register; totals = risen totals (is_on (weight_d reading file) y) n })
            (kept station totals 27)
            in
            a.answer ≡ gives z → Accepted z a
        last y h true f e =
            let s : y ≡ z = cc in
            record {
              released = h ∙ e;
              next = refl;
              sums = ap (λ (w : ℕ). risen totals (is_on (weight_d reading file) w) n) s;
              room = ap (λ (w : ℕ). fits totals (is_on (weight_d reading file) w) n) (sym s) ∙ f;
            }
        last y h false f e = absurd (not_given e)

        third : (b : Answer ℕ) → half.answer ≡ b →
            let a = metered station totals register (weight_d reading file) half.state b in a.answer ≡ gives z → Accepted z a
        third (refused m) h e = absurd (not_given e)
        third (gives y) h e = last y h (fits totals (is_on (weight_d reading file) y) n) refl e

        second : (t : Bool) →
            let a =
            cond t (metered station totals register (weight_d reading file) half.state half.answer) (kept station totals (odd_refusal reading file marks false))
            in
            a.answer ≡ gives z → Accepted z a
        second true e = third half.answer refl e
        second false e = absurd (not_given e)

        first : (m : ℕ) →
            let a =
            past m (kept station totals)
            (cond (is_station station && are_totals totals) (metered station totals register (weight_d reading file) half.state half.answer)
            (kept station totals (odd_refusal reading file marks false)))
            in
            a.answer ≡ gives z → Accepted z a
        first zero e = second (is_station station && are_totals totals) e
        first (suc m) e = absurd (not_given e)

    -- The state after it is the one that the output half handed back.
    pub accepted_state : {z : ℕ} {a : MeterAnswer} → Accepted z a → station_state a.station ≡ half.state
    accepted_state h =
        ap station_state h.next ∙ station_back station half.state register (output_four reading file marks (station_state station) x y refl)
