-- By which numbers the entries of the meter refuse: none is above 27.
use Rattle.std.specs.Prelude.{ℕ, zero, suc, ◌≤◌, Bool, true, false, cond, ◌&&◌, List, refl}
use Rattle.std.proofs.Common.{arith}
use Rattle.streams.specs.Answer.{Answer, refused, gives, UpTo}
use Rattle.streams.specs.AnswerLaws.{unless_le, else_le}
use Rattle.policy.specs.File.{policy_of}
use Rattle.policy.specs.Check.{refusal_under, among}
use Rattle.policy.specs.CheckLaws.{under_le}
use Rattle.enforcer.specs.Entries.{OutputAnswer, input_of, output_of}
use Rattle.enforcer.specs.Refusals as Half
use Rattle.bays.specs.Odd.{odd_refusal, odd_some, odd_le}
use Rattle.meter.specs.Meter.{is_station, are_totals, station_state, last_reading, with_station, pulses_of, with_pulse, is_on, risen, fits}
use Rattle.meter.specs.Entries.{kept, settled, metered, past, tag_p, tag_d, meter_refusal, weight_p, weight_d, meter_input_of, meter_output_of}

module _ (reading : ℕ) (file : List ℕ) where
  meter_le : meter_refusal reading file ≤ 27
  unfolding meter_refusal
  meter_le =
      else_le {a = refusal_under reading file} (omega (arith, under_le reading file))
      (unless_le (among tag_p (policy_of reading file).inputs && among tag_d (policy_of reading file).outputs) 26 27 refl)

  module _ (marks : List ℕ) where
    odd_up_to : (two : Bool) → UpTo {A = ℕ} 27 (refused (odd_refusal reading file marks two))
    odd_up_to two = (odd_some reading file marks two, omega (arith, odd_le reading file marks two))

    wider : (a : Answer ℕ) → UpTo 22 a → UpTo 27 a
    wider (refused n) h = (h.0, omega arith)
    wider (gives v) h = tt

    module _ (station : List ℕ) where
      -- The first half refuses by the numbers 1 to 27 alone.
      pub input_up_to : (register x : ℕ) → UpTo 27 (meter_input_of reading file marks station register x)
      unfolding meter_input_of
      input_up_to register x = first (meter_refusal reading file) meter_le
        where
          a : Answer ℕ
          a = input_of reading file marks (station_state station) (with_pulse (weight_p reading file) (pulses_of register (last_reading station)) x)

          second : (t : Bool) → UpTo 27 (cond t a (refused (odd_refusal reading file marks true)))
          second true = wider a (Half.input_up_to reading file marks (station_state station) (with_pulse (weight_p reading file) (pulses_of register (last_reading station)) x))
          second false = odd_up_to true

          first : (n : ℕ) → n ≤ 27 → UpTo 27 (past n refused (cond (is_station station) a (refused (odd_refusal reading file marks true))))
          first zero l = second (is_station station)
          first (suc n) l = (omega arith, l)

      -- The second half refuses by the numbers 1 to 27 alone.
      pub output_up_to : (totals : List ℕ) (register x y : ℕ) → UpTo 27 (meter_output_of reading file marks station totals register x y).answer
      unfolding meter_output_of settled
      output_up_to totals register x y = first (meter_refusal reading file) meter_le
        where
          o : OutputAnswer
          o = output_of reading file marks (station_state station) x y

          third : (a : Answer ℕ) → UpTo 22 a → UpTo 27 (metered station totals register (weight_d reading file) o.state a).answer
          third (refused n) h = (h.0, omega arith)
          third (gives z) h = go (fits totals (is_on (weight_d reading file) z) (pulses_of register (last_reading station)))
            where
              n : ℕ
              n = pulses_of register (last_reading station)

              go : (t : Bool) →
                  UpTo 27
                  (cond t
                  (record { answer = gives z; station = with_station station o.state register; totals = risen totals (is_on (weight_d reading file) z) n })
                  (kept station totals 27)).answer
              go true = tt
              go false = (omega arith, omega arith)

          second : (t : Bool) →
              UpTo 27
              (cond t (metered station totals register (weight_d reading file) o.state o.answer) (kept station totals (odd_refusal reading file marks false))).answer
          second true = third o.answer (Half.output_up_to reading file marks (station_state station) x y)
          second false = odd_up_to false

          first : (n : ℕ) → n ≤ 27 →
              UpTo 27
              (past n (kept station totals)
              (cond (is_station station && are_totals totals)
              (metered station totals register (weight_d reading file) o.state o.answer) (kept station totals (odd_refusal reading file marks false)))
              ).answer
          first zero l = second (is_station station && are_totals totals)
          first (suc n) l = (omega arith, l)
