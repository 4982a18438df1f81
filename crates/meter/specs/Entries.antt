-- What the entries of the meter answer, for any bytes, marks, numbers and values, and what the lent slices hold then. Of the library they name its
-- entries' answers, `input_of` and `output_of`, and what comes before 26 and before 14 in the order; what these are made of is not asked.
use Rattle.std.specs.Prelude.{ℕ, zero, suc, Bool, true, false, cond, ◌&&◌, List, ◌∷◌, drop}
use Rattle.streams.specs.Answer.{Answer, refused, gives, ◌or_else◌, unless}
use Rattle.policy.specs.File.{policy_of}
use Rattle.policy.specs.Check.{refusal_under, among}
use Rattle.policy.specs.Signals.{weight_of}
use Rattle.enforcer.specs.Entries.{input_of, output_of}
use Rattle.stepping.specs.Code.{start_state}
use Rattle.bays.specs.Odd.{odd_refusal}
use Rattle.meter.specs.Meter.{is_station, are_totals, station_state, last_reading, with_station, pulses_of, with_pulse, is_on, risen, fits}
use Rattle.stepping.specs.declared.state.State.{State}

-- "The first reading is given when the totals are set up, both at 0." 14: "the slice to be written is too short", and nothing is written.
unfoldable pub new_refusal : List ℕ → List ℕ → ℕ
new_refusal station totals = unless (is_station station && are_totals totals) 14

-- The station that is set up: the start and the first reading; with a slice too short it stays as it was.
unfoldable pub new_station : List ℕ → List ℕ → ℕ → List ℕ
new_station station totals register = cond (is_station station && are_totals totals) (with_station station start_state register) station

-- The totals that are set up, both at 0; with a slice too short they stay as they were.
unfoldable pub new_totals : List ℕ → List ℕ → List ℕ
new_totals station totals = cond (is_station station && are_totals totals) (0 ∷ 0 ∷ drop 2 totals) totals

-- What the second half answers, and what the station and the totals are then.
pub record MeterAnswer : Type 0 where
  pub answer : Answer ℕ
  pub station : List ℕ
  pub totals : List ℕ

-- "A refused tick changes no total, last reading or state."
abbrev pub kept : List ℕ → List ℕ → ℕ → MeterAnswer
kept station totals n = record { answer = refused n; station = station; totals = totals }

-- The output half released y, and the state after it is s: the pulses go into the total, and the register is the last reading; or 27, "checked before
-- any change, after the tick's own refusals".
unfoldable pub settled : (station totals : List ℕ) → State → (register : ℕ) → (on : Bool) → (y : ℕ) → MeterAnswer
settled station totals s register on y =
    cond (fits totals on (pulses_of register (last_reading station)))
    (record { answer = gives y; station = with_station station s register; totals = risen totals on (pulses_of register (last_reading station)) })
    (kept station totals 27)

-- What follows from what the output half answers. D is looked for in the output that it released.
abbrev pub metered : (station totals : List ℕ) → (register weight : ℕ) → State → Answer ℕ → MeterAnswer
metered station totals register weight s (refused n) = kept station totals n
metered station totals register weight s (gives y) = settled station totals s register (is_on weight y) y

-- A refusal, or what follows where there is none.
abbrev pub past : {A : Type 0} → ℕ → (ℕ → A) → A → A
past zero refusal a = a
past (suc n) refusal a = refusal (suc n)

-- The tags: P and D.
abbrev pub tag_p : ℕ
tag_p = 80

-- The tag of the output that is on while pulses are billed.
abbrev pub tag_d : ℕ
tag_d = 68

module _ (reading : ℕ) (file : List ℕ) where
  -- "26 if the policy has no input P or no output D, after 9"
  unfoldable pub meter_refusal : ℕ
  meter_refusal = refusal_under reading file or_else unless (among tag_p (policy_of reading file).inputs && among tag_d (policy_of reading file).outputs) 26

  -- The weight of P in a value of the inputs.
  abbrev pub weight_p : ℕ
  weight_p = weight_of tag_p (policy_of reading file).inputs

  -- The weight of D in a value of the outputs.
  abbrev pub weight_d : ℕ
  weight_d = weight_of tag_d (policy_of reading file).outputs

  module _ (marks : List ℕ) where
    module _ (station : List ℕ) where
      -- The first half: P is set or cleared in x, and then it is the input half. It changes nothing. Fewer than six numbers are no station: 16 in its
      -- place in the order.
      unfoldable pub meter_input_of : ℕ → ℕ → Answer ℕ
      meter_input_of register x =
          past meter_refusal refused
          (cond (is_station station)
          (input_of reading file marks (station_state station) (with_pulse weight_p (pulses_of register (last_reading station)) x))
          (refused (odd_refusal reading file marks true)))

      -- The second half: the output half, and then the pulses. It writes both slices: 14 where one of them is too short, in its place in the order.
      unfoldable pub meter_output_of : List ℕ → ℕ → ℕ → ℕ → MeterAnswer
      meter_output_of totals register x y =
          past meter_refusal (kept station totals)
          (cond (is_station station && are_totals totals)
          (let o = output_of reading file marks (station_state station) x y in metered station totals register weight_d o.state o.answer)
          (kept station totals (odd_refusal reading file marks false)))
