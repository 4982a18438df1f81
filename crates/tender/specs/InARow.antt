-- What the annex does not say: "not by two enforcers in a row". Two policies, each with its own enforcer, the second fed with what the first released, may
-- release something else than their join does, or a stream that is not permitted. Two such pairs, byte by byte, and what is said to them, by computation
-- and under each reading. The page for a lawyer is docs/ANNEX.md.
use Rattle.std.specs.Prelude.{◌≡◌, refl, ℕ, replicate}
use mathlib.Core.List.{List, [], ◌∷◌, map}
use Rattle.policy.specs.Rules as Rules
use Rattle.policy.specs.Check.{reading_refusal}
use Rattle.tender.specs.Cases.{Case, prepared, enforced, summary, released, said, run}
use Rattle.tender.specs.Granted.{each_reading}
use Rattle.tender.specs.Demand3.{JoinMade}
use Rattle.join.specs.Computing.{the_join}
use Rattle.prepare.specs.Computing.{the_file, the_check, a_step, the_marks, the_run, the_bytes}

-- The outputs are the pump P, in bit 0, and the valve V, in bit 1: event 10 is the pump alone, 20 the valve alone, 30 both. The first clause: the
-- pump runs only with the valve open.
abbrev pub pump_with_valve : List ℕ
pump_with_valve =
    0x00 ∷ 0x02 ∷ 0x50 ∷ 0x56 ∷ 0x00 ∷ 0x01 ∷ 0x00 ∷ 0x00 ∷ 0x02
    ∷ 0x00 ∷ 0x00 ∷ 0x00 ∷ 0x03 ∷ 0x01 ∷ 0x00 ∷ 0xFF
    ∷ 0x00 ∷ 0x00 ∷ 0x00 ∷ 0x00 ∷ 0x00 ∷ 0x00 ∷ 0x00 ∷ []

-- The pump stays off.
abbrev pub pump_off : List ℕ
pump_off =
    0x00 ∷ 0x02 ∷ 0x50 ∷ 0x56 ∷ 0x00 ∷ 0x01 ∷ 0x00 ∷ 0x00 ∷ 0x02
    ∷ 0x00 ∷ 0x00 ∷ 0x00 ∷ 0x01 ∷ 0x01 ∷ 0x00 ∷ 0xFF
    ∷ 0x00 ∷ 0x00 ∷ 0x00 ∷ 0x00 ∷ 0x00 ∷ 0x00 ∷ 0x00 ∷ []

-- The valve stays shut.
abbrev pub valve_shut : List ℕ
valve_shut =
    0x00 ∷ 0x02 ∷ 0x50 ∷ 0x56 ∷ 0x00 ∷ 0x01 ∷ 0x00 ∷ 0x00 ∷ 0x02
    ∷ 0x00 ∷ 0x00 ∷ 0x00 ∷ 0x02 ∷ 0x02 ∷ 0x00 ∷ 0xFF
    ∷ 0x00 ∷ 0x00 ∷ 0x00 ∷ 0x00 ∷ 0x00 ∷ 0x00 ∷ 0x00 ∷ []

-- The pump runs only with the valve open, and the pump stays off.
abbrev pub with_pump_off : List ℕ
with_pump_off =
    0x00 ∷ 0x02 ∷ 0x50 ∷ 0x56 ∷ 0x00 ∷ 0x01 ∷ 0x00 ∷ 0x00 ∷ 0x04
    ∷ 0x00 ∷ 0x00 ∷ 0x00 ∷ 0x03 ∷ 0x01 ∷ 0x00 ∷ 0xFF
    ∷ 0x00 ∷ 0x00 ∷ 0x00 ∷ 0x03 ∷ 0x01 ∷ 0x00 ∷ 0xFF
    ∷ 0x00 ∷ 0x00 ∷ 0x00 ∷ 0x01 ∷ 0x01 ∷ 0x00 ∷ 0xFF
    ∷ 0x00 ∷ 0x00 ∷ 0x00 ∷ 0x00 ∷ 0x00 ∷ 0x00 ∷ 0x00 ∷ []

-- The pump runs only with the valve open, and the valve stays shut.
abbrev pub with_valve_shut : List ℕ
with_valve_shut =
    0x00 ∷ 0x02 ∷ 0x50 ∷ 0x56 ∷ 0x00 ∷ 0x01 ∷ 0x00 ∷ 0x00 ∷ 0x03
    ∷ 0x00 ∷ 0x00 ∷ 0x00 ∷ 0x03 ∷ 0x01 ∷ 0x00 ∷ 0xFF
    ∷ 0x00 ∷ 0x00 ∷ 0x00 ∷ 0x02 ∷ 0x02 ∷ 0x00 ∷ 0xFF
    ∷ 0x00 ∷ 0x00 ∷ 0x00 ∷ 0x00 ∷ 0x00 ∷ 0x00 ∷ 0x00 ∷ []

-- These bytes are what the join makes of the two pairs.
pub both_made : JoinMade pump_with_valve pump_off with_pump_off × JoinMade pump_with_valve valve_shut with_valve_shut
unfolding the_file the_check the_bytes the_join Rules.rests
both_made = (
  record { slice = replicate 37 0; size = 37; given = refl; written = refl },
  record { slice = replicate 30 0; size = 30; given = refl; written = refl },
)

-- Neither is hopeless; and the first as an example of the annex: what it releases passes the enforcers of both parts. It is not what the first part alone
-- would release, and that does not pass the join.
unfoldable pub annex_cases : ℕ → List Case
annex_cases reading =
    record { reading = reading; file = with_pump_off; asked = prepared; expected = summary 0 1 1 }
    ∷ record { reading = reading; file = with_valve_shut; asked = prepared; expected = summary 0 1 1 }
    ∷ record {
      reading = reading;
      file = with_pump_off;
      asked = enforced (0x10 ∷ 0x30 ∷ 0x20 ∷ 0x00 ∷ []);
      expected = released (0x00 ∷ 0x20 ∷ 0x20 ∷ 0x00 ∷ []);
    }
    ∷ record {
      reading = reading;
      file = pump_with_valve;
      asked = enforced (0x00 ∷ 0x20 ∷ 0x20 ∷ 0x00 ∷ []);
      expected = released (0x00 ∷ 0x20 ∷ 0x20 ∷ 0x00 ∷ []);
    }
    ∷ record {
      reading = reading;
      file = pump_off;
      asked = enforced (0x00 ∷ 0x20 ∷ 0x20 ∷ 0x00 ∷ []);
      expected = released (0x00 ∷ 0x20 ∷ 0x20 ∷ 0x00 ∷ []);
    }
    ∷ record {
      reading = reading;
      file = pump_with_valve;
      asked = enforced (0x10 ∷ 0x30 ∷ 0x20 ∷ 0x00 ∷ []);
      expected = released (0x30 ∷ 0x30 ∷ 0x20 ∷ 0x00 ∷ []);
    }
    ∷ record {
      reading = reading;
      file = with_pump_off;
      asked = enforced (0x30 ∷ 0x30 ∷ 0x20 ∷ 0x00 ∷ []);
      expected = released (0x20 ∷ 0x20 ∷ 0x20 ∷ 0x00 ∷ []);
    }
    ∷ []

-- In each of them, what is said is what is expected, under each reading.
pub annex-cases :
    (reading : ℕ) → reading_refusal reading ≡ 0 →
    map (λ c. said c.reading c.file c.asked) (annex_cases reading) ≡ map (λ c. c.expected) (annex_cases reading)
unfolding the_file the_check a_step the_marks the_run annex_cases
annex-cases =
    each_reading (λ reading. map (λ c. said c.reading c.file c.asked) (annex_cases reading) ≡ map (λ c. c.expected) (annex_cases reading)) refl refl

-- What A's enforcer releases for the events, from the start and with the marks of prepare.
abbrev pub alone : (reading : ℕ) (a events : List ℕ) → List ℕ
alone reading a events = (run reading a events).out

-- What two in a row release: B's enforcer reads what A's released.
abbrev pub in_a_row : (reading : ℕ) (a b events : List ℕ) → List ℕ
in_a_row reading a b events = alone reading b (alone reading a events)

-- The pump alone: the first clause opens the valve. Then the second stops the pump, or it shuts the valve again. The joins stop the pump at once.
pub record PumpAlone (reading : ℕ) : Type 0 where
  pub first : alone reading pump_with_valve (0x10 ∷ []) ≡ 0x30 ∷ []
  pub then_pump_off : in_a_row reading pump_with_valve pump_off (0x10 ∷ []) ≡ 0x20 ∷ []
  pub joined_pump_off : alone reading with_pump_off (0x10 ∷ []) ≡ 0x00 ∷ []
  pub then_valve_shut : in_a_row reading pump_with_valve valve_shut (0x10 ∷ []) ≡ 0x10 ∷ []
  pub joined_valve_shut : alone reading with_valve_shut (0x10 ∷ []) ≡ 0x00 ∷ []

-- All of `PumpAlone` holds, under each reading.
pub pump_alone : (reading : ℕ) → reading_refusal reading ≡ 0 → PumpAlone reading
unfolding the_file the_check a_step the_marks the_run
pump_alone =
    each_reading PumpAlone
    (record { first = refl; then_pump_off = refl; joined_pump_off = refl; then_valve_shut = refl; joined_valve_shut = refl })
    (record { first = refl; then_pump_off = refl; joined_pump_off = refl; then_valve_shut = refl; joined_valve_shut = refl })
