-- "Each tick brings the meter's 16-bit register." A station with a meter is six numbers, its state and the last accepted reading; its totals are two,
-- the billed one and the unbilled one. The slices may be longer: what stands past them stays.
use Rattle.std.specs.Prelude.{ℕ, ◌+◌, ◌-◌, ◌%◌, Bool, cond, not, List, ◌∷◌, ◌++◌, length, take, drop, ◌==◌, bit_and, bit_or, nat_le, slice_index}
use Rattle.stepping.specs.Five.{state_words, state_in}
use Rattle.stepping.specs.declared.state.State.{State}

-- The slice has the six numbers of a station.
abbrev pub is_station : List ℕ → Bool
is_station station = nat_le 6 (length station)

-- The slice has the two totals.
abbrev pub are_totals : List ℕ → Bool
are_totals totals = nat_le 2 (length totals)

-- The state in the first five numbers.
abbrev pub station_state : List ℕ → State
station_state station = state_in (take 5 station)

-- The last accepted reading, the sixth number.
abbrev pub last_reading : List ℕ → ℕ
last_reading station = slice_index station 5

-- The slice with this state and reading.
abbrev pub with_station : List ℕ → State → ℕ → List ℕ
with_station station s register = state_words s ++ (register ∷ drop 6 station)

-- The billed total, the first of the two.
abbrev pub billed : List ℕ → ℕ
billed totals = slice_index totals 0

-- The unbilled total, the second of the two.
abbrev pub unbilled : List ℕ → ℕ
unbilled totals = slice_index totals 1

-- "The pulses of a tick are this reading less the last, modulo 65,536".
unfoldable pub pulses_of : ℕ → ℕ → ℕ
pulses_of register last = (register + (65536 - last)) % 65536

-- "Input tag P is set, before the input half, exactly when pulses is not 0": so it is cleared where there are none, whatever x had there. The other bits
-- of x stay.
unfoldable pub with_pulse : (weight pulses x : ℕ) → ℕ
with_pulse weight pulses x = cond (pulses == 0) (bit_and x (255 - weight)) (bit_or x weight)

-- The signal of this weight is on in a value.
abbrev pub is_on : ℕ → ℕ → Bool
is_on weight value = not (bit_and value weight == 0)

-- "The billed total rises by the pulses whenever the released output with tag D is on; the others go into an unbilled total."
unfoldable pub risen : List ℕ → Bool → ℕ → List ℕ
risen totals on n = cond on ((billed totals + n) ∷ unbilled totals ∷ drop 2 totals) (billed totals ∷ (unbilled totals + n) ∷ drop 2 totals)

-- No "total would pass 4,294,967,295".
unfoldable pub fits : List ℕ → Bool → ℕ → Bool
fits totals on n = nat_le (cond on (billed totals) (unbilled totals) + n) 4294967295
