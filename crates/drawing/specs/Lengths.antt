-- How long the lines are; what is shown decides, and not the values.
-- In order: lines of values, of a time and of declarations; of an event and of a change; the later lines; the whole text, its parts, its least length
-- and its greatest.
use Rattle.std.specs.Prelude.{◌≡◌, Bool, true, false, cond, ℕ, ◌+◌, ◌*◌, ◌/◌, ◌%◌, ◌≤◌, ◌<◌, eqb, length, get_or, drop}
use Rattle.std.proofs.Math.Path.{refl}
use Rattle.std.proofs.Common.{sym, ap, ◌∙◌, add-one, drop_of_length-le, drop-cons, eqb-true, ne_eqb}
use mathlib.Core.List.{List, [], ◌∷◌, ◌++◌}
use native.Mathlib.Omega.{arith}
use Rattle.std.specs.Int.Bits.{bit_xor}
use Rattle.std.proofs.Math.ListN.{length-append}
use Rattle.std.proofs.lemmas.Bool.{eqb-false}
use Rattle.texts.specs.Decimal.{decimal_one, decimal_short}
use Rattle.drawing.specs.Wave.{var_line, var_lines, time_line, value_line, value_lines, event_lines, change_lines, later_lines, wave_text}
use Rattle.drawing.specs.Streams.{opening, body, text_some, text_none}
use Rattle.drawing.specs.Under.{time_length, event_length, opening_length, values_turn}

line_length : (tag shown values : ℕ) → length (value_line tag shown values) ≡ shown % 2 * 3
line_length tag shown values = go (eqb (shown % 2) 1) refl
  where
    go : (t : Bool) → eqb (shown % 2) 1 ≡ t → length (cond t ((48 + values % 2) ∷ tag ∷ 10 ∷ []) []) ≡ shown % 2 * 3
    go true e = omega (arith, eqb-true (shown % 2) 1 e)
    go false e = omega (arith, eqb-false (shown % 2) 1 e)

-- From signal i on: three bytes if it is shown, and the lines of the later signals.
pub values_length_turn : (tags : List ℕ) (i shown : ℕ) → i < length tags →
    length (value_lines (drop i tags) shown 0) ≡ shown % 2 * 3 + length (value_lines (drop (i + 1) tags) (shown / 2) 0)
values_length_turn tags i shown h =
    ap length (values_turn tags i shown 0 h) ∙ length-append (value_line (get_or tags i 0) shown 0) (value_lines (drop (i + 1) tags) (shown / 2) 0)
    ∙ rw (line_length (get_or tags i 0) shown 0)

values_length : (tags : List ℕ) (shown values : ℕ) → length (value_lines tags shown values) ≡ length (value_lines tags shown 0)
unfolding value_lines
values_length [] shown values = refl
values_length (tag ∷ tags) shown values =
    length-append (value_line tag shown values) (value_lines tags (shown / 2) (values / 2))
    ∙ rw (line_length tag shown values, ← line_length tag shown 0, values_length tags (shown / 2) (values / 2))
    (sym (length-append (value_line tag shown 0) (value_lines tags (shown / 2) 0)))

-- Three bytes a signal at most.
values_most : (tags : List ℕ) (shown values : ℕ) → length (value_lines tags shown values) ≤ 3 * length tags
unfolding value_lines
values_most [] shown values = omega arith
values_most (tag ∷ tags) shown values =
    omega (arith, length-append (value_line tag shown values) (value_lines tags (shown / 2) (values / 2)), line_length tag shown values, values_most tags (shown / 2) (values / 2))

-- A time up to 16,384 has five digits at most.
time_most : (time : ℕ) → time ≤ 16384 → length (time_line time) ≤ 7
time_most time h = omega (arith, time_length time, decimal_short time 4 (omega arith))

-- The line that declares a signal has 21 bytes.
pub vars_length : (tags : List ℕ) → length (var_lines tags) ≡ 21 * length tags
unfolding var_lines
vars_length [] = refl
vars_length (tag ∷ tags) = omega (arith, vars_length tags, length-append (var_line tag) (var_lines tags))

module _ (inputs outputs : List ℕ) where
  -- What is shown of an event decides how long its lines are, not the values.
  pub event_same : (shown event : ℕ) → length (event_lines inputs outputs shown event) ≡ length (event_lines inputs outputs shown 0)
  event_same shown event =
      omega (arith, event_length inputs outputs shown event, event_length inputs outputs shown 0, values_length inputs (shown % 16) (event % 16), values_length outputs (shown / 16) (event / 16))

  change_same : (time shown event : ℕ) → length (change_lines inputs outputs time shown event) ≡ length (change_lines inputs outputs time shown 0)
  change_same time shown event = go (eqb shown 0)
    where
      go : (t : Bool) → length (cond t [] (time_line time ++ event_lines inputs outputs shown event)) ≡ length (cond t [] (time_line time ++ event_lines inputs outputs shown 0))
      go true = refl
      go false =
          omega (arith, event_same shown event, length-append (time_line time) (event_lines inputs outputs shown event), length-append (time_line time) (event_lines inputs outputs shown 0))

  -- A change has a time line and the lines of the signals that change.
  pub change_long : (time shown event : ℕ) → (shown ≡ 0 → ⊥) →
      length (change_lines inputs outputs time shown event) ≡ length (time_line time) + length (event_lines inputs outputs shown event)
  change_long time shown event h = rw (ne_eqb shown 0 h) (length-append (time_line time) (event_lines inputs outputs shown event))

  -- The lines from the event i on, and those after the last.
  pub later_turn : (events : List ℕ) (i before : ℕ) → i < length events →
      let e = get_or events i 0 in
      later_lines inputs outputs i before (drop i events) ≡ change_lines inputs outputs i (bit_xor before e) e ++ later_lines inputs outputs (i + 1) e (drop (i + 1) events)
  unfolding later_lines
  later_turn events i before h = rw (drop-cons events i 0 h, add-one)

  -- From event i on: the length of its change, and the length from the next event on.
  pub later_length_turn : (events : List ℕ) (i before : ℕ) → i < length events →
      let e = get_or events i 0 in
      length (later_lines inputs outputs i before (drop i events))
      ≡ length (change_lines inputs outputs i (bit_xor before e) 0) + length (later_lines inputs outputs (i + 1) e (drop (i + 1) events))
  later_length_turn events i before h =
      let e = get_or events i 0 in
      ap length (later_turn events i before h)
      ∙ length-append (change_lines inputs outputs i (bit_xor before e) e) (later_lines inputs outputs (i + 1) e (drop (i + 1) events))
      ∙ rw (change_same i (bit_xor before e) e)

  -- After the last event the closing time line alone is left.
  pub later_end : (events : List ℕ) (i before : ℕ) → length events ≤ i → later_lines inputs outputs i before (drop i events) ≡ time_line i
  unfolding later_lines
  later_end events i before h = rw (drop_of_length-le events h)

  -- The opening has 47 bytes, and 21 for each signal.
  pub opening_long : length (opening inputs outputs) ≡ 47 + 21 * length inputs + 21 * length outputs
  opening_long = omega (arith, opening_length inputs outputs, vars_length inputs, vars_length outputs, time_length 0, ap length (decimal_one 0 (omega arith)))

  -- A text with events has the opening, a line for each signal at time 0, and the later lines.
  pub text_long : (events : List ℕ) → 0 < length events →
      length (wave_text inputs outputs events)
      ≡ length (opening inputs outputs) + length (event_lines inputs outputs 255 0) + length (later_lines inputs outputs 1 (get_or events 0 0) (drop 1 events))
  text_long [] h = absurd (omega arith)
  text_long (e ∷ events) h =
      omega (arith, ap length (text_some inputs outputs e events), length-append (opening inputs outputs) (body inputs outputs e events), length-append (event_lines inputs outputs 255 e) (later_lines inputs outputs 1 e events), event_same 255 e)

  -- The parts of a text.
  pub text_parts : (events : List ℕ) → 0 < length events →
      wave_text inputs outputs events
      ≡ opening inputs outputs ++ event_lines inputs outputs 255 (get_or events 0 0) ++ later_lines inputs outputs 1 (get_or events 0 0) (drop 1 events)
  unfolding wave_text
  text_parts [] h = absurd (omega arith)
  text_parts (e ∷ events) h = refl

  -- A stream without events has the opening as its text.
  pub text_empty : (events : List ℕ) → length events ≡ 0 → wave_text inputs outputs events ≡ opening inputs outputs
  unfolding wave_text
  text_empty [] e = refl
  text_empty (a ∷ events) e = absurd (omega arith)

  -- No text is shorter than the opening.
  pub text_least : (events : List ℕ) → length (opening inputs outputs) ≤ length (wave_text inputs outputs events)
  text_least [] = omega (arith, ap length text_empty_none)
    where
      text_empty_none : wave_text inputs outputs [] ≡ opening inputs outputs
      text_empty_none = text_none inputs outputs
  text_least (e ∷ events) = omega (arith, text_long (e ∷ events) (omega arith))

  -- The longest text: 16,384 events, at each of which all eight signals change.
  module _ (few_in : length inputs ≤ 4) (few_out : length outputs ≤ 4) where
    event_most : (shown event : ℕ) → length (event_lines inputs outputs shown event) ≤ 24
    event_most shown event =
        omega (arith, event_length inputs outputs shown event, values_most inputs (shown % 16) (event % 16), values_most outputs (shown / 16) (event / 16))

    change_most : (time shown event : ℕ) → time ≤ 16384 → length (change_lines inputs outputs time shown event) ≤ 31
    change_most time shown event h = go (eqb shown 0)
      where
        go : (t : Bool) → length (cond t [] (time_line time ++ event_lines inputs outputs shown event)) ≤ 31
        go true = omega arith
        go false = omega (arith, length-append (time_line time) (event_lines inputs outputs shown event), time_most time h, event_most shown event)

    later_most : (time before : ℕ) (events : List ℕ) → time + length events ≤ 16384 →
        length (later_lines inputs outputs time before events) ≤ 31 * length events + 7
    unfolding later_lines
    later_most time before [] h = time_most time (omega arith)
    later_most time before (e ∷ events) h =
        omega (
          arith,
          length-append (change_lines inputs outputs time (bit_xor before e) e) (later_lines inputs outputs (time + 1) e events),
          change_most time (bit_xor before e) e (omega arith),
          later_most (time + 1) e events (omega arith),
        )

    -- With four inputs and four outputs at most, a text of 16,384 events at most has no more than 508,119 bytes.
    pub text_most : (events : List ℕ) → length events ≤ 16384 → length (wave_text inputs outputs events) ≤ 508119
    text_most [] h = omega (arith, ap length (text_none inputs outputs), opening_long)
    text_most (e ∷ events) h =
        omega (
          arith,
          ap length (text_some inputs outputs e events),
          length-append (opening inputs outputs) (body inputs outputs e events),
          length-append (event_lines inputs outputs 255 e) (later_lines inputs outputs 1 e events),
          opening_long,
          event_most 255 e,
          later_most 1 e events (omega arith),
        )
