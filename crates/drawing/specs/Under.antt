-- The lines from a signal on, and how long the lines are.
use Rattle.std.specs.Prelude.{◌≡◌, List, [], ◌++◌, ℕ, ◌+◌, ◌/◌, ◌%◌, ◌≤◌, ◌<◌, length, get_or, drop}
use Rattle.std.proofs.Common.{add-one, arith, drop_of_length-le, drop-cons, eq-eqb}
use Rattle.std.proofs.Math.ListN.{length-append}
use Rattle.texts.specs.Text.{decimal}
use Rattle.drawing.specs.Wave.{var_line, var_lines, time_line, value_line, value_lines, header, event_lines}
use Rattle.drawing.specs.Streams.{opening}

-- The lines from the signal i on.
pub vars_turn : (tags : List ℕ) (i : ℕ) → i < length tags → var_lines (drop i tags) ≡ var_line (get_or tags i 0) ++ var_lines (drop (i + 1) tags)
unfolding var_lines
vars_turn tags i h = rw (add-one, drop-cons tags i 0 h)

-- After the last signal no line declares one.
pub vars_end : (tags : List ℕ) (i : ℕ) → length tags ≤ i → var_lines (drop i tags) ≡ []
unfolding var_lines
vars_end tags i h = rw (drop_of_length-le tags h)

-- From signal i on: its own line if it is shown, then the lines of the later signals.
pub values_turn : (tags : List ℕ) (i shown values : ℕ) → i < length tags →
    value_lines (drop i tags) shown values ≡ value_line (get_or tags i 0) shown values ++ value_lines (drop (i + 1) tags) (shown / 2) (values / 2)
unfolding value_lines
values_turn tags i shown values h = rw (add-one, drop-cons tags i 0 h)

-- After the last signal no line of a value is left.
pub values_end : (tags : List ℕ) (i shown values : ℕ) → length tags ≤ i → value_lines (drop i tags) shown values ≡ []
unfolding value_lines
values_end tags i shown values h = rw (drop_of_length-le tags h)

-- How long the lines are.
pub shown_length : (tag shown values : ℕ) → shown % 2 ≡ 1 → length (value_line tag shown values) ≡ 3
shown_length tag shown values e = rw (eq-eqb (shown % 2) 1 e)

-- A time line has two bytes more than its number.
pub time_length : (n : ℕ) → length (time_line n) ≡ 2 + length (decimal n)
unfolding time_line
time_length n = simp length-append (omega arith)

module _ (inputs outputs : List ℕ) where
  -- The lines of an event are as long as those of its inputs and those of its outputs.
  pub event_length : (shown event : ℕ) →
      length (event_lines inputs outputs shown event) ≡ length (value_lines inputs (shown % 16) (event % 16)) + length (value_lines outputs (shown / 16) (event / 16))
  unfolding event_lines
  event_length shown event = length-append (value_lines inputs (shown % 16) (event % 16)) (value_lines outputs (shown / 16) (event / 16))

  -- The opening has 44 bytes, the lines that declare the signals, and the line of time 0.
  pub opening_length : length (opening inputs outputs) ≡ 44 + length (var_lines inputs) + length (var_lines outputs) + length (time_line 0)
  unfolding header
  opening_length = simp length-append (omega arith)
