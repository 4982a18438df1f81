-- A stream as a Value Change Dump: the writer's text, by the signals' tags and the events. "Each line ends with one line feed."
use Rattle.std.specs.Prelude.{cond, List, [], ◌∷◌, ◌++◌, ℕ, ◌+◌, ◌/◌, ◌%◌, eqb}
use Prim.Native.Char.{code}
use Rattle.std.specs.Int.Bits.{bit_xor}
use Rattle.texts.specs.Text.{ascii, decimal}

-- "for each signal, .. a line such as `$var wire 1 A A $end` with its tag as both name and identifier"
abbrev pub var_line : ℕ → List ℕ
var_line tag = ascii "$var wire 1 " ++ (tag ∷ ascii " ") ++ (tag ∷ ascii " $end\n")

-- The lines that declare the signals with these tags.
unfoldable pub var_lines : List ℕ → List ℕ
var_lines [] = []
var_lines (tag ∷ tags) = var_line tag ++ var_lines tags

-- "at time `#n`, in decimal without leading zeros"
unfoldable pub time_line : ℕ → List ℕ
time_line n = ascii "#" ++ decimal n ++ ascii "\n"

-- "one line each in signal order, as `0A` or `1A`": of the signals with these tags, those that have a 1 in `shown`. Bit 0 is the first signal's.
abbrev pub value_line : (tag shown values : ℕ) → List ℕ
value_line tag shown values = cond (eqb (shown % 2) 1) ((code "0" + values % 2) ∷ tag ∷ ascii "\n") []

-- The lines of all signals with these tags, in signal order.
unfoldable pub value_lines : (tags : List ℕ) → (shown values : ℕ) → List ℕ
value_lines [] shown values = []
value_lines (tag ∷ tags) shown values = value_line tag shown values ++ value_lines tags (shown / 2) (values / 2)

module _ (inputs outputs : List ℕ) where
  -- "The header is `$timescale 100 ms $end`, then for each signal, inputs first in file order, a line .., then `$enddefinitions $end`."
  unfoldable pub header : List ℕ
  header = ascii "$timescale 100 ms $end\n" ++ var_lines inputs ++ var_lines outputs ++ ascii "$enddefinitions $end\n"

  -- An event byte has "input x in the low four bits, output y in the high four"; so has the number of the signals shown.
  unfoldable pub event_lines : (shown event : ℕ) → List ℕ
  event_lines shown event = value_lines inputs (shown % 16) (event % 16) ++ value_lines outputs (shown / 16) (event / 16)

  -- "after that only changes, in the same order, and later times without a change are left out"
  abbrev pub change_lines : (time shown event : ℕ) → List ℕ
  change_lines time shown event = cond (eqb shown 0) [] (time_line time ++ event_lines shown event)

  -- The lines from a time on, after the event before it. "A closing time line gives the number of events."
  unfoldable pub later_lines : (time before : ℕ) → List ℕ → List ℕ
  later_lines time before [] = time_line time
  later_lines time before (e ∷ events) = change_lines time (bit_xor before e) e ++ later_lines (time + 1) e events

  -- "All values stand at time 0 .. `#0` always stands. .. An empty stream has the header and `#0` only."
  unfoldable pub wave_text : List ℕ → List ℕ
  wave_text [] = header ++ time_line 0
  wave_text (e ∷ events) = header ++ time_line 0 ++ event_lines 255 e ++ later_lines 1 e events
