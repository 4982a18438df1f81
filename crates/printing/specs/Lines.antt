-- Laws of the lines: how long they are at most, and one line more.
use Rattle.std.specs.Prelude.{◌≡◌, refl, List, [], ◌∷◌, ◌++◌, ℕ, zero, suc, ◌+◌, ◌/◌, ◌%◌, ◌^◌, ◌≤◌, ◌<◌, length, take, get_or}
use Rattle.std.proofs.Common.{append_assoc, append-nil, zero-add, arith, length-append}
use Rattle.texts.specs.Text.{ascii}
use Rattle.printing.specs.Text.{spaced, halves, letter, tick_line, event_line, tick_lines}
use Rattle.texts.specs.Decimal.{decimal_short}

-- A number of at most k + 1 digits and a space; an event's halves.
pub spaced_short : (n k : ℕ) → n < 10 ^ suc k → length (spaced n) ≤ k + 2
spaced_short n k h = simp length-append (omega (arith, decimal_short n k h))

-- The input and the output of an event byte take at most six bytes of a line.
pub halves_short : (event : ℕ) → event < 256 → length (halves (event % 16) (event / 16)) ≤ 6
halves_short e h =
    simp length-append (omega (arith, decimal_short (e % 16) 1 (omega arith), decimal_short (e / 16) 1 (omega arith)))

-- A tick of at most five digits, and four numbers of at most two: 5+1+2+1+2+1+2+1+2+1+2+1 bytes.
pub line_short : (tick event released : ℕ) → tick < 10 ^ 5 → event < 256 → released < 256 → length (event_line tick event released) ≤ 21
unfolding tick_line
line_short tick e r h i j =
    let given = halves (e % 16) (e / 16) in
    let released = halves (r % 16) (r / 16) in
    let all = length-append (spaced tick ++ given ++ released) (letter (e % 16) (r % 16) ∷ letter (e / 16) (r / 16) ∷ ascii "\n") in
    let three = length-append (spaced tick ++ given) released in
    let two = length-append (spaced tick) given in
    omega (arith, spaced_short tick 4 h, halves_short e i, halves_short r j)

-- The lines of the first i + 1 events.
pub lines_more :
    (from i : ℕ) (events released : List ℕ) → i < length events → i < length released →
    tick_lines from (take (suc i) events) (take (suc i) released)
    ≡ tick_lines from (take i events) (take i released) ++ event_line (i + from) (get_or events i 0) (get_or released i 0)
unfolding tick_lines
lines_more from i [] released h l = absurd (omega arith)
lines_more from i (e ∷ events) [] h l = absurd (omega arith)
lines_more from zero (e ∷ events) (r ∷ released) h l = rw (append-nil, zero-add)
lines_more from (suc i) (e ∷ events) (r ∷ released) h l =
    let n : i + (from + 1) ≡ suc i + from = omega arith in
    rw (lines_more (from + 1) i events released (omega arith) (omega arith), n, append_assoc)

-- The lines of all events.
pub lines_all :
    (from i : ℕ) (events released : List ℕ) → length events ≤ i → tick_lines from (take i events) (take i released) ≡ tick_lines from events released
unfolding tick_lines
lines_all from zero [] released h = refl
lines_all from zero (e ∷ events) released h = absurd (omega arith)
lines_all from (suc i) [] released h = refl
lines_all from (suc i) (e ∷ events) [] h = refl
lines_all from (suc i) (e ∷ events) (r ∷ released) h = rw (lines_all (from + 1) i events released (omega arith))
