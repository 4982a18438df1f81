-- What the programs print, as bytes: the line of a refusal, and the lines of `enforce`.
use Rattle.std.specs.Prelude.{cond, List, [], ◌∷◌, ◌++◌, ℕ, zero, suc, ◌+◌, ◌/◌, ◌%◌, eqb}
use Prim.Native.Char.{code}
use Prim.Native.String.{String}
use Rattle.streams.specs.Answer.{Answer, refused, gives}
use Rattle.texts.specs.Text.{ascii, decimal}

-- A label and the number after it.
abbrev pub labelled : String → ℕ → List ℕ
labelled label n = ascii label ++ decimal n

-- A number and the space after it.
abbrev pub spaced : ℕ → List ℕ
spaced n = decimal n ++ ascii " "

-- "one line for the verdict, the states and the live states"
unfoldable pub verdict_line : (verdict states live : ℕ) → List ℕ
verdict_line verdict states live =
    labelled "verdict " verdict ++ labelled " states " states ++ labelled " live " live ++ ascii "\n"

-- "A refusal prints one line only, as `refused 11`. Every line ends with one line feed."
unfoldable pub refused_line : ℕ → List ℕ
refused_line n = labelled "refused " n ++ ascii "\n"

-- The text, or in its place the line of the refusal: "one line only".
abbrev pub unless_refused : ℕ → List ℕ → List ℕ
unless_refused zero text = text
unless_refused (suc n) text = refused_line (suc n)

-- The same of an answer, by the text of what it gives.
abbrev pub line_or : {A : Type 0} → Answer A → (A → List ℕ) → List ℕ
line_or (refused n) text = refused_line n
line_or (gives a) text = text a

-- "two letters for input and output, F forwarded or E edited"
abbrev pub letter : (given released : ℕ) → ℕ
letter given released = cond (eqb given released) (code "F") (code "E")

-- Both halves of an event, with a space after each.
abbrev pub halves : (x y : ℕ) → List ℕ
halves x y = spaced x ++ spaced y

-- "for each event, in decimal: tick from 1, x, y, x', y'; then two letters"
unfoldable pub tick_line : (tick x y x' y' : ℕ) → List ℕ
tick_line tick x y x' y' =
    spaced tick ++ halves x y ++ halves x' y' ++ (letter x x' ∷ letter y y' ∷ ascii "\n")

-- An event byte: "input x in the low four bits, output y in the high four".
abbrev pub event_line : (tick event released : ℕ) → List ℕ
event_line tick event released = tick_line tick (event % 16) (event / 16) (released % 16) (released / 16)

-- A line for each event and what was released for it, the first at tick `from`.
unfoldable pub tick_lines : (from : ℕ) (events released : List ℕ) → List ℕ
tick_lines from [] released = []
tick_lines from (e ∷ events) [] = []
tick_lines from (e ∷ events) (r ∷ released) = event_line from e r ++ tick_lines (from + 1) events released
