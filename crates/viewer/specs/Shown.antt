-- What the program `wave` writes, for any reading and input: the file of the released stream for a wave viewer, or the line of the first refusal as `enforce`
-- prints it. The input is that of `enforce`, and so are its checks and their order, after that of the reading.
use Rattle.std.specs.Prelude.{List, ℕ}
use Rattle.frames.specs.Frame.{policy_part, events_part}
use Rattle.console.specs.Outcome.{lent, ran_under, outcome}
use Rattle.printing.specs.Text.{unless_refused, line_or}
use Rattle.drawing.specs.Entry.{text_of, write_refusal}

-- The writer has room for the longest text.
unfoldable pub file_or_line : (policy released : List ℕ) → List ℕ
file_or_line policy released = unless_refused (write_refusal policy released (lent 508119)) (text_of policy released)

-- All that `wave` writes.
unfoldable pub shown : (reading : ℕ) (input : List ℕ) → List ℕ
shown reading input =
    line_or (outcome reading input) (λ s. file_or_line (policy_part input) (ran_under reading (policy_part input) (events_part input)).out)
