-- The whole text that `enforce` prints, for any input: the line of the first refusal, or a line for the verdict and one for each event.
use Rattle.std.specs.Prelude.{List, ◌++◌, ℕ}
use Rattle.enforcer.specs.Entries.{RunAnswer}
use Rattle.prepare.specs.declared.Summary.{Summary}
use Rattle.printing.specs.Text.{verdict_line, line_or, tick_lines}
use Rattle.frames.specs.Frame.{policy_part, events_part}
use Rattle.console.specs.Outcome.{ran_under, outcome}

-- "The program uses reading 1."
abbrev pub ran_over : (policy events : List ℕ) → RunAnswer
ran_over policy events = ran_under 1 policy events

-- "one line for the verdict, the states and the live states, then for each event, in decimal: tick from 1, x, y, x', y'"
abbrev pub summary_lines : Summary → (events released : List ℕ) → List ℕ
summary_lines s events released = verdict_line s.verdict s.states s.live ++ tick_lines 1 events released

-- All that `enforce` prints for an input.
unfoldable pub printed : (input : List ℕ) → List ℕ
printed input = line_or (outcome 1 input) (λ s. summary_lines s (events_part input) (ran_over (policy_part input) (events_part input)).out)
