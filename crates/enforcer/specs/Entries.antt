-- What the two halves and the run answer, for any bytes, marks, state and events: "for the halves and run, after 10, come 14, 16, 15, 17 (14 for run
-- only, when the slice is shorter than the events)". "Every entry checks the bytes it is given anew."
use Rattle.std.specs.Prelude.{Bool, cond, ◌&&◌, List, ◌++◌, map, ℕ, zero, suc, ◌+◌, ◌*◌, ◌/◌, ◌%◌, leb, ltb, length, drop}
use Rattle.std.proofs.Math.Option.{Option, none, some}
use Rattle.streams.specs.Answer.{Answer, refused, gives, ◌or_else◌, unless, answer}
use Rattle.streams.specs.Stream.{Event}
use Rattle.policy.specs.Rules.{Place, input_values, output_values}
use Rattle.policy.specs.File.{policy_of}
use Rattle.policy.specs.Check.{refusal_under, all_pass}
use Rattle.policy.specs.Layout.{layout_of}
use Rattle.policy.specs.Number.{states, number_of}
use Rattle.policy.specs.declared.Layout.{Layout}
use Rattle.stepping.specs.State.{place_in, state_of, state_good, is_marked}
use Rattle.stepping.specs.Tick.{ReleasedTick, Progress, input_choice, output_tick, ran}
use Rattle.stepping.specs.declared.state.State.{State}

-- "An event is one byte: input x in the low four bits, output y in the high four."
abbrev pub event_of : ℕ → Event
event_of b = record { x = b % 16; y = b / 16 }

-- The byte of an event.
abbrev pub byte_of : Event → ℕ
byte_of e = e.x + e.y * 16

-- The refusal n, if there is one; else the choice. 17: "no input, or for the given x' no output, reaches a state marked 1".
abbrev pub chosen : {A : Type 0} → ℕ → Option A → Answer A
chosen zero none = refused 17
chosen zero (some a) = gives a
chosen (suc n) o = refused (suc n)

-- What the output half answers, and the state that it hands back.
pub record OutputAnswer : Type 0 where
  pub answer : Answer ℕ
  pub state : State

-- "A refusal returns its number, and the by-value half also hands back the state it was given".
abbrev pub output_from : State → Answer ReleasedTick → OutputAnswer
output_from s (refused n) = record { answer = refused n; state = s }
output_from s (gives t) = record { answer = gives t.event.y; state = state_of t.place }

-- What a run answers, and what the slice for the released events holds then.
pub record RunAnswer : Type 0 where
  pub refusal : ℕ
  pub count : ℕ
  pub state : State
  pub out : List ℕ

-- "it returns how many and the state after them"; "run adds the count released and the state there, for every refusal (count 0 and the state given,
-- unless it is 17)". "refusal 17 then leaves the events released before it, and the rest of the slice untouched".
abbrev pub run_from : State → List ℕ → ℕ → Progress → RunAnswer
run_from s out (suc n) r = record { refusal = suc n; count = 0; state = s; out = out }
run_from s out zero r =
    record {
      refusal = cond r.stuck 17 0;
      count = length r.released;
      state = state_of r.place;
      out = map byte_of r.released ++ drop (length r.released) out;
    }

module _ (reading : ℕ) (file : List ℕ) where
  -- x has no bit beyond the inputs. 15: "an event, x or y has a bit beyond its signals".
  abbrev pub x_good : ℕ → Bool
  x_good x = ltb x (input_values (policy_of reading file))

  -- y has no bit beyond the outputs.
  abbrev pub y_good : ℕ → Bool
  y_good y = ltb y (output_values (policy_of reading file))

  -- Both halves of an event byte are within their signals.
  abbrev pub event_good : ℕ → Bool
  event_good b = x_good (b % 16) && y_good (b / 16)

module _ (reading : ℕ) (file marks : List ℕ) where
  -- 22 and 1 to 9, then 10: "the mark slice is shorter than the number of states".
  unfoldable pub marks_refusal : ℕ
  marks_refusal = refusal_under reading file or_else unless (leb (states (policy_of reading file)) (length marks)) 10

  -- The layout of a file that passes under the reading, where there is a mark for each state.
  unfoldable pub layout_for : Answer Layout
  layout_for = answer marks_refusal (layout_of reading file)

  -- The input half past 16, from the place t of the policy: 15 and 17 alone are left to ask.
  abbrev pub input_past : Place → ℕ → Answer ℕ
  input_past t x = chosen (unless (x_good reading file x) 15) (input_choice (policy_of reading file) marks t x)

  -- The output half past 16; `given` is the state that it was given, and t its place. A refusal hands that state back.
  abbrev pub output_past : State → Place → ℕ → ℕ → OutputAnswer
  output_past given t x y = output_from given (chosen (unless (x_good reading file x && y_good reading file y) 15) (output_tick (policy_of reading file) marks t x y))

  module _ (s : State) where
    -- 16: "a state has a location or clock value out of range, an unused clock not 0, or a mark other than 1".
    unfoldable pub state_refusal : ℕ
    state_refusal =
        unless (state_good (policy_of reading file) s) 16
        or_else unless (is_marked marks (number_of (policy_of reading file) (place_in (policy_of reading file) s))) 16

    -- What the input half refuses by, but for 17.
    unfoldable pub input_refusal : ℕ → ℕ
    input_refusal x = marks_refusal or_else state_refusal or_else unless (x_good reading file x) 15

    -- What the input half answers.
    unfoldable pub input_of : ℕ → Answer ℕ
    input_of x = chosen (input_refusal x) (input_choice (policy_of reading file) marks (place_in (policy_of reading file) s) x)

    -- What the output half refuses by, but for 17.
    unfoldable pub output_refusal : ℕ → ℕ → ℕ
    output_refusal x y = marks_refusal or_else state_refusal or_else unless (x_good reading file x && y_good reading file y) 15

    -- What the output half answers, and the state that it hands back.
    unfoldable pub output_of : ℕ → ℕ → OutputAnswer
    output_of x y =
        output_from s (chosen (output_refusal x y) (output_tick (policy_of reading file) marks (place_in (policy_of reading file) s) x y))

    -- What the run refuses by, but for 17. 14: "the slice to be written is too short". "A run checks all events for 15 before the first is released".
    unfoldable pub run_refusal : List ℕ → List ℕ → ℕ
    run_refusal events out =
        marks_refusal or_else unless (leb (length events) (length out)) 14 or_else state_refusal
        or_else unless (all_pass (event_good reading file) events) 15

    -- What the run answers, and what its slice holds then.
    unfoldable pub run_of : List ℕ → List ℕ → RunAnswer
    run_of events out =
        run_from s out (run_refusal events out) (ran (policy_of reading file) marks (place_in (policy_of reading file) s) (map event_of events))
