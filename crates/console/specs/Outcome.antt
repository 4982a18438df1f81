-- What the checks on an input come to, for every program that reads what `enforce` reads. Each check stands in the order of 01, after that of the reading.
use Rattle.std.specs.Prelude.{List, ℕ, length, replicate}
use Rattle.streams.specs.Answer.{Answer, refused, gives, answer, ◌or_else◌}
use Rattle.policy.specs.Rules.{start}
use Rattle.policy.specs.File.{policy_of}
use Rattle.stepping.specs.State.{state_of}
use Rattle.enforcer.specs.Entries.{RunAnswer, run_of}
use Rattle.trimming.specs.Table.{marks_of}
use Rattle.prepare.specs.Entry.{prepare_of}
use Rattle.prepare.specs.declared.Summary.{Summary}
use Rattle.frames.specs.Frame.{input_refusal, policy_part, events_frame_refusal, events_part}

-- A slice of n bytes, lent to be written. What it holds makes no difference.
unfoldable pub lent : ℕ → List ℕ
lent n = replicate n 0

-- A run over the events from the start, with the marks of prepare, into a slice.
abbrev pub ran_into : (reading : ℕ) (policy events out : List ℕ) → RunAnswer
ran_into reading policy events out = run_of reading policy (marks_of (policy_of reading policy)) (state_of (start (policy_of reading policy))) events out

-- The same run into a slice that is as long as the events.
abbrev pub ran_under : (reading : ℕ) (policy events : List ℕ) → RunAnswer
ran_under reading policy events = ran_into reading policy events (lent (length events))

infixl 9 ◌and_then◌
-- Of two answers, the second made of what the first gives: the first that refuses, or what the second gives.
abbrev pub ◌and_then◌ : {A B : Type 0} → Answer A → (A → Answer B) → Answer B
(refused n) and_then next = refused n
(gives a) and_then next = next a

module _ (reading : ℕ) (input : List ℕ) where
  -- "second count whole (1), within its limit (2), events all there (1), nothing after them (8); events (15)"
  unfoldable pub events_refusal : ℕ
  events_refusal = events_frame_refusal input or_else (ran_under reading (policy_part input) (events_part input)).refusal

  -- "first count whole (1), within its limit (2), policy bytes all there (1); the policy's own checks, prepare and its 11 included", then those of the
  -- events. Prepare is lent as many marks as a policy may have states, and its summary is given where nothing is refused.
  unfoldable pub outcome : Answer Summary
  outcome =
      answer (input_refusal input reading) (policy_part input)
      and_then (λ policy. prepare_of reading policy (lent 65536))
      and_then answer events_refusal
