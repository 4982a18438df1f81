-- Demand 2, stated over the definitions of the entries; it is shown in specs/Demand2Shown.antt, and over the promises of the code in specs/Code.antt.
-- "Over clocks that count without limit" is `Permits`, "go on for ever" is `GoesOn`, and what is released for an event stream is `Enforced`: none of
-- them knows a mark, a stopped clock or a byte. It holds "for each reading": the caller names it, and the policy carries it.
use Rattle.std.specs.Prelude.{◌≡◌, true, List, [], ◌∷◌, ◌++◌, map, ◌↔◌, ◌⊎◌, ℕ, suc, ◌/◌, ◌%◌, ◌≤◌, length, take, drop}
use Rattle.streams.specs.Answer.{refused, gives}
use Rattle.streams.specs.Stream.{Stream, Hopeless}
use Rattle.policy.specs.Rules.{Policy, Place, start, Permits}
use Rattle.policy.specs.Number.{states}
use Rattle.policy.specs.File.{policy_of}
use Rattle.policy.specs.Check.{refusal_under, all_pass}
use Rattle.stepping.specs.State.{state_of}
use Rattle.enforcer.specs.Entries.{event_of, byte_of, RunAnswer, event_good, input_of, output_of, run_of}
use Rattle.prepare.specs.Entry.{summary_of, prepare_of, prepared_marks}
use Rattle.prepare.specs.declared.Summary.{Summary}
use Rattle.prepare.specs.Enforcing.{EnforcedBy, Leads}
use Rattle.stepping.specs.declared.state.State.{State}

-- What is to be released for the bytes `events`, read from the start on.
abbrev pub ReleasedFor : Policy → List ℕ → Stream → Type 0
ReleasedFor p events = EnforcedBy p [] (map event_of events)

-- "one event is released for each one read: the input kept if some output lets the stream go on for ever, else the nearest such input (ties as 01
-- fixes them); then the output likewise. Nothing else is altered." The ties are those of 02.
pub record Released (p : Policy) (events before : List ℕ) (r : RunAnswer) : Type 0 where
  pub released : Stream
  pub enforced : ReleasedFor p events released
  pub refusal : r.refusal ≡ 0
  pub count : r.count ≡ length events
  -- Past the released events the slice is as it was before.
  pub out : r.out ≡ map byte_of released ++ drop (length events) before
  -- The state is the one that the released stream leads to.
  pub place : Place
  pub leads : Leads p released place
  pub state : r.state ≡ state_of place

-- A run takes a reading, a file, marks, a state, events, and a slice for the released ones.
abbrev pub Run : Type 0
Run = (reading : ℕ) (file marks : List ℕ) → State → (events out : List ℕ) → RunAnswer

-- Demand 2 of a run: where prepare gives a summary, all events within the signals are answered so, from the start and with the marks of prepare, into
-- every slice that holds as many.
abbrev pub Right : Run → Type 0
Right run =
    (reading : ℕ) (file marks : List ℕ) (s : Summary) → prepare_of reading file marks ≡ gives s →
    (events out : List ℕ) → all_pass (event_good reading file) events ≡ true → length events ≤ length out →
    Released (policy_of reading file) events out (run reading file (prepared_marks reading file marks) (state_of (start (policy_of reading file))) events out)

-- A run from the start, with the marks of prepare.
abbrev pub from_start : (reading : ℕ) (file marks events out : List ℕ) → RunAnswer
from_start reading file marks events out = run_of reading file (prepared_marks reading file marks) (state_of (start (policy_of reading file))) events out

-- One more event, released before those of a run.
abbrev pub after : ℕ → RunAnswer → RunAnswer
after b r = record { refusal = r.refusal; count = suc r.count; state = r.state; out = b ∷ r.out }

-- One event b, of x = b % 16 and y = b / 16, by the two halves and by the run, whatever the marks and the state are: the run releases the input of the
-- input half with the output of the output half, and ends in the state that the output half hands back. From there it goes on with the events that
-- follow. That is one tick: a whole stream, tick after tick, is in specs/Halves.antt.
pub record Agree (reading : ℕ) (file marks : List ℕ) (s : State) (b : ℕ) : Type 0 where
  pub x : ℕ
  pub y : ℕ
  pub input : input_of reading file marks s (b % 16) ≡ gives x
  pub output : (output_of reading file marks s x (b / 16)).answer ≡ gives y
  pub one :
      (o : ℕ) (out : List ℕ) →
      run_of reading file marks s (b ∷ []) (o ∷ out)
      ≡ record { refusal = 0; count = 1; state = (output_of reading file marks s x (b / 16)).state; out = byte_of (record { x = x; y = y }) ∷ out }
  pub more :
      (o : ℕ) (bs out : List ℕ) → all_pass (event_good reading file) bs ≡ true → length bs ≤ length out →
      run_of reading file marks s (b ∷ bs) (o ∷ out)
      ≡ after (byte_of (record { x = x; y = y })) (run_of reading file marks (output_of reading file marks s x (b / 16)).state bs out)

-- The input half and the run are both refused, by the same number.
pub record Refuse (reading : ℕ) (file marks : List ℕ) (s : State) (b : ℕ) : Type 0 where
  pub number : ℕ
  pub input : input_of reading file marks s (b % 16) ≡ refused (suc number)
  pub run : (o : ℕ) (out : List ℕ) → (run_of reading file marks s (b ∷ []) (o ∷ out)).refusal ≡ suc number

-- "A released stream enforced again from the start comes back unchanged", in any slice that holds it, and ends in the same state.
abbrev pub ComesBack : Type 0
ComesBack =
    (reading : ℕ) (file marks : List ℕ) (s : Summary) → prepare_of reading file marks ≡ gives s →
    (events out : List ℕ) → all_pass (event_good reading file) events ≡ true → length events ≤ length out →
    (again : List ℕ) → length events ≤ length again →
    let released = take (length events) (from_start reading file marks events out).out in
    from_start reading file marks released again
    ≡ record { refusal = 0; count = length events; state = (from_start reading file marks events out).state; out = released ++ drop (length events) again }

-- Demand 2, sentence by sentence.
pub record Demand2 : Type 0 where
  -- "a policy is refused as hopeless exactly if" it is: "hopeless means that the start is not live". Of a file that passes under the reading, with a
  -- slice for the marks that is long enough.
  pub hopeless_exactly :
      (reading : ℕ) (file marks : List ℕ) → refusal_under reading file ≡ 0 → states (policy_of reading file) ≤ length marks →
      (prepare_of reading file marks ≡ refused 11) ↔ Hopeless (Permits (policy_of reading file))
  -- "Otherwise" prepare gives the summary.
  pub prepared_otherwise :
      (reading : ℕ) (file marks : List ℕ) → refusal_under reading file ≡ 0 → states (policy_of reading file) ≤ length marks →
      (¬ Hopeless (Permits (policy_of reading file))) ↔ (prepare_of reading file marks ≡ gives (summary_of (policy_of reading file)))
  -- A run releases what is to be released. Two answers that meet this are the same.
  pub releases : Right run_of
  pub released_one :
      {p : Policy} {events before : List ℕ} {r q : RunAnswer} → Released p events before r → Released p events before q → r ≡ q
  -- "With the marks of prepare and a live state, run and the input half never give 17." A state that is not live they refuse by 16.
  pub input_never_17 :
      (reading : ℕ) (file marks : List ℕ) → refusal_under reading file ≡ 0 → states (policy_of reading file) ≤ length marks →
      (s : State) (x : ℕ) → ¬ (input_of reading file (prepared_marks reading file marks) s x ≡ refused 17)
  pub run_never_17 :
      (reading : ℕ) (file marks : List ℕ) → refusal_under reading file ≡ 0 → states (policy_of reading file) ≤ length marks →
      (s : State) (events out : List ℕ) → ¬ ((run_of reading file (prepared_marks reading file marks) s events out).refusal ≡ 17)
  -- The two halves of a tick and the run answer alike, whatever the marks and the state are: each tick of a run is one tick by the halves.
  pub halves_agree :
      (reading : ℕ) (file marks : List ℕ) (s : State) (b : ℕ) → event_good reading file b ≡ true →
      Agree reading file marks s b ⊎ Refuse reading file marks s b
  -- "A released stream enforced again from the start comes back unchanged": demand 3 says it.
  pub comes_back : ComesBack
