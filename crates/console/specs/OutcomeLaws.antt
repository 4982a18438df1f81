-- What the code that checks an input promises, and by which ways it comes to the outcome.
-- In order: what is known of the policy, of the events and of an input that passes; the promise; the events' refusal and the outcome, by the ways
-- that the code takes; what is printed.
use Rattle.std.proofs.Math.Path.{◌≡◌, refl, sym, ap, subst}
use Rattle.std.proofs.Common.{◌∙◌, le_refl, arith, length-append, take_at, take_all}
use mathlib.Core.List.{List, ◌++◌}
use Rattle.std.specs.Prelude.{ℕ, zero, suc, ◌≤◌, drop}
use Rattle.std.proofs.Math.ListN.{length, take}
use Rattle.std.proofs.lemmas.List.{length-replicate}
use Rattle.streams.specs.Answer.{Answer, refused, gives, answer}
use Rattle.streams.specs.AnswerLaws.{none_refused, first_refused, given_only}
use Rattle.policy.specs.File.{policy_of}
use Rattle.policy.specs.Number.{states}
use Rattle.policy.specs.Check.{refusal_of, reading_refusal}
use Rattle.policy.specs.CheckLaws.{under_none}
use Rattle.policy.specs.Checked.{checked_file}
use Rattle.enforcer.specs.States.{marks_granted}
use Rattle.enforcer.specs.Entries.{RunAnswer}
use Rattle.stepping.specs.Code.{start_state}
use Rattle.enforcer.specs.Promises.{RunPromise, ran_said}
use Rattle.enforcer.specs.Promises.{Ran}
use Rattle.trimming.specs.Table.{marks_of}
use Rattle.prepare.specs.Entry.{prepare_of}
use Rattle.prepare.specs.Promise.{PreparePromise}
use Rattle.prepare.specs.PromiseLaws.{gives_past, marks_past}
use Rattle.trimming.specs.Live.{marks_length}
use Rattle.prepare.specs.declared.Summary.{Summary}
use Rattle.printing.specs.Text.{verdict_line, refused_line, tick_lines}
use Rattle.printing.specs.Lines.{lines_all}
use Rattle.frames.specs.Frame.{policy_frame_refusal, policy_part, events_frame_refusal, events_part, input_refusal}
use Rattle.console.specs.Outcome.{lent, ran_into, ran_under, ◌and_then◌, events_refusal, outcome}
use Rattle.console.specs.Printed.{summary_lines, printed}
use Rattle.console.specs.Scratch.{prepare_alike, run_alike, run_front, start_is}

-- The file is the policy of the input; it passes its checks, and these are its marks under the reading.
pub record Prepares (reading : ℕ) (input file marks : List ℕ) : Type 0 where
  pub part : file ≡ policy_part input
  pub passes : refusal_of file ≡ 0
  pub marked : marks ≡ marks_of (policy_of reading file)

-- The refusal of the events, and with none what is released stands in front.
pub record RanEvents (reading : ℕ) (input : List ℕ) (r : ℕ) (released : List ℕ) : Type 0 where
  pub refusal : r ≡ events_refusal reading input
  pub front : r ≡ 0 → take (length (events_part input)) released ≡ (ran_under reading (policy_part input) (events_part input)).out

-- Nothing is refused, and prepare gives the summary.
pub record Passes (reading : ℕ) (input : List ℕ) (s : Summary) : Type 0 where
  pub policy : policy_frame_refusal input ≡ 0
  pub prepared : prepare_of reading (policy_part input) (lent 65536) ≡ gives s
  pub events : events_frame_refusal input ≡ 0
  pub ran : (ran_under reading (policy_part input) (events_part input)).refusal ≡ 0

-- What the slices then hold in front: the policy's marks, and what is released.
pub record Enforces (reading : ℕ) (input : List ℕ) (s : Summary) (marks released : List ℕ) : Type 0 where
  pub said : gives s ≡ outcome reading input
  pub passes : Passes reading input s
  pub enough : s.states ≤ length marks
  pub marked : take s.states marks ≡ marks_of (policy_of reading (policy_part input))
  pub front : take (length (events_part input)) released ≡ (ran_under reading (policy_part input) (events_part input)).out

-- What the code promises: its answer is the outcome, and where that is a summary the slices hold what they should.
pub record OutcomePromise (reading : ℕ) (input : List ℕ) (r : Answer Summary) (marks released : List ℕ) : Type 0 where
  pub said : r ≡ outcome reading input
  pub enforces : (s : Summary) → r ≡ gives s → Enforces reading input s marks released

-- A policy that gives a summary passes its checks, and its marks stand in front of what the slice held.
pub prepared-marks : {reading : ℕ} {file before after : List ℕ} {s : Summary} → PreparePromise reading file before (gives s) after →
    (refusal_of file ≡ 0) × (s.states ≤ length after) × (take s.states after ≡ marks_of (policy_of reading file))
prepared-marks {reading} {file} {before} {after} {s} h =
    let p = policy_of reading file in
    let past = gives_past reading file before s (sym h.said) in
    let k = (marks_granted reading file before).0 past.0 in
    let n : states p ≡ s.states = ap (λ (z : Summary). z.states) past.2 in
    let e : after ≡ marks_of p ++ drop (states p) before = h.marks ∙ marks_past reading file before past.0 in (
      ((under_none reading file).0 k.0).1,
      rw (← n, e, length-append, marks_length) (omega arith),
      rw (← n, e) (take_at (marks_of p) _ _ (marks_length p)),
    )

-- Where prepare gives a summary, the front of its slice has the marks of the input's policy.
pub prepares : {reading : ℕ} {input file before after : List ℕ} {s : Summary} → file ≡ policy_part input →
    PreparePromise reading (policy_part input) before (gives s) after → Prepares reading input file (take s.states after)
prepares e h = let m = prepared-marks h in record { part = e; passes = rw e m.0; marked = rw e m.2 }

-- A lent slice of n bytes has the length n.
pub lent_length : (n : ℕ) → length (lent n) ≡ n
unfolding lent
lent_length n = length-replicate n 0

answer_refused : {A : Type 0} (n : ℕ) (a : A) → (n ≡ 0 → ⊥) → answer n a ≡ refused n
answer_refused zero a h = absurd (h refl)
answer_refused (suc n) a h = refl

module _ (reading : ℕ) (input : List ℕ) where
  -- The events' frame is refused.
  pub events_refused : {n : ℕ} → n ≡ events_frame_refusal input → (n ≡ 0 → ⊥) → n ≡ events_refusal reading input
  unfolding events_refusal
  events_refused {n} e h = rw (← e) (sym (first_refused n _ h))

  -- It is not: the run that the code makes decides, whatever its slice held.
  pub events_ran : {file marks released after : List ℕ} {r : Ran} → Prepares reading input file marks → events_frame_refusal input ≡ 0 →
      length (events_part input) ≤ length released → RunPromise reading file marks start_state (events_part input) released r after →
      RanEvents reading input r.refusal after
  unfolding events_refusal
  events_ran {file} {released = released} {after = after} {r = r} p framed room ran =
      let same : ran_said r after ≡ ran_into reading (policy_part input) (events_part input) released =
      rw (← p.part, ← p.marked, start_is (policy_of reading file) (checked_file reading file p.passes).clocks) ran.said in
      record {
        refusal =
            rw framed
            (ap (λ (q : RunAnswer). q.refusal) same
            ∙ run_alike reading _ _ _ (events_part input) released _ room (rw lent_length (le_refl (length (events_part input)))));
        front = subst (λ (q : RunAnswer). q.refusal ≡ 0 → take (length (events_part input)) q.out ≡ (ran_under reading (policy_part input) (events_part input)).out)
            (sym same) (run_front reading _ _ _ (events_part input) released _ room (lent_length (length (events_part input))));
      }

  -- The outcome is a summary only where nothing is refused.
  pub outcome_gives : {s : Summary} → outcome reading input ≡ gives s → Passes reading input s
  unfolding outcome events_refusal
  outcome_gives {s} e = go (input_refusal input reading) refl e
    where
      by : policy_frame_refusal input ≡ 0 → (o : Answer Summary) → prepare_of reading (policy_part input) (lent 65536) ≡ o →
          (o and_then answer (events_refusal reading input)) ≡ gives s → Passes reading input s
      by f (refused m) p e = let z : ◌≡◌ {A = ℕ} 0 1 = cc in absurd (omega arith)
      by f (gives t) p e =
          let g = given_only (events_refusal reading input) t s e in
          let k = (none_refused (events_frame_refusal input) _).0 g.0 in
          record { policy = f; prepared = p ∙ ap gives g.1; events = k.0; ran = k.1 }

      go : (n : ℕ) → input_refusal input reading ≡ n →
          (answer n (policy_part input) and_then (λ policy. prepare_of reading policy (lent 65536)) and_then answer (events_refusal reading input)) ≡ gives s →
          Passes reading input s
      go (suc n) d e = let z : ◌≡◌ {A = ℕ} 0 1 = cc in absurd (omega arith)
      go zero d e = by ((none_refused (reading_refusal reading) _).0 d).1 (prepare_of reading (policy_part input) (lent 65536)) refl e

  refuses : {n : ℕ} {marks released : List ℕ} → refused n ≡ outcome reading input → OutcomePromise reading input (refused n) marks released
  refuses e = record { said = e; enforces = λ s d. let z : ◌≡◌ {A = ℕ} 0 1 = cc in absurd (omega arith) }

  -- The reading or the policy's frame is refused.
  pub input_refused : {n : ℕ} {marks released : List ℕ} → n ≡ input_refusal input reading → (n ≡ 0 → ⊥) →
      OutcomePromise reading input (refused n) marks released
  unfolding outcome
  input_refused {n} e h = refuses (rw (← e, answer_refused n (policy_part input) h))

  -- It is not: what prepare answers decides, whatever the marks held, and then the events.
  module _ {marks after : List ℕ} {a : Answer Summary} (long : length marks ≡ 65536) (framed : input_refusal input reading ≡ 0)
      (h : PreparePromise reading (policy_part input) marks a after) where
    prepared : outcome reading input ≡ a and_then answer (events_refusal reading input)
    unfolding outcome
    prepared = rw (framed, h.said, prepare_alike reading (policy_part input) (lent 65536) marks (lent_length 65536 ∙ sym long))

    by_events : {s : Summary} {r : ℕ} → a ≡ gives s → r ≡ events_refusal reading input → outcome reading input ≡ answer r s
    by_events {s} g e = prepared ∙ ap (λ (z : Answer Summary). z and_then answer (events_refusal reading input)) g ∙ ap (λ (n : ℕ). answer n s) (sym e)

    -- Prepare refuses, and that is the outcome.
    pub prepare_refuses : {n : ℕ} {released : List ℕ} → a ≡ refused n → OutcomePromise reading input (refused n) after released
    prepare_refuses g = refuses (sym (prepared ∙ ap (λ (z : Answer Summary). z and_then answer (events_refusal reading input)) g))

    -- The events are refused, and that is the outcome.
    pub events_refuse : {s : Summary} {r : ℕ} {released : List ℕ} → a ≡ gives s → RanEvents reading input r released → (r ≡ 0 → ⊥) →
        OutcomePromise reading input (refused r) after released
    events_refuse {s} {r} g k n = refuses (sym (by_events g k.refusal ∙ answer_refused r s n))

    -- The events are not refused: the outcome is the summary, and the released events stand in front.
    pub events_released : {s : Summary} {r : ℕ} {released : List ℕ} → a ≡ gives s → RanEvents reading input r released → r ≡ 0 →
        OutcomePromise reading input (gives s) after released
    events_released {s} {r} {released} g k z =
        let e : outcome reading input ≡ gives s = by_events g k.refusal ∙ ap (λ (n : ℕ). answer n s) z in
        let m = prepared-marks (subst (λ (q : Answer Summary). PreparePromise reading (policy_part input) marks q after) g h) in
        let it : Enforces reading input s after released =
        record { said = sym e; passes = outcome_gives e; enough = m.1; marked = m.2; front = k.front z } in
        record {
          said = sym e;
          enforces = λ t d. let q : s ≡ t = cc in subst (λ (u : Summary). Enforces reading input u after released) q it;
        }

-- What is printed of it.
module _ (input : List ℕ) where
  -- Where the outcome under reading 1 is a refusal, its line is all that is printed.
  pub printed_refused : {n : ℕ} → refused n ≡ outcome 1 input → printed input ≡ refused_line n
  unfolding printed
  printed_refused e = rw (← e)

  -- Where it is a summary, the verdict's line and one for each event are printed.
  pub printed_lines : {s : Summary} {marks released : List ℕ} → Enforces 1 input s marks released → printed input ≡ summary_lines s (events_part input) released
  unfolding printed
  printed_lines {s} {released = released} k =
      let events = events_part input in
      let n = length events in
      let lines : tick_lines 1 events (take n released) ≡ tick_lines 1 events released =
      ap (λ (es : List ℕ). tick_lines 1 es (take n released)) (sym (take_all n events (le_refl n))) ∙ lines_all 1 n events released (le_refl n) in
      rw (← k.said)
      (ap (λ (bytes : List ℕ). summary_lines s events bytes) (sym k.front) ∙ ap (λ (rest : List ℕ). verdict_line s.verdict s.states s.live ++ rest) lines)
