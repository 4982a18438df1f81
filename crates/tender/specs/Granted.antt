-- Where the entries refuse nothing: what their refusals make sure of, and what they answer then.
use Rattle.std.specs.Prelude.{◌≡◌, refl, true, List, [], map, ◌⊎◌, ℕ, zero, suc, ◌≤◌, length, drop}
use Rattle.std.proofs.Common.{ap, ap₂, ◌∙◌, arith, le-leb}
use Rattle.std.proofs.Math.Logic.{inl, inr, ⊎_elim}
use Rattle.std.proofs.Math.ListN.{length-append}
use Rattle.streams.specs.Answer.{refused, gives, ◌or_else◌}
use Rattle.streams.specs.Stream.{GoesOn, Hopeless}
use Rattle.policy.specs.Rules.{Place, Permits}
use Rattle.policy.specs.Number.{states, number_of}
use Rattle.policy.specs.File.{policy_of}
use Rattle.policy.specs.Check.{reading_refusal, refusal_under, all_pass}
use Rattle.policy.specs.CheckLaws.{no_reading, under_none}
use Rattle.policy.specs.Sound.{WellFormed}
use Rattle.policy.specs.Numbered.{number_of_start}
use Rattle.policy.specs.Checked.{checked_file}
use Rattle.stepping.specs.State.{place_in, state_of, is_marked}
use Rattle.stepping.specs.Laid.{place_in_state_of}
use Rattle.enforcer.specs.States.{good_inside, inside_good, marks_granted, state_granted}
use Rattle.stepping.specs.Tick.{input_choice, output_tick, ran}
use Rattle.enforcer.specs.Entries.{event_of, chosen, output_from, run_from, marks_refusal, x_good, y_good, event_good, state_refusal, input_refusal, input_of, output_refusal, output_of, run_refusal, run_of}
use Rattle.trimming.specs.Table.{marks_of}
use Rattle.prepare.specs.Entry.{summary_of, prepare_of, prepared_marks}
use Rattle.prepare.specs.declared.Summary.{Summary}
use Rattle.trimming.specs.Live.{marks_length, goes_on_or_ends, hopeless_start}
use Rattle.prepare.specs.PromiseLaws.{gives_past}
use Rattle.prepare.specs.Enforces.{prepared_front, leads_start, goes_on_ready}
use Rattle.prepare.specs.Enforcing.{AsPrepared, MarkedPlace}
use Rattle.stepping.specs.declared.state.State.{State}

else_none : (a b : ℕ) → a or_else b or_else 0 ≡ a or_else b
else_none zero zero = refl
else_none zero (suc b) = refl
else_none (suc a) b = refl

module _ (reading : ℕ) (file marks : List ℕ) where
  module _ (s : State) where
    -- A state that is not refused by 16 stands for a place that is marked.
    pub state_ready : state_refusal reading file marks s ≡ 0 → MarkedPlace (policy_of reading file) marks (place_in (policy_of reading file) s)
    state_ready e = let k = (state_granted reading file marks s).0 e in record { inside = good_inside (policy_of reading file) s k.0; marked = k.1 }

    -- What both halves and the run refuse before they look at an event: 22, 1 to 10, and 16.
    abbrev pub entry_refusal : ℕ
    entry_refusal = marks_refusal reading file marks or_else state_refusal reading file marks s

    -- For an x within the signals the input half answers its choice, unless it refused before.
    pub input_answer :
        (x : ℕ) → x_good reading file x ≡ true →
        input_of reading file marks s x ≡ chosen entry_refusal (input_choice (policy_of reading file) marks (place_in (policy_of reading file) s) x)
    unfolding input_of input_refusal
    input_answer x e = rw (e, else_none)

    -- For x and y within the signals the output half answers its choice, unless it refused before.
    pub output_answer :
        (x y : ℕ) → x_good reading file x ≡ true → y_good reading file y ≡ true →
        output_of reading file marks s x y
        ≡ output_from s (chosen entry_refusal (output_tick (policy_of reading file) marks (place_in (policy_of reading file) s) x y))
    unfolding output_of output_refusal
    output_answer x y e k = rw (e, k, else_none)

    -- For events within the signals and a slice that holds as many, the run answers as `ran` goes, unless it refused before.
    pub run_answer :
        (events out : List ℕ) → length events ≤ length out → all_pass (event_good reading file) events ≡ true →
        run_of reading file marks s events out
        ≡ run_from s out entry_refusal (ran (policy_of reading file) marks (place_in (policy_of reading file) s) (map event_of events))
    unfolding run_of run_refusal
    run_answer events out l e = rw (le-leb _ _ l, e, else_none)

  -- The state of a place that is marked is not refused.
  pub ready_state : (t : Place) → MarkedPlace (policy_of reading file) marks t → state_refusal reading file marks (state_of t) ≡ 0
  ready_state t k =
      (state_granted reading file marks (state_of t)).1 (
        inside_good (policy_of reading file) t k.inside,
        ap (λ (z : Place). is_marked marks (number_of (policy_of reading file) z)) (place_in_state_of (policy_of reading file) k.inside) ∙ k.marked,
      )

  -- From a marked place the run answers as `ran` goes: nothing else is refused.
  pub run_ready :
      marks_refusal reading file marks ≡ 0 → (t : Place) → MarkedPlace (policy_of reading file) marks t →
      (events out : List ℕ) → length events ≤ length out → all_pass (event_good reading file) events ≡ true →
      run_of reading file marks (state_of t) events out ≡ run_from (state_of t) out 0 (ran (policy_of reading file) marks t (map event_of events))
  run_ready e t k events out l g =
      let z : entry_refusal (state_of t) ≡ 0 = rw (e, ready_state t k) in
      run_answer (state_of t) events out l g
      ∙ ap₂ (run_from (state_of t) out) z
      (ap (λ (z : Place). ran (policy_of reading file) marks z (map event_of events)) (place_in_state_of (policy_of reading file) k.inside))

-- What holds under reading 1 and under reading 2 holds under each reading that 22 does not refuse.
pub each_reading : (P : ℕ → Type 0) → P 1 → P 2 → (reading : ℕ) → reading_refusal reading ≡ 0 → P reading
each_reading P one two zero e = absurd (omega (arith, no_reading 0 (inl (omega arith))))
each_reading P one two (suc zero) e = one
each_reading P one two (suc (suc zero)) e = two
each_reading P one two (suc (suc (suc n))) e = absurd (omega (arith, no_reading (suc (suc (suc n))) (inr (omega arith))))

-- A file that passes under a reading is well formed.
pub well_formed : (reading : ℕ) (file : List ℕ) → refusal_under reading file ≡ 0 → WellFormed (policy_of reading file)
well_formed reading file passed = checked_file reading file ((under_none reading file).0 passed).1

-- After prepare, under a reading, for a file that passes and a slice that is long enough.
module _ (reading : ℕ) (file marks : List ℕ) (passed : refusal_under reading file ≡ 0) (long : states (policy_of reading file) ≤ length marks) where
  granted : marks_refusal reading file marks ≡ 0
  granted = (marks_granted reading file marks).1 (passed, long)

  -- Of each state, prepare's marks say what the policy's own marks say.
  pub prepared-marks : AsPrepared (policy_of reading file) (prepared_marks reading file marks)
  unfolding prepared_marks
  prepared-marks = rw granted (prepared_front (policy_of reading file) (drop (states (policy_of reading file)) marks))

  -- With the marks of prepare, 22 and 1 to 10 are not given.
  pub prepared_granted : marks_refusal reading file (prepared_marks reading file marks) ≡ 0
  unfolding prepared_marks
  prepared_granted = (marks_granted reading file (prepared_marks reading file marks)).1 (passed, rw (granted, length-append, marks_length) (omega arith))

  -- The policy is hopeless and refused by 11, or it can go on for ever from the start and the summary is given.
  pub judged :
      (Hopeless (Permits (policy_of reading file)) × (prepare_of reading file marks ≡ refused 11))
      ⊎ (GoesOn (Permits (policy_of reading file)) [] × (prepare_of reading file marks ≡ gives (summary_of (policy_of reading file))))
  unfolding prepare_of
  judged =
      let p = policy_of reading file in
      let ok = well_formed reading file passed in
      let l = leads_start p in
      ⊎_elim (λ g. inr (g, rw (granted, (goes_on_ready p ok (marks_of p) (λ n h. refl) l).0 g)))
      (λ d. inl (d, rw (granted, number_of_start, (hopeless_start p ok).0 d))) (goes_on_or_ends p ok l.leads l.fits)

-- Where prepare gives a summary, the file has passed, the slice is long enough, and the start goes on for ever.
module _ (reading : ℕ) (file marks : List ℕ) (s : Summary) (e : prepare_of reading file marks ≡ gives s) where
  given : (refusal_under reading file ≡ 0) × (states (policy_of reading file) ≤ length marks)
  given = (marks_granted reading file marks).0 (gives_past reading file marks s e).0

  -- The file has passed under the reading.
  pub given_passed : refusal_under reading file ≡ 0
  given_passed = given.0

  -- The slice has room for a mark of each state.
  pub given_long : states (policy_of reading file) ≤ length marks
  given_long = given.1

  -- The start can go on for ever.
  pub given_goes_on : GoesOn (Permits (policy_of reading file)) []
  given_goes_on =
      ⊎_elim (λ h. let z : ◌≡◌ {A = ℕ} 0 1 = cc in absurd (omega arith)) (λ g. g.0) (judged reading file marks given_passed given_long)
