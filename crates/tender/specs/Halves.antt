-- The two halves used tick after tick, as the station's loop uses them: they release what a run over the same events releases, and from the start that
-- is the stream of demand 2. Here over the definitions of the entries; over the promises of the code: specs/TickByTick.antt.
use Rattle.std.specs.Prelude.{◌≡◌, true, cond, List, [], ◌∷◌, ◌++◌, map, ℕ, zero, suc, ◌+◌, ◌-◌, ◌%◌, ◌≤◌, ltb, length, drop}
use Rattle.std.proofs.Math.Path.{refl}
use Rattle.std.proofs.Common.{sym, ap, subst, ◌∙◌, arith, length-take, lt-ltb, ltb-true}
use Rattle.std.proofs.Math.Bool.{and-eq-true_iff}
use Rattle.std.proofs.Math.Option.{Option, none, some, bind}
use Rattle.streams.specs.Answer.{refused, gives}
use Rattle.streams.specs.AnswerLaws.{none_refused, none_unless}
use Rattle.streams.specs.Stream.{Event, Stream}
use Rattle.policy.specs.Rules.{Policy, Place, start, Fits, fits_none, fits_more}
use Rattle.policy.specs.File.{policy_of}
use Rattle.policy.specs.Check.{all_pass}
use Rattle.policy.specs.Checked.{well_sound}
use Rattle.stepping.specs.State.{place_in, state_of, state_good}
use Rattle.stepping.specs.Laid.{place_in_state_of}
use Rattle.enforcer.specs.States.{good_inside, marks_granted, state_granted, clocks_back}
use Rattle.stepping.specs.Tick.{ReleasedTick, input_choice, output_tick, tick, ran}
use Rattle.stepping.specs.Tick as Run
use Rattle.stepping.specs.Ticks.{ticked, input_stands, ran_on, ran_none}
use Rattle.enforcer.specs.Entries.{event_of, byte_of, chosen, output_from, OutputAnswer, RunAnswer, marks_refusal, x_good, y_good, event_good, state_refusal, input_refusal, input_of, output_refusal, output_of, run_of}
use Rattle.stepping.specs.declared.state.State.{State}
use Rattle.prepare.specs.Entry.{prepare_of, prepared_marks}
use Rattle.prepare.specs.Enforces.{leads_start, leads_ready, ticked_ready, tick_found, output_ticked}
use Rattle.prepare.specs.Enforcing.{MarkedPlace}
use Rattle.prepare.specs.declared.Summary.{Summary}
use Rattle.tender.specs.Granted.{well_formed, entry_refusal, state_ready, ready_state, input_answer, output_answer, run_ready, prepared-marks, prepared_granted, given_passed, given_long, given_goes_on}
use Rattle.tender.specs.Demand2.{Released}
use Rattle.tender.specs.Demand2Shown.{releases}

-- What a loop of the two halves released, the number by which a half refused, 0 for none, and the state that it left.
pub record Looped : Type 0 where
  pub refusal : ℕ
  pub released : Stream
  pub state : State

-- One more event, released before the others.
abbrev pub before : Event → Looped → Looped
before r l = record { refusal = l.refusal; released = r ∷ l.released; state = l.state }

-- For each event read, the input half with its x; then the output half, "given the x' passed to the controller and its answer y". "Then the state
-- moves", and the next event is read. A refusal of either half ends the loop.
unfoldable pub loop : (reading : ℕ) (file marks : List ℕ) → State → Stream → Looped
loop reading file marks s [] = record { refusal = 0; released = []; state = s }
loop reading file marks s (e ∷ es) =
    elim (input_of reading file marks s e.x) [
      | refused n ↦ record { refusal = n; released = []; state = s }
      | gives x ↦
          elim (output_of reading file marks s x e.y).answer [
            | refused n ↦ record { refusal = n; released = []; state = (output_of reading file marks s x e.y).state }
            | gives y ↦ before (record { x = x; y = y }) (loop reading file marks (output_of reading file marks s x e.y).state es)
          ]
    ]

module _ (reading : ℕ) (file marks : List ℕ) (s : State) (e : Event) (es : Stream) where
  -- One tick of the loop, where neither half refuses.
  pub loop_more :
      {x y : ℕ} → input_of reading file marks s e.x ≡ gives x → (output_of reading file marks s x e.y).answer ≡ gives y →
      loop reading file marks s (e ∷ es) ≡ before (record { x = x; y = y }) (loop reading file marks (output_of reading file marks s x e.y).state es)
  unfolding loop
  loop_more h k = rw (h, k, loop)

  -- The loop ends where the input half refuses.
  loop_ends : {n : ℕ} → input_of reading file marks s e.x ≡ refused n →
      loop reading file marks s (e ∷ es) ≡ record { refusal = n; released = []; state = s }
  unfolding loop
  loop_ends h = rw (h, loop)

-- What a loop says of a run: its refusal, the number of released events and the state there; and over the slice `out` the released ones.
abbrev pub as_run : Looped → List ℕ → RunAnswer
as_run l out =
    record {
      refusal = l.refusal;
      count = length l.released;
      state = l.state;
      out = map byte_of l.released ++ drop (length l.released) out;
    }

-- A run's progress, told as a loop: where no input could stand, the refusal is 17.
abbrev pub ran_as : Run.Progress → Looped
ran_as r = record { refusal = cond r.stuck 17 0; released = r.released; state = state_of r.place }

no_tick : (p : Policy) (marks : List ℕ) (t : Place) (e : Event) → input_choice p marks t e.x ≡ none → tick p marks t e ≡ none
unfolding tick bind
no_tick p marks t e h = rw h

-- What a half answers with a value it did not refuse.
chosen_none : {A : Type 0} (n : ℕ) (o : Option A) {a : A} → chosen n o ≡ gives a → n ≡ 0
chosen_none zero o e = refl
chosen_none (suc n) o e = let z : ◌≡◌ {A = ℕ} 0 1 = cc in absurd (omega arith)

from_none : (s : State) (n : ℕ) (o : Option ReleasedTick) {y : ℕ} → (output_from s (chosen n o)).answer ≡ gives y → n ≡ 0
from_none s zero o e = refl
from_none s (suc n) o e = let z : ◌≡◌ {A = ℕ} 0 1 = cc in absurd (omega arith)

module _ (reading : ℕ) (file marks : List ℕ) (s : State) where
  -- If the input half gives an input for x, x is within the signals.
  pub input_fits : (x : ℕ) {z : ℕ} → input_of reading file marks s x ≡ gives z → x_good reading file x ≡ true
  unfolding input_of input_refusal
  input_fits x e =
      let a = (none_refused (marks_refusal reading file marks) _).0 (chosen_none (input_refusal reading file marks s x) _ e) in
      (none_unless _ 14).0 ((none_refused (state_refusal reading file marks s) _).0 a.1).1

  -- If the output half gives an output for y, y is within the signals.
  pub output_fits : (x y : ℕ) {z : ℕ} → (output_of reading file marks s x y).answer ≡ gives z → y_good reading file y ≡ true
  unfolding output_of output_refusal
  output_fits x y e =
      let a = (none_refused (marks_refusal reading file marks) _).0 (from_none s (output_refusal reading file marks s x y) _ e) in
      let b = (none_unless _ 14).0 ((none_refused (state_refusal reading file marks s) _).0 a.1).1 in
      ((and-eq-true_iff (x_good reading file x) (y_good reading file y)).0 b).1

-- A state that is not out of range is the state of its place.
state_back : (p : Policy) (s : State) → length s.clocks ≡ 4 → state_good p s ≡ true → state_of (place_in p s) ≡ s
unfolding state_good
state_back p s four e =
    let k = (and-eq-true_iff (ltb s.location p.locations) _).0 e in
    let n : length (place_in p s).clocks ≡ length p.ceilings = (good_inside p s e).clocks in
    let l : length s.clocks ≡ length p.ceilings + (4 - length (place_in p s).clocks) =
    omega (arith, length-take (length p.ceilings) s.clocks)
    in
    ap (λ (vs : List ℕ). record { location = s.location; clocks = vs })
    (clocks_back p.ceilings s.clocks (4 - length (place_in p s).clocks) l k.1)

good_fits : (reading : ℕ) (file events : List ℕ) → all_pass (event_good reading file) events ≡ true → Fits (policy_of reading file) (map event_of events)
unfolding all_pass
good_fits reading file [] e = fits_none
good_fits reading file (b ∷ bs) e =
    let k = (and-eq-true_iff (event_good reading file b) _).0 e in
    let h = (and-eq-true_iff (x_good reading file (b % 16)) _).0 k.0 in
    fits_more (record { x = ltb-true _ _ h.0; y = ltb-true _ _ h.1 }) (good_fits reading file bs k.1)

module _ (reading : ℕ) (file marks : List ℕ) where
  abbrev p : Policy
  p = policy_of reading file

  -- The halves of one tick, from a marked place.
  module _ (granted : marks_refusal reading file marks ≡ 0) {t : Place} (k : MarkedPlace p marks t) where
    here : place_in p (state_of t) ≡ t
    here = place_in_state_of p k.inside

    none_here : entry_refusal reading file marks (state_of t) ≡ 0
    none_here = rw (granted, ready_state reading file marks t k)

    -- The input half answers its choice, or 17 if there is none.
    pub input_here : (x : ℕ) → x_good reading file x ≡ true → input_of reading file marks (state_of t) x ≡ chosen 0 (input_choice p marks t x)
    input_here x f = input_answer reading file marks (state_of t) x f ∙ rw (none_here, here)

    -- The output half answers its choice, or 17 if there is none.
    pub output_here :
        (x y : ℕ) → x_good reading file x ≡ true → y_good reading file y ≡ true →
        output_of reading file marks (state_of t) x y ≡ output_from (state_of t) (chosen 0 (output_tick p marks t x y))
    output_here x y f g = output_answer reading file marks (state_of t) x y f g ∙ rw (none_here, here)

  -- From a marked place the loop goes as the run does.
  pub loop_ran :
      marks_refusal reading file marks ≡ 0 → {t : Place} → MarkedPlace p marks t → {es : Stream} → Fits p es →
      loop reading file marks (state_of t) es ≡ ran_as (ran p marks t es)
  unfolding loop ran
  loop_ran granted k fits_none = refl
  loop_ran granted {t} k (fits_more {e = e} {es = es} f h) = go (λ u i. loop_ran granted i h) (input_choice p marks t e.x) refl
    where
      s : State
      s = state_of t

      input : input_of reading file marks s e.x ≡ chosen 0 (input_choice p marks t e.x)
      input = input_here granted k e.x (lt-ltb _ _ f.x)

      go :
          ((u : Place) → MarkedPlace p marks u → loop reading file marks (state_of u) es ≡ ran_as (ran p marks u es)) →
          (o : Option ℕ) → input_choice p marks t e.x ≡ o → loop reading file marks s (e ∷ es) ≡ ran_as (ran p marks t (e ∷ es))
      go more none q = loop_ends reading file marks s e es (rw (input, q)) ∙ sym (ap ran_as (ran_none p marks t e es (no_tick p marks t e q)))
      go more (some z) q =
          let r = tick_found p marks t e z q in
          let w = ticked p marks t e r.0 r.1 in
          let x = r.0.event.x in
          let half : output_of reading file marks s x e.y ≡ output_from s (gives r.0) =
          output_here granted k x e.y (lt-ltb _ _ (input_stands p marks t e.x x w.input).0) (lt-ltb _ _ f.y)
          ∙ rw (output_ticked p marks t e r.0 w)
          in
          let ok = well_formed reading file ((marks_granted reading file marks).0 granted).0 in
          let next = ticked_ready p marks t e r.0 (well_sound p ok) k.inside w in
          loop_more reading file marks s e es (rw (input, w.input)) (ap (λ (u : OutputAnswer). u.answer) half)
          ∙ ap (λ (u : OutputAnswer). before r.0.event (loop reading file marks u.state es)) half
          ∙ ap (before r.0.event) (more r.0.place next)
          ∙ sym (ap ran_as (ran_on p marks t e es r.0 r.1))

  -- From any state that is not refused, whatever the marks are: tick after tick, over the whole stream, the two halves release what the run does, leave
  -- the state that it does, and stop where it does and by the same number.
  pub loop_runs :
      (s : State) → length s.clocks ≡ 4 → entry_refusal reading file marks s ≡ 0 →
      (events out : List ℕ) → all_pass (event_good reading file) events ≡ true → length events ≤ length out →
      run_of reading file marks s events out ≡ as_run (loop reading file marks s (map event_of events)) out
  loop_runs s four e events out good long =
      let t = place_in p s in
      let k = (none_refused (marks_refusal reading file marks) _).0 e in
      let ready = state_ready reading file marks s k.1 in
      let back : state_of t ≡ s = state_back p s four ((state_granted reading file marks s).0 k.1).0 in
      subst (λ (z : State). run_of reading file marks z events out ≡ as_run (loop reading file marks z (map event_of events)) out) back
      (run_ready reading file marks k.0 t ready events out long good
      ∙ sym (ap (λ (l : Looped). as_run l out) (loop_ran k.0 ready (good_fits reading file events good))))

-- From the start and with the marks of prepare, the loop releases demand 2's stream.
pub loop_releases :
    (reading : ℕ) (file marks : List ℕ) (s : Summary) → prepare_of reading file marks ≡ gives s →
    (events out : List ℕ) → all_pass (event_good reading file) events ≡ true → length events ≤ length out →
    Released (policy_of reading file) events out
    (as_run (loop reading file (prepared_marks reading file marks) (state_of (start (policy_of reading file))) (map event_of events)) out)
loop_releases reading file marks s e events out good long =
    let p = policy_of reading file in
    let M = prepared_marks reading file marks in
    let passed = given_passed reading file marks s e in
    let enough = given_long reading file marks s e in
    let granted = prepared_granted reading file marks passed enough in
    let by = prepared-marks reading file marks passed enough in
    let ready = leads_ready p (well_formed reading file passed) M by (leads_start p) (given_goes_on reading file marks s e) in
    subst (Released p events out)
    (run_ready reading file M granted (start p) ready events out long good
    ∙ sym (ap (λ (l : Looped). as_run l out) (loop_ran reading file M granted ready (good_fits reading file events good))))
    (releases reading file marks s e events out good long)
