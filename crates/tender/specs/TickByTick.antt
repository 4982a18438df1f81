-- The halves of the code, used tick after tick: what they release is what the run of the code releases, from the start it is demand 2's stream, and they never stop.
use Rattle.std.specs.Prelude.{◌≡◌, List, [], ◌∷◌, ◌++◌, map, ℕ, ◌≤◌, ◌<◌, length, drop}
use Rattle.std.proofs.Math.Path.{refl, ap}
use Rattle.std.proofs.Common.{sym, subst, ◌∙◌, lt-ltb, ltb-true}
use Rattle.std.proofs.lemmas.List.{length-map}
use Rattle.streams.specs.Answer.{Answer, gives}
use Rattle.streams.specs.AnswerLaws.{none_refused}
use Rattle.streams.specs.Stream.{Event, Stream, GoesOn}
use Rattle.streams.specs.Corrections.{corrections}
use Rattle.streams.specs.Published.{soundness}
use Rattle.policy.specs.Rules.{Policy, Place, start, input_values, output_values, Fits, fits_none, fits_more, Permits}
use Rattle.policy.specs.File.{policy_of}
use Rattle.policy.specs.Sound.{WellFormed}
use Rattle.stepping.specs.State.{state_of}
use Rattle.enforcer.specs.States.{marks_granted}
use Rattle.stepping.specs.Tick.{ran}
use Rattle.stepping.specs.Ticks.{input_stands}
use Rattle.enforcer.specs.Entries.{byte_of, output_from, OutputAnswer, marks_refusal, input_of, output_of}
use Rattle.enforcer.specs.Refusals.{events_back, fits_good}
use Rattle.stepping.specs.Code.{start_state}
use Rattle.enforcer.specs.Promises.{ran_said, InputPromise, OutputPromise, RunPromise}
use Rattle.stepping.specs.declared.state.State.{State}
use Rattle.enforcer.specs.Promises.{Ran}
use Rattle.prepare.specs.Entry.{prepare_of}
use Rattle.prepare.specs.Promise.{PreparePromise}
use Rattle.prepare.specs.Enforces.{leads_start, leads_ready, output_found, input_found, ran_enforces}
use Rattle.prepare.specs.Enforcing.{EnforcedBy, AsPrepared, Leads, MarkedPlace}
use Rattle.prepare.specs.declared.Summary.{Summary}
use Rattle.console.specs.Scratch.{start_is}
use Rattle.tender.specs.Granted.{well_formed, entry_refusal, prepared-marks, prepared_granted, given_passed, given_long, given_goes_on}
use Rattle.tender.specs.Halves.{Looped, as_run, before, input_fits, input_here, loop, loop_more, loop_ran, loop_runs, output_fits, output_here, ran_as}

-- The code's halves, used tick after tick from the state s: for the events read they gave the released ones, and the state that they left is t. The
-- controller's answer y may go by the x' that the input half gave.
pub data TickByTick (reading : ℕ) (file marks : List ℕ) : State → (read released : Stream) → State → Type 0 where
  ticks_none : {s : State} → TickByTick reading file marks s [] [] s
  ticks_more : {s u t : State} {e r : Event} {es rs : Stream} →
      InputPromise reading file marks s e.x (gives r.x) →
      OutputPromise reading file marks s r.x e.y (record { answer = gives r.y; state = u }) →
      TickByTick reading file marks u es rs t → TickByTick reading file marks s (e ∷ es) (r ∷ rs) t

module _ {reading : ℕ} {file marks : List ℕ} where
  ticks_loop : {s t : State} {es rs : Stream} → TickByTick reading file marks s es rs t →
      loop reading file marks s es ≡ record { refusal = 0; released = rs; state = t }
  unfolding loop
  ticks_loop ticks_none = refl
  ticks_loop (ticks_more {s = s} {e = e} {r = r} {es = es} i o h) =
      loop_more reading file marks s e es (sym i.said) (sym (ap (λ (z : OutputAnswer). z.answer) o.said))
      ∙ ap (λ (z : OutputAnswer). before r (loop reading file marks z.state es)) (sym o.said)
      ∙ ap (before r) (ticks_loop h)

  -- What the halves did not refuse by 15 has no bit beyond its signals.
  ticks_fit : {s t : State} {es rs : Stream} → TickByTick reading file marks s es rs t → Fits (policy_of reading file) es
  ticks_fit ticks_none = fits_none
  ticks_fit (ticks_more {s = s} {e = e} i o h) =
      fits_more (record {
        x = ltb-true _ _ (input_fits reading file marks s e.x (sym i.said));
        y = ltb-true _ _ (output_fits reading file marks s _ e.y (sym (ap (λ (z : OutputAnswer). z.answer) o.said)));
      }) (ticks_fit h)

  -- The code's run over the same events, from the same state, releases the same and leaves the same state.
  pub ticks_run : {s t : State} {es rs : Stream} {out after : List ℕ} {r : Ran} → TickByTick reading file marks s es rs t →
      length s.clocks ≡ 4 → entry_refusal reading file marks s ≡ 0 →
      RunPromise reading file marks s (map byte_of es) out r after → length es ≤ length out →
      ran_said r after ≡ record { refusal = 0; count = length rs; state = t; out = map byte_of rs ++ drop (length rs) out }
  ticks_run {s} {es = es} {out = out} h four e k long =
      let p = policy_of reading file in
      let ok = well_formed reading file ((marks_granted reading file marks).0 ((none_refused (marks_refusal reading file marks) _).0 e).0).0 in
      let fits = ticks_fit h in
      k.said
      ∙ loop_runs reading file marks s four e (map byte_of es) out (fits_good reading file ok fits) (rw length-map long)
      ∙ ap (λ (w : Stream). as_run (loop reading file marks s w) out) (events_back p ok fits)
      ∙ ap (λ (l : Looped). as_run l out) (ticks_loop h)

-- What the code's halves released from the start, after prepare's code gave a summary: demand 2's stream, and the state is the one that it leads to.
pub record TicksReleased (p : Policy) (es rs : Stream) (t : State) : Type 0 where
  pub enforced : EnforcedBy p [] es rs
  pub place : Place
  pub leads : Leads p rs place
  pub state : t ≡ state_of place

module _ {reading : ℕ} {file lent marks : List ℕ} {s : Summary} (h : PreparePromise reading file lent (gives s) marks) where
  given : prepare_of reading file lent ≡ gives s
  given = sym h.said

  ok : WellFormed (policy_of reading file)
  ok = well_formed reading file (given_passed reading file lent s given)

  by : AsPrepared (policy_of reading file) marks
  by =
      subst (AsPrepared (policy_of reading file)) (sym h.marks)
      (prepared-marks reading file lent (given_passed reading file lent s given) (given_long reading file lent s given))

  granted : marks_refusal reading file marks ≡ 0
  granted =
      subst (λ (m : List ℕ). marks_refusal reading file m ≡ 0) (sym h.marks)
      (prepared_granted reading file lent (given_passed reading file lent s given) (given_long reading file lent s given))

  goes : GoesOn (Permits (policy_of reading file)) []
  goes = given_goes_on reading file lent s given

  module _ {es rs : Stream} {t : State} (ticks : TickByTick reading file marks start_state es rs t) where
    -- From the start, what the halves released is demand 2's stream, and the state they left is the one that it leads to.
    pub ticks_release : TicksReleased (policy_of reading file) es rs t
    ticks_release =
        let p = policy_of reading file in
        let r = ran_enforces p ok marks by (leads_start p) goes es in
        let same : record { refusal = 0; released = rs; state = t } ≡ ran_as (ran p marks (start p) es) =
        sym (ticks_loop ticks) ∙ ap (λ (z : State). loop reading file marks z es) (sym (start_is p ok.clocks))
        ∙ loop_ran reading file marks granted (leads_ready p ok marks by (leads_start p) goes) (ticks_fit ticks)
        in
        let released : (ran p marks (start p) es).released ≡ rs = ap (λ (l : Looped). l.released) (sym same) in
        record {
          enforced = subst (EnforcedBy p [] es) released r.enforced;
          place = (ran p marks (start p) es).place;
          leads = subst (λ (w : Stream). Leads p w (ran p marks (start p) es).place) released r.leads;
          state = ap (λ (l : Looped). l.state) same;
        }

    ready_there : MarkedPlace (policy_of reading file) marks ticks_release.place
    ready_there =
        leads_ready (policy_of reading file) ok marks by ticks_release.leads
        (soundness corrections (Permits (policy_of reading file)) _ _ goes ticks_release.enforced)

    -- And they never stop: whatever is read next, the input half gives an input, and for it and whatever the controller answers the output half gives
    -- an output.
    pub ticks_go_on :
        (x : ℕ) (r : Answer ℕ) → x < input_values (policy_of reading file) → InputPromise reading file marks t x r →
        (z : ℕ) × (r ≡ gives z)
        × ((y : ℕ) (o : OutputAnswer) → y < output_values (policy_of reading file) → OutputPromise reading file marks t z y o → (w : ℕ) × (o.answer ≡ gives w))
    ticks_go_on x r f i =
        let p = policy_of reading file in
        let u = ticks_release.place in
        let at = ticks_release.state in
        let z = input_found p ok marks by ready_there x in
        let stands = input_stands p marks u x z.0 z.1 in
        let input : input_of reading file marks (state_of u) x ≡ gives z.0 =
        input_here reading file marks granted ready_there x (lt-ltb _ _ f) ∙ rw z.1
        in (
          z.0,
          i.said ∙ ap (λ (s : State). input_of reading file marks s x) at ∙ input,
          λ y o g k.
              let w = output_found p marks u z.0 y stands.1 in
              let output : output_of reading file marks (state_of u) z.0 y ≡ output_from (state_of u) (gives w.0) =
              output_here reading file marks granted ready_there z.0 y (lt-ltb _ _ stands.0) (lt-ltb _ _ g) ∙ rw w.1
              in (
                w.0.event.y,
                ap (λ (a : OutputAnswer). a.answer) (k.said ∙ ap (λ (s : State). output_of reading file marks s z.0 y) at ∙ output),
              ),
        )
