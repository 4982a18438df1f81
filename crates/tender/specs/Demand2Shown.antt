-- Demand 2 is shown: what specs/Demand2.antt states holds.
-- In order: hopeless exactly if, and otherwise; never 17; what a run releases, of which there is one; a released stream comes back; the halves agree
-- with the run; all of it (`demand_2`).
use Rattle.std.specs.Prelude.{◌≡◌, true, List, [], ◌∷◌, ◌++◌, map, ◌↔◌, ◌⊎◌, ℕ, zero, suc, ◌/◌, ◌%◌, ◌≤◌, length, take, drop}
use Rattle.std.proofs.Math.Path.{refl}
use Rattle.std.proofs.Common.{sym, ap, subst, ◌∙◌, true≢false, inl, inr, ⊎_elim, arith, take_at, lt-ltb}
use Rattle.std.proofs.Math.Bool.{and-eq-true_iff}
use Rattle.std.proofs.Math.Option.{Option, none, some, none-ne-some}
use Rattle.std.proofs.lemmas.List.{length-map}
use Rattle.streams.specs.Answer.{refused, gives}
use Rattle.streams.specs.AnswerLaws.{none_refused}
use Rattle.streams.specs.Stream.{Stream, Hopeless}
use Rattle.streams.specs.Corrections.{corrections}
use Rattle.streams.specs.Laws.{narrows_refl, not_both, passes, enforced_one}
use Rattle.streams.specs.Published.{instantaneity}
use Rattle.policy.specs.Rules.{Policy, Place, start, Permits}
use Rattle.policy.specs.Number.{states}
use Rattle.policy.specs.File.{policy_of}
use Rattle.policy.specs.Check.{refusal_under, all_pass}
use Rattle.policy.specs.Checked.{well_sound}
use Rattle.stepping.specs.State.{place_in, state_of}
use Rattle.stepping.specs.Tick.{input_choice, ran}
use Rattle.enforcer.specs.Entries.{event_of, byte_of, chosen, output_from, RunAnswer, run_from, marks_refusal, x_good, y_good, event_good, input_of, output_of, run_of}
use Rattle.enforcer.specs.States.{marks_granted}
use Rattle.enforcer.specs.Refusals.{events_back, fits_good, input_17, run_17}
use Rattle.prepare.specs.Entry.{summary_of, prepare_of, prepared_marks}
use Rattle.prepare.specs.declared.Summary.{Summary}
use Rattle.prepare.specs.Enforces.{leads_start, leads_one, leads_ready, ticked, ticked_ready, tick_found, input_stands, output_ticked, ran_on, ran_stuck, input_found, never_stuck, ran_enforces}
use Rattle.prepare.specs.Enforcing.{Leads}
use Rattle.tender.specs.Demand2.{ReleasedFor, Released, Right, from_start, Agree, Refuse, Demand2}
use Rattle.tender.specs.Granted.{well_formed, prepared-marks, prepared_granted, judged, given_passed, given_long, given_goes_on, state_ready, entry_refusal, input_answer, output_answer, run_answer, run_ready}
use Rattle.stepping.specs.declared.state.State.{State}

-- For a reading, a file that passes under it and a slice for the marks that is long enough.
module _ (reading : ℕ) (file marks : List ℕ) (passed : refusal_under reading file ≡ 0) (long : states (policy_of reading file) ≤ length marks) where
  -- "a policy is refused as hopeless exactly if" it is: "hopeless means that the start is not live".
  pub hopeless_exactly : (prepare_of reading file marks ≡ refused 11) ↔ Hopeless (Permits (policy_of reading file))
  hopeless_exactly =
      ⊎_elim (λ h. (λ e. h.0, λ d. h.1))
      (λ g. (λ e. let z : ◌≡◌ {A = ℕ} 0 1 = cc in absurd (omega arith), λ d. absurd (not_both (Permits (policy_of reading file)) [] g.0 d)))
      (judged reading file marks passed long)

  -- "Otherwise" prepare gives the summary.
  pub prepared_otherwise : (¬ Hopeless (Permits (policy_of reading file))) ↔ (prepare_of reading file marks ≡ gives (summary_of (policy_of reading file)))
  prepared_otherwise =
      ⊎_elim (λ h. (λ n. absurd (n h.0), λ e. let z : ◌≡◌ {A = ℕ} 0 1 = cc in absurd (omega arith)))
      (λ g. (λ n. g.1, λ e. not_both (Permits (policy_of reading file)) [] g.0)) (judged reading file marks passed long)

  -- "With the marks of prepare and a live state, run and the input half never give 17." A state that is not live they refuse by 16.
  pub input_never_17 : (s : State) (x : ℕ) → ¬ (input_of reading file (prepared_marks reading file marks) s x ≡ refused 17)
  input_never_17 s x e =
      let M = prepared_marks reading file marks in
      let k = input_17 reading file M s x e in
      let by = prepared-marks reading file marks passed long in
      let z = input_found (policy_of reading file) (well_formed reading file passed) M by (state_ready reading file M s k.0) x in
      none-ne-some z.0 (sym k.1 ∙ z.1)

  -- With the marks of prepare the run never gives 17, from any state.
  pub run_never_17 : (s : State) (events out : List ℕ) → ¬ ((run_of reading file (prepared_marks reading file marks) s events out).refusal ≡ 17)
  run_never_17 s events out e =
      let M = prepared_marks reading file marks in
      let k = run_17 reading file M s events out e in
      let by = prepared-marks reading file marks passed long in
      let ready = state_ready reading file M s k.0 in
      true≢false (sym k.1 ∙ never_stuck (policy_of reading file) (well_formed reading file passed) M by ready (map event_of events))

-- As many events are to be released as were read.
pub as_many : (p : Policy) (events : List ℕ) {rs : Stream} → ReleasedFor p events rs → length rs ≡ length events
as_many p events h = instantaneity corrections (Permits p) _ _ h ∙ length-map events event_of

-- The slice begins with the released events.
module _ {p : Policy} {events before : List ℕ} {r : RunAnswer} (h : Released p events before r) where
  -- There are as many released bytes as events read.
  pub released_length : length (map byte_of h.released) ≡ length events
  released_length = length-map h.released byte_of ∙ as_many p events h.enforced

  -- So many bytes at the front of the slice are the released events.
  pub released_bytes : take (length events) r.out ≡ map byte_of h.released
  released_bytes = ap (take (length events)) h.out ∙ take_at (map byte_of h.released) _ _ released_length

-- The run, as it is defined, is right: it does what demand 2 asks of a run.
pub releases : Right run_of
releases reading file marks s e events out good long =
    let p = policy_of reading file in
    let M = prepared_marks reading file marks in
    let passed = given_passed reading file marks s e in
    let enough = given_long reading file marks s e in
    let g = given_goes_on reading file marks s e in
    let ok = well_formed reading file passed in
    let by = prepared-marks reading file marks passed enough in
    let r = ran_enforces p ok M by (leads_start p) g (map event_of events) in
    let n = as_many p events r.enforced in
    let ready = leads_ready p ok M by (leads_start p) g in
    subst (Released p events out) (sym (run_ready reading file M (prepared_granted reading file marks passed enough) (start p) ready events out long good))
    (record {
      released = (ran p M (start p) (map event_of events)).released;
      enforced = r.enforced;
      refusal = rw r.moving;
      count = n;
      out = rw n;
      place = (ran p M (start p) (map event_of events)).place;
      leads = r.leads;
      state = refl;
    })

-- Demand 2 leaves a run no choice: two answers that meet it are the same.
pub released_one : {p : Policy} {events before : List ℕ} {r q : RunAnswer} → Released p events before r → Released p events before q → r ≡ q
released_one {p} {events} {before} {r} {q} a b =
    let same = enforced_one corrections _ _ (Permits p) a.enforced b.enforced in
    let there = leads_one a.leads (subst (λ (w : Stream). Leads p w b.place) (sym same) b.leads) in
    let refusal : r.refusal ≡ q.refusal = a.refusal ∙ sym b.refusal in
    let count : r.count ≡ q.count = a.count ∙ sym b.count in
    let state : r.state ≡ q.state = a.state ∙ ap state_of there ∙ sym b.state in
    let out : r.out ≡ q.out = a.out ∙ ap (λ (w : Stream). map byte_of w ++ drop (length events) before) same ∙ sym b.out in
    λ i. record { refusal = refusal i; count = count i; state = state i; out = out i }

module _ (reading : ℕ) (file marks : List ℕ) (s : Summary) (e : prepare_of reading file marks ≡ gives s)
    (events out : List ℕ) (good : all_pass (event_good reading file) events ≡ true) (long : length events ≤ length out) where
  -- Whatever is to be released is what the run writes.
  pub releases_only :
      (rs : Stream) → ReleasedFor (policy_of reading file) events rs →
      (from_start reading file marks events out).out ≡ map byte_of rs ++ drop (length events) out
  releases_only rs h =
      let r = releases reading file marks s e events out good long in
      r.out
      ∙ ap (λ (w : Stream). map byte_of w ++ drop (length events) out) (enforced_one corrections _ _ (Permits (policy_of reading file)) r.enforced h)

  -- "A released stream enforced again from the start comes back unchanged", in any slice, and ends in the same state.
  pub comes_back :
      (again : List ℕ) → length events ≤ length again →
      let released = take (length events) (from_start reading file marks events out).out in
      from_start reading file marks released again
      ≡ record { refusal = 0; count = length events; state = (from_start reading file marks events out).state; out = released ++ drop (length events) again }
  comes_back again room =
      let p = policy_of reading file in
      let ok = well_formed reading file (given_passed reading file marks s e) in
      let r = releases reading file marks s e events out good long in
      let bytes = map byte_of r.released in
      let n = released_length r in
      rw (released_bytes r)
      (released_one (releases reading file marks s e bytes again (fits_good reading file ok r.leads.fits) (rw n room))
      (record {
        released = r.released;
        enforced = rw (events_back p ok r.leads.fits) (passes corrections _ _ (Permits p) (Permits p) (narrows_refl (Permits p)) r.enforced);
        refusal = refl;
        count = sym n;
        out = rw n;
        place = r.place;
        leads = r.leads;
        state = r.state;
      }))

module _ (reading : ℕ) (file marks : List ℕ) (s : State) (b : ℕ) (good : event_good reading file b ≡ true) where
  -- For an event within the signals the two halves and the run release the same, or refuse by the same number.
  pub halves_agree : Agree reading file marks s b ⊎ Refuse reading file marks s b
  unfolding all_pass ran
  halves_agree = go (entry_refusal reading file marks s) refl (input_choice (policy_of reading file) marks (place_in (policy_of reading file) s) (b % 16)) refl
    where
      p : Policy
      p = policy_of reading file

      t : Place
      t = place_in p s

      tests : (x_good reading file (b % 16) ≡ true) × (y_good reading file (b / 16) ≡ true)
      tests = (and-eq-true_iff (x_good reading file (b % 16)) (y_good reading file (b / 16))).0 good

      input : input_of reading file marks s (b % 16) ≡ chosen (entry_refusal reading file marks s) (input_choice p marks t (b % 16))
      input = input_answer reading file marks s (b % 16) tests.0

      run :
          (o : ℕ) (bs out : List ℕ) → all_pass (event_good reading file) bs ≡ true → length bs ≤ length out →
          run_of reading file marks s (b ∷ bs) (o ∷ out)
          ≡ run_from s (o ∷ out) (entry_refusal reading file marks s) (ran p marks t (event_of b ∷ map event_of bs))
      run o bs out g l =
          run_answer reading file marks s (b ∷ bs) (o ∷ out) (omega arith)
          ((and-eq-true_iff (event_good reading file b) (all_pass (event_good reading file) bs)).1 (good, g))

      one :
          (o : ℕ) (out : List ℕ) →
          run_of reading file marks s (b ∷ []) (o ∷ out) ≡ run_from s (o ∷ out) (entry_refusal reading file marks s) (ran p marks t (event_of b ∷ []))
      one o out = run o [] out refl (omega arith)

      agree : entry_refusal reading file marks s ≡ 0 → (z : ℕ) → input_choice p marks t (b % 16) ≡ some z → Agree reading file marks s b
      agree d z k =
          let granted = (none_refused (marks_refusal reading file marks) _).0 d in
          let r = tick_found p marks t (event_of b) z k in
          let w = ticked p marks t (event_of b) r.0 r.1 in
          let x = r.0.event.x in
          let half : output_of reading file marks s x (b / 16) ≡ output_from s (gives r.0) =
          output_answer reading file marks s x (b / 16) (lt-ltb _ _ (input_stands p marks t (b % 16) x w.input).0) tests.1
          ∙ rw (d, output_ticked p marks t (event_of b) r.0 w)
          in
          let ok = well_formed reading file ((marks_granted reading file marks).0 granted.0).0 in
          let ready = ticked_ready p marks t (event_of b) r.0 (well_sound p ok) (state_ready reading file marks s granted.1).inside w in
          record {
            x = x;
            y = r.0.event.y;
            input = rw (input, d, w.input);
            output = rw half;
            one = λ o out. rw (half, one o out, d, ran_on p marks t (event_of b) [] r.0 r.1);
            more =
                λ o bs out g l.
                rw (
                  half,
                  run o bs out g l,
                  d,
                  ran_on p marks t (event_of b) (map event_of bs) r.0 r.1,
                  run_ready reading file marks granted.0 r.0.place ready bs out l g,
                );
          }

      go :
          (c : ℕ) → entry_refusal reading file marks s ≡ c → (o : Option ℕ) → input_choice p marks t (b % 16) ≡ o →
          Agree reading file marks s b ⊎ Refuse reading file marks s b
      go (suc n) d o k = inr (record { number = n; input = rw (input, d); run = λ o out. rw (one o out, d) })
      go zero d none k =
          inr (record { number = 16; input = rw (input, d, k); run = λ o out. rw (one o out, d, ran_stuck p marks t (event_of b) [] k) })
      go zero d (some z) k = inl (agree d z k)

  -- So the run refuses by 17 exactly if the input half does, and by any other number likewise.
  pub refused_alike :
      (n o : ℕ) (out : List ℕ) →
      ((run_of reading file marks s (b ∷ []) (o ∷ out)).refusal ≡ suc n) ↔ (input_of reading file marks s (b % 16) ≡ refused (suc n))
  refused_alike n o out = go halves_agree
    where
      go : Agree reading file marks s b ⊎ Refuse reading file marks s b →
          ((run_of reading file marks s (b ∷ []) (o ∷ out)).refusal ≡ suc n) ↔ (input_of reading file marks s (b % 16) ≡ refused (suc n))
      go (inl a) = (
        λ e. absurd (omega (arith, ap (λ (r : RunAnswer). r.refusal) (a.one o out))),
        λ e. let z : ◌≡◌ {A = ℕ} 0 1 = cc in absurd (omega arith),
      )
      go (inr r) = (λ e. cc (r.run o out), λ e. cc (r.run o out))

-- All of demand 2 holds.
pub demand_2 : Demand2
demand_2 =
    record {
      hopeless_exactly = hopeless_exactly;
      prepared_otherwise = prepared_otherwise;
      releases = releases;
      released_one = released_one;
      input_never_17 = input_never_17;
      run_never_17 = run_never_17;
      halves_agree = halves_agree;
      comes_back = comes_back;
    }
