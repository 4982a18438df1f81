-- What one half of a bay's tick goes by and what it leaves alone.
-- In order: the state that the output half hands back; a half asked for by a station with one state and by a bay; a bay that is not there and one
-- that is; what stays and what an answer depends on; a refusal; a new list.
use Rattle.std.specs.Prelude.{◌≡◌, Bool, true, false, cond, List, ℕ, zero, suc, ◌≤◌, ◌<◌, ltb, length}
use Rattle.std.proofs.Math.Path.{refl}
use Rattle.std.proofs.Common.{sym, ap, ◌∙◌, arith, length-append, ltb-true, ltb-false, lt-ltb}
use Rattle.std.proofs.Math.Option.{Option, none, some, bind-eq-some_iff, some-injective}
use Rattle.std.proofs.lemmas.List.{length-replicate}
use Rattle.streams.specs.Answer.{Answer, refused, gives, unless}
use Rattle.streams.specs.AnswerLaws.{none_refused}
use Rattle.policy.specs.Rules.{Policy, stopped, step}
use Rattle.policy.specs.Number.{four}
use Rattle.policy.specs.File.{policy_of}
use Rattle.policy.specs.CheckLaws.{under_none}
use Rattle.policy.specs.Sound.{Inside}
use Rattle.policy.specs.Checked.{checked_file, well_sound}
use Rattle.policy.specs.Stays.{of_some, step_inside}
use Rattle.stepping.specs.State.{place_in}
use Rattle.enforcer.specs.States.{good_inside, marks_granted, state_granted}
use Rattle.stepping.specs.Tick.{ReleasedTick, output_choice, output_tick, moved}
use Rattle.enforcer.specs.Entries.{OutputAnswer, chosen, output_from, marks_refusal, state_refusal, input_of, output_refusal, output_of}
use Rattle.stepping.specs.Code.{start_state}
use Rattle.bays.specs.Bays.{bays_in, bay_count, numbers_of, bay_state, with_state}
use Rattle.bays.specs.Entries.{BayAnswer, new_refusal, started, new_states, no_bay, bay_input_of, bay_output_of}
use Rattle.bays.specs.Promises.{NewPromise}
use Rattle.bays.specs.Parts.{fits, with_same, with_length, with-state, with_other, started_length, started_bay, five_each}
use Rattle.bays.specs.There.{input_there, output_there, input_none, output_none}
use Rattle.stepping.specs.declared.state.State.{State}

-- Four clock values, and none more, where there are no more than four.
pub four_long : (vs : List ℕ) → length vs ≤ 4 → length (four vs) ≡ 4
four_long vs h = simp (length-append, length-replicate) (omega arith)

-- The state that the output half hands back has four clock values, as the one that it was given has.
module _ (reading : ℕ) (file marks : List ℕ) (s : State) (x y : ℕ) where
  -- A state with four clock values comes back with four.
  pub output_four : length s.clocks ≡ 4 → length (output_of reading file marks s x y).state.clocks ≡ 4
  unfolding output_of output_refusal output_tick moved
  output_four l = go (output_refusal reading file marks s x y) refl (output_tick (policy_of reading file) marks (place_in (policy_of reading file) s) x y) refl
    where
      p : Policy
      p = policy_of reading file

      go : (n : ℕ) → output_refusal reading file marks s x y ≡ n → (o : Option ReleasedTick) → output_tick p marks (place_in p s) x y ≡ o →
          length (output_from s (chosen n o)).state.clocks ≡ 4
      go (suc n) e o q = l
      go zero e none q = l
      go zero e (some t) q =
          let a = (none_refused (marks_refusal reading file marks) _).0 e in
          let ok = checked_file reading file ((under_none reading file).0 ((marks_granted reading file marks).0 a.0).0).1 in
          let good = ((state_granted reading file marks s).0 ((none_refused (state_refusal reading file marks s) _).0 a.1).0).0 in
          let m = (bind-eq-some_iff (output_choice p marks (place_in p s) x y) _).0 q in
          let v = (bind-eq-some_iff (step stopped p (place_in p s) (record { x = x; y = m.0 })) _).0 m.2 in
          let there : Inside p v.0 =
          of_some (Inside p) v.1 (step_inside p (well_sound p ok) (place_in p s) (good_inside p s good) (record { x = x; y = m.0 }))
          in
          let same : v.0 ≡ t.place = ap (λ (u : ReleasedTick). u.place) (some-injective _ t v.2) in
          four_long t.place.clocks (rw (← same) (omega (arith, there.clocks, ok.clocks)))

-- One half of a tick, as it is asked for: the input half with x, or the output half with the x that was passed on and y.
pub data Half : Type 0 where
  input : (x : ℕ) → Half
  output : (x y : ℕ) → Half

module _ (reading : ℕ) (file marks : List ℕ) where
  -- What it answers a station with one state, and the state then: the input half moves nothing.
  abbrev pub one_half : State → Half → OutputAnswer
  one_half s (input x) = record { answer = input_of reading file marks s x; state = s }
  one_half s (output x y) = output_of reading file marks s x y

  -- What it answers a bay, and the list then.
  abbrev pub bay_half : List ℕ → ℕ → Half → BayAnswer
  bay_half states bay (input x) = record { answer = bay_input_of reading file marks states bay x; states = states }
  bay_half states bay (output x y) = bay_output_of reading file marks states bay x y

  -- A bay that is not there: a refusal, and the list stays.
  pub half_none :
      (states : List ℕ) (bay : ℕ) (h : Half) → bay_count states ≤ bay →
      bay_half states bay h ≡ record { answer = refused (no_bay reading file marks); states = states }
  half_none states bay (input x) l = ap (λ (a : Answer ℕ). record { answer = a; states = states }) (input_none reading file marks states bay x l)
  half_none states bay (output x y) l = output_none reading file marks states bay x y l

  module _ (states : List ℕ) (bay : ℕ) (is : bay < bay_count states) where
    -- A bay that is there: the answer for its own state, which goes on as a state alone does.
    pub half_answer : (h : Half) → (bay_half states bay h).answer ≡ (one_half (bay_state states bay) h).answer
    half_answer (input x) = input_there reading file marks states bay is x
    half_answer (output x y) = ap (λ (r : BayAnswer). r.answer) (output_there reading file marks states bay is x y)

    -- The state of the bay goes on as it would alone.
    pub half_state : (h : Half) → bay_state (bay_half states bay h).states bay ≡ (one_half (bay_state states bay) h).state
    half_state (input x) = refl
    half_state (output x y) =
        ap (λ (r : BayAnswer). bay_state r.states bay) (output_there reading file marks states bay is x y)
        ∙ with-state states bay (fits (length states) bay is).0 (output_of reading file marks (bay_state states bay) x y).state (output_four reading file marks (bay_state states bay) x y refl)

    there_others : (h : Half) (other : ℕ) → ¬ (other ≡ bay) → numbers_of (bay_half states bay h).states other ≡ numbers_of states other
    there_others (input x) other apart = refl
    there_others (output x y) other apart =
        ap (λ (r : BayAnswer). numbers_of r.states other) (output_there reading file marks states bay is x y)
        ∙ with_other states bay (fits (length states) bay is).0 (output_of reading file marks (bay_state states bay) x y).state (output_four reading file marks (bay_state states bay) x y refl) other apart

    there_length : (h : Half) → length (bay_half states bay h).states ≡ length states
    there_length (input x) = refl
    there_length (output x y) =
        ap (λ (r : BayAnswer). length r.states) (output_there reading file marks states bay is x y)
        ∙ with_length states bay (fits (length states) bay is).0 (output_of reading file marks (bay_state states bay) x y).state (output_four reading file marks (bay_state states bay) x y refl)

  module _ (states : List ℕ) (bay : ℕ) (h : Half) where
    -- "no tick alters .. another bay's state".
    pub others_stay : (other : ℕ) → ¬ (other ≡ bay) → numbers_of (bay_half states bay h).states other ≡ numbers_of states other
    others_stay other apart = go (ltb bay (bay_count states)) refl
      where
        go : (t : Bool) → ltb bay (bay_count states) ≡ t → numbers_of (bay_half states bay h).states other ≡ numbers_of states other
        go true e = there_others states bay (ltb-true _ _ e) h other apart
        go false e = ap (λ (r : BayAnswer). numbers_of r.states other) (half_none states bay h (ltb-false _ _ e))

    -- No half of a tick alters the number of bays.
    pub length_stays : length (bay_half states bay h).states ≡ length states
    length_stays = go (ltb bay (bay_count states)) refl
      where
        go : (t : Bool) → ltb bay (bay_count states) ≡ t → length (bay_half states bay h).states ≡ length states
        go true e = there_length states bay (ltb-true _ _ e) h
        go false e = ap (λ (r : BayAnswer). length r.states) (half_none states bay h (ltb-false _ _ e))

    -- "A bay's answers, refusals included, depend on the policy, the marks, the reading, the number of bays, its own state and its own events and nothing
    -- more": two lists that agree in these give the same answer, and the bay the same state.
    pub depends_alone :
        (others : List ℕ) → bay_count states ≡ bay_count others → (bay < bay_count states → bay_state states bay ≡ bay_state others bay) →
        ((bay_half states bay h).answer ≡ (bay_half others bay h).answer)
        × (bay < bay_count states → bay_state (bay_half states bay h).states bay ≡ bay_state (bay_half others bay h).states bay)
    depends_alone others n same = go (ltb bay (bay_count states)) refl
      where
        go : (t : Bool) → ltb bay (bay_count states) ≡ t →
            ((bay_half states bay h).answer ≡ (bay_half others bay h).answer)
            × (bay < bay_count states → bay_state (bay_half states bay h).states bay ≡ bay_state (bay_half others bay h).states bay)
        go true e =
            let is = ltb-true bay (bay_count states) e in
            let also : bay < bay_count others = omega arith in
            let s = same is in (
              half_answer states bay is h ∙ ap (λ (z : State). (one_half z h).answer) s ∙ sym (half_answer others bay also h),
              λ _. half_state states bay is h ∙ ap (λ (z : State). (one_half z h).state) s ∙ sym (half_state others bay also h),
            )
        go false e =
            let l = ltb-false bay (bay_count states) e in
            let also : bay_count others ≤ bay = omega arith in (
              ap (λ (r : BayAnswer). r.answer) (half_none states bay h l) ∙ sym (ap (λ (r : BayAnswer). r.answer) (half_none others bay h also)),
              λ is. absurd (omega arith),
            )

-- With a refusal the output half hands back the state that it was given, and so the list stays.
output_kept : (s : State) (a : Answer ReleasedTick) {n : ℕ} → (output_from s a).answer ≡ refused n → (output_from s a).state ≡ s
output_kept s (refused m) e = refl
output_kept s (gives t) e = let z : ◌≡◌ {A = ℕ} 0 1 = cc in absurd (omega arith)

module _ (reading : ℕ) (file marks states : List ℕ) (bay x y : ℕ) where
  -- A refusal of the output half leaves the list as it was.
  pub refused_stays : {n : ℕ} → (bay_output_of reading file marks states bay x y).answer ≡ refused n → (bay_output_of reading file marks states bay x y).states ≡ states
  unfolding output_of
  refused_stays {n} = go (ltb bay (bay_count states)) refl
    where
      s : State
      s = bay_state states bay

      go : (t : Bool) → ltb bay (bay_count states) ≡ t → (bay_output_of reading file marks states bay x y).answer ≡ refused n →
          (bay_output_of reading file marks states bay x y).states ≡ states
      go true e k =
          let is = ltb-true bay (bay_count states) e in
          let there = output_there reading file marks states bay is x y in
          let stays : (output_of reading file marks s x y).state ≡ s = output_kept s (chosen (output_refusal reading file marks s x y) (output_tick (policy_of reading file) marks (place_in (policy_of reading file) s) x y)) (sym (ap (λ (r : BayAnswer). r.answer) there) ∙ k) in
          ap (λ (r : BayAnswer). r.states) there ∙ ap (with_state states bay) stays ∙ with_same states bay (fits (length states) bay is).0
      go false e k = ap (λ (r : BayAnswer). r.states) (output_none reading file marks states bay x y (ltb-false bay (bay_count states) e))

-- "making a new list starts every bay afresh": every bay of it is at the start.
pub afresh : (states : List ℕ) (bay : ℕ) → bay < bay_count states → bay_state (new_states states) bay ≡ start_state
unfolding new_states
afresh states bay is = rw (lt-ltb 0 (bay_count states) (omega arith), started_bay (bay_count states) bay is)

-- A new list has as many bays as before.
pub afresh_count : (states : List ℕ) → bay_count (new_states states) ≡ bay_count states
unfolding new_states
afresh_count states = go (ltb 0 (bay_count states)) refl
  where
    go : (t : Bool) → ltb 0 (bay_count states) ≡ t → bay_count (cond t (started (bay_count states)) states) ≡ bay_count states
    go true e = ap bays_in (started_length (bay_count states) ∙ five_each (length states) (ltb-true 0 (bay_count states) e))
    go false e = refl

-- A list that is not refused has a bay.
pub made : {before after : List ℕ} → NewPromise before 0 after → 0 < bay_count before
unfolding new_refusal
made {before} h = go (ltb 0 (bay_count before)) refl h.said
  where
    go : (t : Bool) → ltb 0 (bay_count before) ≡ t → 0 ≡ unless t 25 → 0 < bay_count before
    go true e z = ltb-true 0 (bay_count before) e
    go false e z = absurd (omega arith)
