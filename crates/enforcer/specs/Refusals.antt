-- By which numbers the halves and the run refuse, that 15 refuses no event within the signals, and what 17 says.
-- In order: events and their bytes; what may be refused before 17; the reading and the file come first; the numbers that the halves and the run
-- refuse by; what 17 says.
use Rattle.std.specs.Prelude.{◌≡◌, refl, Bool, true, false, cond, ◌||◌, ◌⊎◌, List, ◌∷◌, map, ℕ, zero, suc, ◌/◌, ◌%◌, ◌≤◌, ◌<◌, leb, eqb, length}
use Rattle.std.proofs.Math.Path.{ap}
use Rattle.std.proofs.Common.{ap₂, ◌∙◌, zero-le, arith, lt-ltb}
use Rattle.std.proofs.Math.Option.{Option, none, some}
use Rattle.std.proofs.Math.Nat.{pow-le-pow_right}
use Rattle.std.proofs.Math.ListN.{length-map}
use Rattle.streams.specs.Answer.{refused, ◌or_else◌, unless, UpTo}
use Rattle.streams.specs.AnswerLaws.{none_refused, first_refused, unless_le, else_le}
use Rattle.streams.specs.Stream.{Event, Stream}
use Rattle.policy.specs.Rules.{Policy, FitsOne, Fits, fits_none, fits_more}
use Rattle.policy.specs.File.{policy_of}
use Rattle.policy.specs.Check.{reading_refusal, refusal_under, all_pass}
use Rattle.policy.specs.CheckLaws.{refusal_le}
use Rattle.policy.specs.Number.{states}
use Rattle.policy.specs.Sound.{WellFormed}
use Rattle.stepping.specs.State.{place_in}
use Rattle.stepping.specs.Tick.{ReleasedTick, Progress, input_choice, ran}
use Rattle.stepping.specs.Ticks.{ran_few}
use Rattle.enforcer.specs.Entries.{event_of, byte_of, chosen, output_from, run_from, marks_refusal, x_good, y_good, event_good, state_refusal, input_refusal, input_of, output_refusal, output_of, run_refusal, run_of}
use Rattle.stepping.specs.declared.state.State.{State}

-- An event within the signals is one byte, and comes back from it.
module _ (p : Policy) (ok : WellFormed p) where
  -- An event within the signals comes back from its byte.
  pub event_back : (e : Event) → FitsOne p e → event_of (byte_of e) ≡ e
  event_back e f =
      let h : e.x < 16 = omega (arith, f.x, pow-le-pow_right {n = 2} (omega arith) ok.inputs) in
      ap₂ (λ (x y : ℕ). record { x = x; y = y }) (omega arith) (omega arith)

  -- A stream within the signals comes back from its bytes.
  pub events_back : {rs : Stream} → Fits p rs → map event_of (map byte_of rs) ≡ rs
  events_back fits_none = refl
  events_back (fits_more {e = e} f h) = ap₂ {C = Stream} ◌∷◌ (event_back e f) (events_back h)

-- So 15 refuses none of the bytes of a stream within the signals.
pub fits_good : (reading : ℕ) (file : List ℕ) → WellFormed (policy_of reading file) → {rs : Stream} → Fits (policy_of reading file) rs → all_pass (event_good reading file) (map byte_of rs) ≡ true
unfolding all_pass
fits_good reading file ok fits_none = refl
fits_good reading file ok (fits_more {e = e} f h) =
    let k = event_back (policy_of reading file) ok e f in
    let x : x_good reading file (byte_of e % 16) ≡ true = ap (λ (d : Event). x_good reading file d.x) k ∙ lt-ltb _ _ f.x in
    let y : y_good reading file (byte_of e / 16) ≡ true = ap (λ (d : Event). y_good reading file d.y) k ∙ lt-ltb _ _ f.y in
    rw (x, y) (fits_good reading file ok h)

-- What is refused before 17: by at most 16, or by 22.
abbrev Early : ℕ → Type 0
Early n = (n ≤ 16) ⊎ (n ≡ 22)

early_else : (a b : ℕ) → Early a → Early b → Early (a or_else b)
early_else zero b h g = g
early_else (suc a) b h g = h

early_le : {n : ℕ} → Early n → n ≤ 22
early_le (◌⊎◌.inl h) = omega arith
early_le (◌⊎◌.inr e) = omega arith

early_not : {n : ℕ} → Early n → n ≡ 17 → ⊥
early_not (◌⊎◌.inl h) e = omega arith
early_not (◌⊎◌.inr k) e = omega arith

reading_early : (reading : ℕ) → Early (reading_refusal reading)
unfolding reading_refusal
reading_early reading = go (eqb reading 1 || eqb reading 2)
  where
    go : (t : Bool) → Early (unless t 22)
    go true = ◌⊎◌.inl zero-le
    go false = ◌⊎◌.inr refl

-- No refusal is above 22, and 17 is given only where nothing else is refused and nothing may stand.
chosen_up_to : {A : Type 0} (n : ℕ) (o : Option A) → Early n → UpTo 22 (chosen n o)
chosen_up_to zero none h = (omega arith, omega arith)
chosen_up_to zero (some a) h = tt
chosen_up_to (suc n) o h = (omega arith, early_le h)

chosen_17 : {A : Type 0} (n : ℕ) (o : Option A) → Early n → chosen n o ≡ refused 17 → (n ≡ 0) × (o ≡ none)
chosen_17 zero none h e = (refl, refl)
chosen_17 zero (some a) h e = let z : ◌≡◌ {A = ℕ} 0 1 = cc in absurd (omega arith)
chosen_17 (suc n) o h e = let z : suc n ≡ 17 = cc in absurd (early_not h z)

from_up_to : (s : State) (n : ℕ) (o : Option ReleasedTick) → Early n → UpTo 22 (output_from s (chosen n o)).answer
from_up_to s zero none h = (omega arith, omega arith)
from_up_to s zero (some t) h = tt
from_up_to s (suc n) o h = (omega arith, early_le h)

module _ (s : State) (out : List ℕ) where
  ended_le : (n : ℕ) (r : Progress) → Early n → (run_from s out n r).refusal ≤ 22
  ended_le zero r h = go r.stuck
    where
      go : (t : Bool) → cond t 17 0 ≤ 22
      go true = omega arith
      go false = zero-le
  ended_le (suc n) r h = early_le h

  ended_17 : (n : ℕ) (r : Progress) → Early n → (run_from s out n r).refusal ≡ 17 → (n ≡ 0) × (r.stuck ≡ true)
  ended_17 zero r h e = (refl, go r.stuck e)
    where
      go : (t : Bool) → ◌≡◌ {A = ℕ} (cond t 17 0) 17 → t ≡ true
      go true e = refl
      go false e = absurd (omega arith)
  ended_17 (suc n) r h e = absurd (early_not h e)

  counted_few : (n : ℕ) (r : Progress) {k : ℕ} → length r.released ≤ k → (run_from s out n r).count ≤ k
  counted_few zero r h = h
  counted_few (suc n) r h = zero-le

-- Of refusals in their order the first comes before all else.
first_of : {A : Type 0} (n a b : ℕ) (o : Option A) → (n ≡ 0 → ⊥) → chosen ((n or_else a) or_else b) o ≡ refused n
first_of zero a b o h = absurd (h refl)
first_of (suc n) a b o h = refl

-- Where the reading or the file is refused, so are the marks and the halves, by that number.
module _ (reading : ℕ) (file marks : List ℕ) (bad : refusal_under reading file ≡ 0 → ⊥) where
  -- The marks are refused by the number of the reading or the file.
  pub marks_first : marks_refusal reading file marks ≡ refusal_under reading file
  unfolding marks_refusal
  marks_first = first_refused (refusal_under reading file) _ bad

  -- The input half is refused by the number of the reading or the file.
  pub input_first : (s : State) (x : ℕ) → input_of reading file marks s x ≡ refused (refusal_under reading file)
  unfolding input_of input_refusal marks_refusal
  input_first s x = first_of (refusal_under reading file) _ _ _ bad

  -- The output half is refused by that number too, and hands the state back.
  pub output_first : (s : State) (x y : ℕ) → output_of reading file marks s x y ≡ record { answer = refused (refusal_under reading file); state = s }
  unfolding output_of output_refusal marks_refusal
  output_first s x y = ap (output_from s) (first_of (refusal_under reading file) _ _ _ bad)

module _ (reading : ℕ) (file marks : List ℕ) where
  -- What comes before 17 is refused by at most 16, or by 22: the reading, the file and the marks; then the state and what is asked of it.
  marks_early : Early (marks_refusal reading file marks)
  unfolding marks_refusal refusal_under
  marks_early =
      early_else (refusal_under reading file) _ (early_else (reading_refusal reading) _ (reading_early reading) (◌⊎◌.inl (omega (arith, refusal_le file))))
      (◌⊎◌.inl (unless_le (leb (states (policy_of reading file)) (length marks)) 10 16 refl))

  -- The reading, the file and the marks are refused by no number above 22.
  pub marks_le : marks_refusal reading file marks ≤ 22
  marks_le = early_le marks_early

  module _ (s : State) where
    state_le : state_refusal reading file marks s ≤ 16
    unfolding state_refusal
    state_le = search (else_le, unless_le)

    input_early : (x : ℕ) → Early (input_refusal reading file marks s x)
    unfolding input_refusal
    input_early x = early_else (marks_refusal reading file marks) _ marks_early (◌⊎◌.inl (search (else_le, unless_le, state_le)))

    output_early : (x y : ℕ) → Early (output_refusal reading file marks s x y)
    unfolding output_refusal
    output_early x y = early_else (marks_refusal reading file marks) _ marks_early (◌⊎◌.inl (search (else_le, unless_le, state_le)))

    run_early : (events out : List ℕ) → Early (run_refusal reading file marks s events out)
    unfolding run_refusal
    run_early events out = early_else (marks_refusal reading file marks) _ marks_early (◌⊎◌.inl (search (else_le, unless_le, state_le)))

    -- The input half refuses by 1 to 22.
    pub input_up_to : (x : ℕ) → UpTo 22 (input_of reading file marks s x)
    unfolding input_of
    input_up_to x = chosen_up_to (input_refusal reading file marks s x) _ (input_early x)

    -- The output half refuses by 1 to 22.
    pub output_up_to : (x y : ℕ) → UpTo 22 (output_of reading file marks s x y).answer
    unfolding output_of
    output_up_to x y = from_up_to s (output_refusal reading file marks s x y) _ (output_early x y)

    -- The run refuses by no number above 22.
    pub run_up_to : (events out : List ℕ) → (run_of reading file marks s events out).refusal ≤ 22
    unfolding run_of
    run_up_to events out = ended_le s out (run_refusal reading file marks s events out) _ (run_early events out)

    -- A run releases no more events than it reads.
    pub run_few : (events out : List ℕ) → (run_of reading file marks s events out).count ≤ length events
    unfolding run_of
    run_few events out =
        let p = policy_of reading file in
        counted_few s out (run_refusal reading file marks s events out) _
        (omega (arith, ran_few p marks (place_in p s) (map event_of events), length-map events event_of))

    -- The input half gives 17 only where the state is not refused and no input may stand.
    pub input_17 :
        (x : ℕ) → input_of reading file marks s x ≡ refused 17 →
        (state_refusal reading file marks s ≡ 0) × (input_choice (policy_of reading file) marks (place_in (policy_of reading file) s) x ≡ none)
    unfolding input_of input_refusal
    input_17 x e =
        let k = chosen_17 (input_refusal reading file marks s x) _ (input_early x) e in
        let z = ((none_refused (marks_refusal reading file marks) _).0 k.0).1 in
        (((none_refused (state_refusal reading file marks s) _).0 z).0, k.1)

    -- The run gives 17 only where the state is not refused and it stops at an event.
    pub run_17 :
        (events out : List ℕ) → (run_of reading file marks s events out).refusal ≡ 17 →
        (state_refusal reading file marks s ≡ 0) × ((ran (policy_of reading file) marks (place_in (policy_of reading file) s) (map event_of events)).stuck ≡ true)
    unfolding run_of run_refusal
    run_17 events out e =
        let k = ended_17 s out (run_refusal reading file marks s events out) _ (run_early events out) e in
        let z = ((none_refused (marks_refusal reading file marks) _).0 k.0).1 in
        (((none_refused (state_refusal reading file marks s) _).0 ((none_refused (unless (leb (length events) (length out)) 14) _).0 z).1).0, k.1)
