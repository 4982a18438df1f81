-- The whole promise of each half and of the run, under one name, and that one answer alone meets it.
use Rattle.std.specs.Prelude.{◌≡◌, List, ℕ, Option, Some, None, Result, Ok, Err}
use Rattle.std.proofs.Common.{sym, ap, ◌∙◌, refl, arith}
use Rattle.streams.specs.Answer.{Answer, refused, gives}
use Rattle.refusals.specs.Refused.{number_of}
use Rattle.refusals.specs.Laws.{number_above, number_one}
use Rattle.refusals.specs.declared.Refusal.{Refusal}
use Rattle.enforcer.specs.Entries.{OutputAnswer, RunAnswer, input_of, output_of, run_of}
use Rattle.stepping.specs.declared.state.State.{State}
use Rattle.enforcer.specs.declared.runs.Ran as Code

-- What the output half hands back: its answer, and the next state; where it refuses, the state it was given.
abbrev pub handed : State → Result (ℕ × State) Refusal → OutputAnswer
handed s (Ok r) = record { answer = gives r.0; state = r.1 }
handed s (Err n) = record { answer = refused (number_of n); state = s }

-- The number of a run's refusal, or 0 for none.
abbrev pub refusal_said : Option Refusal → ℕ
refusal_said None = 0
refusal_said (Some n) = number_of n

-- What a run hands back, in 01's numbers: its refusal or 0, how many events it released, and the state after them.
pub record Ran : Type 0 where
  pub refusal : ℕ
  pub count : ℕ
  pub state : State

-- What the code's own hands back.
abbrev pub ran_told : Code.Ran → Ran
ran_told r = record { refusal = refusal_said r.refusal; count = r.count; state = r.state }

-- What the run says; `out` is what its slice holds then.
abbrev pub ran_said : Ran → List ℕ → RunAnswer
ran_said r out = record { refusal = r.refusal; count = r.count; state = r.state; out = out }

-- A run that is refused before the first event releases none, and the state stays.
abbrev pub ran_or_none : State → Result Code.Ran Refusal → Code.Ran
ran_or_none s (Ok r) = r
ran_or_none s (Err n) = record { refusal = Some n; count = 0; state = s }

-- The input half answers what Entries says, for any bytes, marks, state and x.
pub record InputPromise (reading : ℕ) (file marks : List ℕ) (s : State) (x : ℕ) (r : Answer ℕ) : Type 0 where
  pub said : r ≡ input_of reading file marks s x

-- The output half answers what Entries says, and hands back that state.
pub record OutputPromise (reading : ℕ) (file marks : List ℕ) (s : State) (x y : ℕ) (r : OutputAnswer) : Type 0 where
  pub said : r ≡ output_of reading file marks s x y

-- `before` and `after` are what the slice for the released events holds.
pub record RunPromise (reading : ℕ) (file marks : List ℕ) (s : State) (events before : List ℕ) (r : Ran) (after : List ℕ) : Type 0 where
  pub said : ran_said r after ≡ run_of reading file marks s events before

-- One answer alone meets the promise of the input half.
pub input_one : {reading : ℕ} {file marks : List ℕ} {s : State} {x : ℕ} {r q : Answer ℕ} → InputPromise reading file marks s x r → InputPromise reading file marks s x q → r ≡ q
input_one h g = h.said ∙ sym g.said

-- One answer alone meets the promise of the output half.
pub output_one : {reading : ℕ} {file marks : List ℕ} {s : State} {x y : ℕ} {r q : OutputAnswer} → OutputPromise reading file marks s x y r → OutputPromise reading file marks s x y q → r ≡ q
output_one h g = h.said ∙ sym g.said

-- Two refusals of a run with one number are the same.
refusal_one : (r q : Option Refusal) → refusal_said r ≡ refusal_said q → r ≡ q
refusal_one None None e = cc
refusal_one None (Some m) e = absurd (omega (arith, number_above m))
refusal_one (Some n) None e = absurd (omega (arith, number_above n))
refusal_one (Some n) (Some m) e = ap Some (number_one n m e)

-- Two runs that say the same are the same.
pub told_same : (r q : Code.Ran) → ran_told r ≡ ran_told q → r ≡ q
told_same r q e =
    let n = refusal_one r.refusal q.refusal (ap (λ (z : Ran). z.refusal) e) in
    let c = ap (λ (z : Ran). z.count) e in
    let s = ap (λ (z : Ran). z.state) e in
    λ i. record { refusal = n i; count = c i; state = s i }

-- Two runs in numbers are the same where all that they say is.
pub ran_one : (r q : Ran) → r.refusal ≡ q.refusal → r.count ≡ q.count → r.state ≡ q.state → r ≡ q
ran_one r q e c s = λ i. record { refusal = e i; count = c i; state = s i }

-- One answer and one later slice alone meet the promise of the run.
pub run_one : {reading : ℕ} {file marks : List ℕ} {s : State} {events before after also : List ℕ} {r q : Ran} →
    RunPromise reading file marks s events before r after → RunPromise reading file marks s events before q also → (r ≡ q) × (after ≡ also)
run_one {r} {q} h g =
    let e = h.said ∙ sym g.said in (
      ran_one r q (ap (λ (z : RunAnswer). z.refusal) e) (ap (λ (z : RunAnswer). z.count) e) (ap (λ (z : RunAnswer). z.state) e),
      ap (λ (z : RunAnswer). z.out) e,
    )
