-- "These worthless versions are to be rejected", from the promises of the code and by marked cases, which are under reading 1. As runs over the
-- definitions they are in specs/WorthlessRuns.antt.
use Rattle.streams.specs.Answer.{gives}
use Rattle.std.specs.Prelude.{◌≡◌, true, List, [], ◌∷◌, ℕ, suc, ◌≤◌, length, get_or}
use Rattle.std.proofs.Math.Path.{refl}
use Rattle.std.proofs.Common.{sym, ap, ◌∙◌, le_refl, arith}
use Rattle.std.proofs.lemmas.List.{length-replicate}
use Rattle.streams.specs.Laws.{not_both}
use Rattle.policy.specs.Rules.{Permits}
use Rattle.policy.specs.Number.{states}
use Rattle.policy.specs.File.{policy_of, outputs_at}
use Rattle.policy.specs.Check.{all_pass}
use Rattle.enforcer.specs.Entries.{RunAnswer, event_good}
use Rattle.stepping.specs.Code.{start_state}
use Rattle.enforcer.specs.Promises.{RunPromise}
use Rattle.enforcer.specs.Promises.{Ran}
use Rattle.prepare.specs.Promise.{PreparePromise}
use Rattle.prepare.specs.declared.Summary.{Summary}
use Rattle.tender.specs.Samples.{S, T}
use Rattle.tender.specs.Cases
use Rattle.tender.specs.Granted.{given_passed, given_goes_on}
use Rattle.tender.specs.Demand2Shown.{releases, released_one, prepared_otherwise}
use Rattle.tender.specs.WorthlessRuns.{marked, said_released}
use Rattle.tender.specs.Code.{code_releases}
-- "one refusing always" and "one inventing the number of live states", of prepare.
pub use Rattle.tender.specs.Demand1Shown.{not_refusing, not_inventing}

-- Prepare's code gave a summary, and run's code ran under the same reading, from `State::start()` with those marks, over the events of a marked case
-- and into a slice of as many bytes: it refuses nothing, and the slice holds what the case says.
pub code_marked :
    {reading : ℕ} {file before marks events rs after : List ℕ} {s : Summary} {r : Ran} → PreparePromise reading file before (gives s) marks →
    RunPromise reading file marks start_state events (Cases.lent (length events)) r after → all_pass (event_good reading file) events ≡ true →
    Cases.said reading file (Cases.enforced events) ≡ Cases.released rs → (r.refusal ≡ 0) × (after ≡ rs)
code_marked {reading} {file} {before} {events = events} {rs = rs} {s = s} h k good e =
    let p = policy_of reading file in
    let given = sym h.said in
    let lent = Cases.lent (states p) in
    let room : length events ≤ length (Cases.lent (length events)) = rw length-replicate (le_refl (length events)) in
    let long : states p ≤ length lent = rw length-replicate (le_refl (states p)) in
    let gave =
    (prepared_otherwise reading file lent (given_passed reading file before s given) long).0
    (not_both (Permits p) [] (given_goes_on reading file before s given))
    in
    let a = code_releases h k good room in
    let b = releases reading file lent _ gave events (Cases.lent (length events)) good room in
    (a.refusal, ap (λ (q : RunAnswer). q.out) (released_one a b) ∙ said_released _ _ rs b.refusal e)

-- What the slice holds at its place i.
at : (i : ℕ) {l k : List ℕ} → l ≡ k → get_or l i 0 ≡ get_or k i 0
at i = ap (λ (l : List ℕ). get_or l i 0)

module _ {before marks : List ℕ} {s : Summary} where
  -- On S, from the start.
  module _ (h : PreparePromise 1 S before (gives s) marks) where
    S-03 : {after : List ℕ} {r : Ran} → RunPromise 1 S marks start_state (0x03 ∷ []) (Cases.lent 1) r after → (r.refusal ≡ 0) × (after ≡ 0x01 ∷ [])
    unfolding all_pass policy_of outputs_at Cases.cases
    S-03 k = code_marked h k refl (marked 0)

    S-12 : {after : List ℕ} {r : Ran} → RunPromise 1 S marks start_state (0x12 ∷ []) (Cases.lent 1) r after → (r.refusal ≡ 0) × (after ≡ 0x02 ∷ [])
    unfolding all_pass policy_of outputs_at Cases.cases
    S-12 k = code_marked h k refl (marked 1)

    -- "one refusing always", of run.
    pub run_not_refusing : {after : List ℕ} {r : Ran} {n : ℕ} → RunPromise 1 S marks start_state (0x03 ∷ []) (Cases.lent 1) r after → ¬ (r.refusal ≡ suc n)
    run_not_refusing k e = omega (arith, (S-03 k).0)

    -- "one releasing the same event always"
    pub run_not_one_event :
        {after also : List ℕ} {r q : Ran} {b : ℕ} → RunPromise 1 S marks start_state (0x03 ∷ []) (Cases.lent 1) r after →
        RunPromise 1 S marks start_state (0x12 ∷ []) (Cases.lent 1) q also → after ≡ b ∷ [] → ¬ (also ≡ b ∷ [])
    run_not_one_event j k e d = omega (arith, at 0 (sym e ∙ (S-03 j).1), at 0 (sym d ∙ (S-12 k).1))

  -- On T, from the start.
  module _ (h : PreparePromise 1 T before (gives s) marks) {after : List ℕ} {r : Ran}
      (k : RunPromise 1 T marks start_state (0x01 ∷ 0x11 ∷ []) (Cases.lent 2) r after) where
    T-01-11 : after ≡ 0x00 ∷ 0x10 ∷ []
    unfolding all_pass policy_of outputs_at Cases.cases
    T-01-11 = (code_marked h k refl (marked 8)).1

    -- "one forwarding everything"
    pub run_not_forwarding : ¬ (after ≡ 0x01 ∷ 0x11 ∷ [])
    run_not_forwarding e = omega (arith, at 0 (sym e ∙ T-01-11))

    -- "one correcting the first tick and forwarding the others"
    pub run_not_first_alone : (b : ℕ) → ¬ (after ≡ b ∷ 0x11 ∷ [])
    run_not_first_alone b e = omega (arith, at 1 (sym e ∙ T-01-11))
