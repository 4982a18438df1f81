-- The worthless versions of 01, over demand 2: on a sample each does what no right run does.
use Rattle.std.specs.Prelude.{◌≡◌, true, List, [], ◌∷◌, map, ℕ, zero, suc, ◌≤◌, length, get_or}
use Rattle.std.proofs.Math.Path.{refl}
use Rattle.std.proofs.Common.{sym, ap, ◌∙◌, le_refl, arith}
use Rattle.std.proofs.lemmas.List.{length-replicate}
use Rattle.streams.specs.Answer.{Answer, refused, gives}
use Rattle.streams.specs.Stream.{Hopeless}
use Rattle.streams.specs.Laws.{not_both}
use Rattle.policy.specs.Rules.{start, Permits}
use Rattle.policy.specs.Number.{states}
use Rattle.policy.specs.File.{policy_of, outputs_at}
use Rattle.policy.specs.Check.{all_pass}
use Rattle.stepping.specs.State.{state_of}
use Rattle.enforcer.specs.Entries.{RunAnswer, event_good}
use Rattle.prepare.specs.Entry.{prepare_of}
use Rattle.prepare.specs.declared.Summary.{Summary}
use Rattle.tender.specs.Samples.{S, T}
use Rattle.tender.specs.Cases
use Rattle.tender.specs.Demand2.{Run, Right}
use Rattle.tender.specs.Granted.{given_goes_on}
use Rattle.tender.specs.Demand2Shown.{releases, released_one}

-- A marked case, by its place in the list. Those of 01 are under reading 1, and so is all that follows.
pub marked : (i : ℕ) →
    get_or (map (λ c. Cases.said c.reading c.file c.asked) Cases.cases) i (Cases.released [])
    ≡ get_or (map (λ (c : Cases.Case). c.expected) Cases.cases) i (Cases.released [])
marked i = ap (λ (l : List Cases.Said). get_or l i (Cases.released [])) Cases.marked_cases

-- Prepare gives a summary of the sample.
abbrev Prepares : List ℕ → Type 0
Prepares file = (s : Summary) × (prepare_of 1 file (Cases.lent (states (policy_of 1 file))) ≡ gives s)

said_given : (file : List ℕ) (v n l : ℕ) → Cases.said 1 file Cases.prepared ≡ Cases.summary v n l → Prepares file
said_given file v n l = go (prepare_of 1 file (Cases.lent (states (policy_of 1 file))))
  where
    go : (a : Answer Summary) → Cases.said_of_prepare (Cases.marks 1 file) a ≡ Cases.summary v n l → (s : Summary) × (a ≡ gives s)
    go (refused n) e = let z : ◌≡◌ {A = ℕ} 0 1 = cc in absurd (omega arith)
    go (gives s) e = (s, refl)

-- Where a run refused nothing, what it is said to have released is what its slice holds.
pub said_released : (n : ℕ) (out rs : List ℕ) → n ≡ 0 → Cases.said_of_run n out ≡ Cases.released rs → out ≡ rs
said_released zero out rs z e = cc
said_released (suc n) out rs z e = absurd (omega arith)

S-given : Prepares S
unfolding Cases.cases
S-given = said_given S 0 1 1 (marked 4)

T-given : Prepares T
unfolding Cases.cases
T-given = said_given T 1 2 1 (marked 7)

-- "These worthless versions are to be rejected". A prepare "refusing always" refuses S, which is not hopeless.
pub S-not-hopeless : ¬ Hopeless (Permits (policy_of 1 S))
S-not-hopeless = not_both (Permits (policy_of 1 S)) [] (given_goes_on 1 S (Cases.lent (states (policy_of 1 S))) S-given.0 S-given.1)

-- The others are runs. On a sample, from the start and with the marks of prepare, each does what no right run does.
abbrev pub sample : Run → (file events : List ℕ) → RunAnswer
sample run file events = run 1 file (Cases.marks 1 file) (state_of (start (policy_of 1 file))) events (Cases.lent (length events))

module _ (run : Run) (right : Right run) where
  -- A right run releases what a marked case says.
  as_marked :
      (file : List ℕ) → Prepares file → (events rs : List ℕ) → all_pass (event_good 1 file) events ≡ true →
      Cases.said 1 file (Cases.enforced events) ≡ Cases.released rs → ((sample run file events).refusal ≡ 0) × ((sample run file events).out ≡ rs)
  as_marked file s events rs good e =
      let marks = Cases.lent (states (policy_of 1 file)) in
      let out = Cases.lent (length events) in
      let room : length events ≤ length out = rw length-replicate (le_refl (length events)) in
      let a = right 1 file marks s.0 s.1 events out good room in
      let b = releases 1 file marks s.0 s.1 events out good room in
      (a.refusal, ap (λ (r : RunAnswer). r.out) (released_one a b) ∙ said_released _ _ rs b.refusal e)

  S-03 : ((sample run S (0x03 ∷ [])).refusal ≡ 0) × ((sample run S (0x03 ∷ [])).out ≡ 0x01 ∷ [])
  unfolding all_pass policy_of outputs_at Cases.cases
  S-03 = as_marked S S-given (0x03 ∷ []) (0x01 ∷ []) refl (marked 0)

  S-12 : ((sample run S (0x12 ∷ [])).refusal ≡ 0) × ((sample run S (0x12 ∷ [])).out ≡ 0x02 ∷ [])
  unfolding all_pass policy_of outputs_at Cases.cases
  S-12 = as_marked S S-given (0x12 ∷ []) (0x02 ∷ []) refl (marked 1)

  T-01-11 : ((sample run T (0x01 ∷ 0x11 ∷ [])).refusal ≡ 0) × ((sample run T (0x01 ∷ 0x11 ∷ [])).out ≡ 0x00 ∷ 0x10 ∷ [])
  unfolding all_pass policy_of outputs_at Cases.cases
  T-01-11 = as_marked T T-given (0x01 ∷ 0x11 ∷ []) (0x00 ∷ 0x10 ∷ []) refl (marked 8)

  -- "one refusing always"
  pub not_refusing : (n : ℕ) → ¬ ((sample run S (0x03 ∷ [])).refusal ≡ suc n)
  not_refusing n e = omega (arith, S-03.0)

  -- "one releasing the same event always"
  pub not_one_event : (b : ℕ) → (sample run S (0x03 ∷ [])).out ≡ b ∷ [] → ¬ ((sample run S (0x12 ∷ [])).out ≡ b ∷ [])
  not_one_event b e d = omega (arith, first (sym e ∙ S-03.1), first (sym d ∙ S-12.1))
    where
      first : {l k : List ℕ} → l ≡ k → get_or l 0 0 ≡ get_or k 0 0
      first = ap (λ (l : List ℕ). get_or l 0 0)

  -- "one forwarding everything": T's event 01 meets no violation itself, and has no future.
  pub not_forwarding : ¬ ((sample run T (0x01 ∷ 0x11 ∷ [])).out ≡ 0x01 ∷ 0x11 ∷ [])
  not_forwarding e = omega (arith, ap (λ (l : List ℕ). get_or l 0 0) (sym e ∙ T-01-11.1))

  -- "one correcting the first tick and forwarding the others"
  pub not_first_alone : (b : ℕ) → ¬ ((sample run T (0x01 ∷ 0x11 ∷ [])).out ≡ b ∷ 0x11 ∷ [])
  not_first_alone b e = omega (arith, ap (λ (l : List ℕ). get_or l 1 0) (sym e ∙ T-01-11.1))
