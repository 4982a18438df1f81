-- Laws of the refusals of a file and of a reading.
use Rattle.std.specs.Prelude.{◌≡◌, refl, ◌||◌, List, [], ◌∷◌, ◌⊎◌, ◌↔◌, ℕ, zero, suc, ◌≤◌, ◌<◌, eqb}
use Rattle.std.proofs.Common.{⊎_elim, zero-le, arith, ne_eqb}
use Rattle.streams.specs.AnswerLaws.{none_refused, unless_le, else_le}
use Rattle.policy.specs.Rules.{Rule}
use Rattle.policy.specs.Check.{clocks_refusal, inputs_refusal, locations_refusal, outputs_refusal, reading_refusal, refusal_of, refusal_under, rule_refusal, rules_refusal, rules_section_refusal, section_refusal}

-- No refusal of a section is above 9.
section_le : (f : List ℕ) (at width n low high size : ℕ) → section_refusal f at width n low high size ≤ 9
unfolding section_refusal
section_le f at width n low high size = search (else_le, unless_le)

rule_le : (inputs outputs : ℕ) (cs : List ℕ) (locations before : ℕ) (r : Rule) → rule_refusal inputs outputs cs locations before r ≤ 9
unfolding rule_refusal
rule_le inputs outputs cs locations before r = search (else_le, unless_le)

rules_le : (inputs outputs : ℕ) (cs : List ℕ) (locations before : ℕ) (rs : List Rule) → rules_refusal inputs outputs cs locations before rs ≤ 9
unfolding rules_refusal
rules_le inputs outputs cs locations before [] = zero-le
rules_le inputs outputs cs locations before (r ∷ rs) =
    else_le (rule_le inputs outputs cs locations before r) (rules_le inputs outputs cs locations r.source rs)

module _ (f : List ℕ) where
  -- No refusal of a file is above 9.
  pub refusal_le : refusal_of f ≤ 9
  unfolding refusal_of inputs_refusal outputs_refusal clocks_refusal locations_refusal rules_section_refusal
  refusal_le = search (else_le, unless_le, section_le, rules_le) depth 9

-- Readings 1 and 2 are not refused.
pub a_reading : (reading : ℕ) → 1 ≤ reading → reading ≤ 2 → reading_refusal reading ≡ 0
unfolding reading_refusal
a_reading zero l u = absurd (omega arith)
a_reading (suc zero) l u = refl
a_reading (suc (suc zero)) l u = refl
a_reading (suc (suc (suc n))) l u = absurd (omega arith)

-- Any other reading is refused by 22.
pub no_reading : (reading : ℕ) → (reading < 1) ⊎ (2 < reading) → reading_refusal reading ≡ 22
unfolding reading_refusal
no_reading zero h = refl
no_reading (suc zero) h = absurd (⊎_elim (λ l. omega arith) (λ l. omega arith) h)
no_reading (suc (suc zero)) h = absurd (⊎_elim (λ l. omega arith) (λ l. omega arith) h)
no_reading (suc (suc (suc n))) h = rw (ne_eqb (suc (suc (suc n))) 1 (λ e. omega arith), ne_eqb (suc (suc (suc n))) 2 (λ e. omega arith))

-- A file passes under a reading exactly if the reading is 1 or 2 and the file passes by itself.
pub under_none : (reading : ℕ) (f : List ℕ) → (refusal_under reading f ≡ 0) ↔ ((reading_refusal reading ≡ 0) × (refusal_of f ≡ 0))
unfolding refusal_under
under_none reading f = none_refused (reading_refusal reading) (refusal_of f)

-- No refusal of a file under a reading is above 22.
pub under_le : (reading : ℕ) (f : List ℕ) → refusal_under reading f ≤ 22
unfolding refusal_under reading_refusal
under_le reading f = let h : refusal_of f ≤ 22 = omega (arith, refusal_le f) in else_le (unless_le (eqb reading 1 || eqb reading 2) 22 22 refl) h
