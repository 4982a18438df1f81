-- 2/13, over the promise of why: its one answer for the samples of 01, with the marks of prepare. The reasons are the cases by hand (reasons: `Cases`).
use Rattle.streams.specs.Answer.{Answer, refused, gives}
use Rattle.std.specs.Prelude.{◌≡◌, refl, [], ◌∷◌, ℕ, replicate}
use Rattle.stepping.specs.State.{state_good, clocks_good}
use Rattle.enforcer.specs.Entries.{state_refusal}
use Rattle.stepping.specs.declared.state.State.{State}
use Rattle.counting.specs.OtherMarks.{differ}
use Rattle.reasons.specs.Entry.{why_refusal, refuses, explains}
use Rattle.reasons.specs.Promise.{WhyPromise, why_one}
use Rattle.reasons.specs.Cases as By
use Rattle.explaining.specs.EachHalf.{Reasons}
use Rattle.explaining.specs.CodeReasons.{both_said}
use Rattle.explaining.specs.declared.reason.Reason.{Reason}
use Rattle.explaining.specs.declared.reason.Reason.TheVariants as Reason
use Rattle.tender.specs.Samples.{S, D, T}
use Rattle.prepare.specs.Computing.{the_file, the_check, a_step, the_marks}

-- A state: the location, and the value of the first clock.
abbrev pub state : ℕ → ℕ → State
state location v = record { location = location; clocks = v ∷ 0 ∷ 0 ∷ 0 ∷ [] }

-- The answer with the reason for the input and the one for the output.
abbrev pub tells : Reason → Reason → Answer Reasons
tells i o = gives (both_said (record { input = i; output = o }))

-- S: A with B, then B with R. D: on the fourth tick after R without C; under reading 2 on the third. T: no tick could have come after the input; and with both its
-- states marked, which prepare does not do, 20.
pub sample_answers : (r : Answer Reasons) →
    (WhyPromise 1 S (1 ∷ []) (state 0 0) 3 1 r → r ≡ tells (Reason.Rule 0) Reason.Kept)
    × (WhyPromise 1 S (1 ∷ []) (state 0 0) 2 1 r → r ≡ tells Reason.Kept (Reason.Rule 1))
    × (WhyPromise 1 D (replicate 8 1) (state 1 3) 0 0 r → r ≡ tells Reason.Kept Reason.Unmatched)
    × (WhyPromise 2 D (replicate 8 1) (state 1 2) 0 0 r → r ≡ tells Reason.Kept Reason.Unmatched)
    × (WhyPromise 1 T (1 ∷ 0 ∷ []) (state 0 0) 1 1 r → r ≡ tells (Reason.Ticks 0) Reason.Kept)
    × (WhyPromise 1 T (1 ∷ 1 ∷ []) (state 0 0) 1 1 r → r ≡ refused 20)
unfolding the_file the_check a_step the_marks why_refusal differ state_refusal state_good clocks_good
sample_answers r = (
  λ h. why_one h (record { answers = explains refl (By.S-cases).0 }),
  λ h. why_one h (record { answers = explains refl (By.S-cases).1 }),
  λ h. why_one h (record { answers = explains refl (By.D-cases).0 }),
  λ h. why_one h (record { answers = explains refl (By.D-cases).1 }),
  λ h. why_one h (record { answers = explains refl By.T-case }),
  λ h. why_one h (record { answers = refuses refl }),
)
