-- What `why` answers, for any bytes, marks, state, x and y.
use Rattle.std.specs.Prelude.{◌≡◌, not, ◌&&◌, List, ℕ, suc, ◌≤◌}
use Rattle.std.proofs.Common.{sym, ap, ◌∙◌, arith}
use Rattle.streams.specs.Answer.{Answer, refused, gives, ◌or_else◌, unless, UpTo}
use Rattle.streams.specs.AnswerLaws.{else_le, unless_le}
use Rattle.policy.specs.File.{policy_of}
use Rattle.stepping.specs.State.{place_in}
use Rattle.enforcer.specs.Entries.{x_good, y_good, marks_refusal, state_refusal}
use Rattle.enforcer.specs.Refusals.{marks_le}
use Rattle.explaining.specs.Reasons.{Reason, Explained, explained_one}
use Rattle.stepping.specs.declared.state.State.{State}
use Rattle.counting.specs.OtherMarks.{other_marks}
use Rattle.explaining.specs.EachHalf.{Reasons}

module _ (reading : ℕ) (file marks : List ℕ) (s : State) (x y : ℕ) where
  -- "Refusals: as the input half; marks that are not those of prepare give the new number 20, after 16." 17 cannot come: from a live state, with the marks of
  -- prepare, some input reaches a marked state, and for the x' that is passed on some output does.
  unfoldable pub why_refusal : ℕ
  why_refusal =
      marks_refusal reading file marks or_else state_refusal reading file marks s or_else unless (not (other_marks (policy_of reading file) marks)) 20
      or_else unless (x_good reading file x && y_good reading file y) 15

  -- The refusal, if there is one; without one the reasons that explain the tick.
  pub data WhyAnswers : Answer Reasons → Type 0 where
    refuses : {n : ℕ} → why_refusal ≡ suc n → WhyAnswers (refused (suc n))
    explains : {i o : Reason} → why_refusal ≡ 0 → Explained (policy_of reading file) marks (place_in (policy_of reading file) s) x y i o →
        WhyAnswers (gives (record { input = i; output = o }))

  -- One answer alone is right.
  pub answers_one : {r q : Answer Reasons} → WhyAnswers r → WhyAnswers q → r ≡ q
  answers_one (refuses {n = n} a) (refuses {n = m} b) = ap refused (sym a ∙ b)
  answers_one (refuses a) (explains b h) = absurd (omega arith)
  answers_one (explains a h) (refuses b) = absurd (omega arith)
  answers_one (explains a h) (explains b g) = let e = explained_one h g in λ d. gives (record { input = e.0 d; output = e.1 d })

  -- No refusal is above 22.
  refusal_le : why_refusal ≤ 22
  unfolding why_refusal state_refusal
  refusal_le = let m = marks_le reading file marks in search (else_le, unless_le) depth 9

  -- A refusal is one of the numbers 1 to 22.
  pub answers_up_to : {r : Answer Reasons} → WhyAnswers r → UpTo 22 r
  answers_up_to (refuses e) = (omega arith, omega (arith, refusal_le))
  answers_up_to (explains e h) = tt
