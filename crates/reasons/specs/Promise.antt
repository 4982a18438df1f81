-- The whole promise of `why` under one name, and that one answer alone meets it.
use Rattle.std.specs.Prelude.{◌≡◌, List, ℕ, ◌<◌, Result, Ok, Err}
use Rattle.streams.specs.Answer.{Answer, refused, gives}
use Rattle.refusals.specs.Refused.{number_of}
use Rattle.refusals.specs.declared.Refusal.{Refusal}
use Rattle.stepping.specs.declared.state.State.{State}
use Rattle.explaining.specs.Reasons.{count_of}
use Rattle.explaining.specs.EachHalf.{Reasons}
use Rattle.explaining.specs.CodeReasons.{both_said}
use Rattle.explaining.specs.declared.reason.Reasons.{Reasons as Both}
use Rattle.reasons.specs.Entry.{WhyAnswers, answers_one}

-- The answer of the code, as the definitions say it.
abbrev pub answer_said : Result Both Refusal → Answer Reasons
answer_said (Ok r) = gives (both_said r)
answer_said (Err n) = refused (number_of n)

-- The same of an answer whose refusal is a number already: it may be any.
abbrev pub answer_numbered : Result Both ℕ → Answer Reasons
answer_numbered (Ok r) = gives (both_said r)
answer_numbered (Err n) = refused n

-- What `why` promises for any reading, file, marks, state, x and y.
pub record WhyPromise (reading : ℕ) (file marks : List ℕ) (s : State) (x y : ℕ) (r : Answer Reasons) : Type 0 where
  pub answers : WhyAnswers reading file marks s x y r

-- One answer alone meets it.
pub why_one : {reading : ℕ} {file marks : List ℕ} {s : State} {x y : ℕ} {r q : Answer Reasons} → WhyPromise reading file marks s x y r → WhyPromise reading file marks s x y q → r ≡ q
why_one {reading} {file} {marks} {s} {x} {y} h g = answers_one reading file marks s x y h.answers g.answers

-- Each number is below that of the states that a policy can have.
abbrev pub SmallReasons : Answer Reasons → Type 0
SmallReasons (gives r) = (count_of r.input < 65536) × (count_of r.output < 65536)
SmallReasons (refused n) = Unit {0}
