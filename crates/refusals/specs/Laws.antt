-- What follows of a result from the numbers.
use Rattle.std.specs.Prelude.{◌≡◌, refl, ℕ, zero, suc, ◌<◌, cond, eqb, Result, Ok, Err}
use Rattle.std.specs.Result.{IsErrAnd}
use Rattle.std.proofs.Common.{arith, sym, ap, ◌∙◌}
use Rattle.std.proofs.lemmas.Result.{err_from_is_err_and}
use Rattle.streams.specs.Answer.{Answer, refused, gives, answer, ◌or_else◌}
use Rattle.refusals.specs.Refused.{number_of, refusal_in, told}
use Rattle.refusals.specs.declared.Refusal.{Refusal}

-- No refusal has the number 0, which stands for none.
pub number_above : (r : Refusal) → 0 < number_of r
number_above Refusal.CutShort = omega arith
number_above Refusal.BadCount = omega arith
number_above Refusal.BadTag = omega arith
number_above Refusal.BadCeiling = omega arith
number_above Refusal.BadLocation = omega arith
number_above Refusal.BadHead = omega arith
number_above Refusal.BadBounds = omega arith
number_above Refusal.LeftOver = omega arith
number_above Refusal.ManyStates = omega arith
number_above Refusal.FewMarks = omega arith
number_above Refusal.Hopeless = omega arith
number_above Refusal.OtherTags = omega arith
number_above Refusal.LargeJoin = omega arith
number_above Refusal.NoRoom = omega arith
number_above Refusal.BadEvent = omega arith
number_above Refusal.BadState = omega arith
number_above Refusal.NothingStands = omega arith
number_above Refusal.NoTick = omega arith
number_above Refusal.LongTime = omega arith
number_above Refusal.OtherMarks = omega arith
number_above Refusal.NoWave = omega arith
number_above Refusal.BadReading = omega arith
number_above Refusal.LittleWork = omega arith
number_above Refusal.NoBay = omega arith
number_above Refusal.BadBays = omega arith
number_above Refusal.NoMeter = omega arith
number_above Refusal.FullTotal = omega arith
number_above Refusal.OtherIndex = omega arith
number_above Refusal.ManyEvents = omega arith
number_above Refusal.BadForm = omega arith
number_above Refusal.BadName = omega arith
number_above Refusal.LargeNumber = omega arith
number_above Refusal.NoPlace = omega arith
number_above Refusal.BadOrder = omega arith
number_above Refusal.NoneSuch = omega arith

-- A number above 0 decides.
above_decides : (n b : ℕ) → 0 < n → (n or_else b) ≡ n
above_decides zero b h = absurd (omega arith)
above_decides (suc n) b h = refl

above_answers : {A : Type 0} (n : ℕ) (a : A) → 0 < n → answer n a ≡ refused n
above_answers zero a h = absurd (omega arith)
above_answers (suc n) a h = refl

-- The refusal that is given comes before any other.
pub refused_first : (r : Refusal) (b : ℕ) → (number_of r or_else b) ≡ number_of r
refused_first r b = above_decides (number_of r) b (number_above r)

-- With it nothing is given.
pub refused_answer : {A : Type 0} (r : Refusal) (a : A) → answer (number_of r) a ≡ refused (number_of r)
refused_answer r a = above_answers (number_of r) a (number_above r)

-- The refusal of a number.
by_number : ℕ → Refusal
by_number n =
    cond (eqb n 1) Refusal.CutShort (
    cond (eqb n 2) Refusal.BadCount (
    cond (eqb n 3) Refusal.BadTag (
    cond (eqb n 4) Refusal.BadCeiling (
    cond (eqb n 5) Refusal.BadLocation (
    cond (eqb n 6) Refusal.BadHead (
    cond (eqb n 7) Refusal.BadBounds (
    cond (eqb n 8) Refusal.LeftOver (
    cond (eqb n 9) Refusal.ManyStates (
    cond (eqb n 10) Refusal.FewMarks (
    cond (eqb n 11) Refusal.Hopeless (
    cond (eqb n 12) Refusal.OtherTags (
    cond (eqb n 13) Refusal.LargeJoin (
    cond (eqb n 14) Refusal.NoRoom (
    cond (eqb n 15) Refusal.BadEvent (
    cond (eqb n 16) Refusal.BadState (
    cond (eqb n 17) Refusal.NothingStands (
    cond (eqb n 18) Refusal.NoTick (
    cond (eqb n 19) Refusal.LongTime (
    cond (eqb n 20) Refusal.OtherMarks (
    cond (eqb n 21) Refusal.NoWave (
    cond (eqb n 22) Refusal.BadReading (
    cond (eqb n 23) Refusal.LittleWork (
    cond (eqb n 24) Refusal.NoBay (
    cond (eqb n 25) Refusal.BadBays (
    cond (eqb n 26) Refusal.NoMeter (
    cond (eqb n 27) Refusal.FullTotal (
    cond (eqb n 28) Refusal.OtherIndex (
    cond (eqb n 29) Refusal.ManyEvents (
    cond (eqb n 30) Refusal.BadForm (
    cond (eqb n 31) Refusal.BadName (
    cond (eqb n 32) Refusal.LargeNumber (
    cond (eqb n 33) Refusal.NoPlace (
    cond (eqb n 34) Refusal.BadOrder (
    Refusal.NoneSuch))))))))))))))))))))))))))))))))))

by_its_number : (r : Refusal) → by_number (number_of r) ≡ r
unfolding by_number
by_its_number Refusal.CutShort = refl
by_its_number Refusal.BadCount = refl
by_its_number Refusal.BadTag = refl
by_its_number Refusal.BadCeiling = refl
by_its_number Refusal.BadLocation = refl
by_its_number Refusal.BadHead = refl
by_its_number Refusal.BadBounds = refl
by_its_number Refusal.LeftOver = refl
by_its_number Refusal.ManyStates = refl
by_its_number Refusal.FewMarks = refl
by_its_number Refusal.Hopeless = refl
by_its_number Refusal.OtherTags = refl
by_its_number Refusal.LargeJoin = refl
by_its_number Refusal.NoRoom = refl
by_its_number Refusal.BadEvent = refl
by_its_number Refusal.BadState = refl
by_its_number Refusal.NothingStands = refl
by_its_number Refusal.NoTick = refl
by_its_number Refusal.LongTime = refl
by_its_number Refusal.OtherMarks = refl
by_its_number Refusal.NoWave = refl
by_its_number Refusal.BadReading = refl
by_its_number Refusal.LittleWork = refl
by_its_number Refusal.NoBay = refl
by_its_number Refusal.BadBays = refl
by_its_number Refusal.NoMeter = refl
by_its_number Refusal.FullTotal = refl
by_its_number Refusal.OtherIndex = refl
by_its_number Refusal.ManyEvents = refl
by_its_number Refusal.BadForm = refl
by_its_number Refusal.BadName = refl
by_its_number Refusal.LargeNumber = refl
by_its_number Refusal.NoPlace = refl
by_its_number Refusal.BadOrder = refl
by_its_number Refusal.NoneSuch = refl

-- No two refusals have one number.
pub number_one : (r s : Refusal) → number_of r ≡ number_of s → r ≡ s
number_one r s e = sym (by_its_number r) ∙ ap by_number e ∙ by_its_number s

gives-one : {A : Type 0} (a b : A) → Path (Answer A) (gives a) (gives b) → a ≡ b
gives-one a b e = cc

refused-one : {A : Type 0} (m n : ℕ) → Path (Answer A) (refused m) (refused n) → m ≡ n
refused-one m n e = cc

-- Two results that say the same are the same.
pub told_one : {A : Type 0} (r s : Result A Refusal) → told r ≡ told s → r ≡ s
told_one (Ok a) (Ok b) e = ap Ok (gives-one a b e)
told_one (Err r) (Err s) e = ap Err (number_one r s (refused-one (number_of r) (number_of s) e))
told_one (Ok a) (Err s) e = cc
told_one (Err r) (Ok b) e = cc

-- The refusal that a `?` hands on is the one that it met.
pub handed_on : {A : Type 0} (r : Result A Refusal) (e : Refusal) → IsErrAnd r (λ d. d ≡ e) → r ≡ Err e
handed_on r e h = let k = err_from_is_err_and r h in k.1 ∙ ap Err k.2

-- It comes before any other.
pub handed_first : {A : Type 0} (r : Result A Refusal) (e : Refusal) {n : ℕ} (b : ℕ) → IsErrAnd r (λ d. d ≡ e) → number_of e ≡ n → refusal_in r ≡ (n or_else b)
handed_first r e b h g = rw (handed_on r e h, ← g, refused_first)

-- With it nothing is given.
pub handed_answer : {A : Type 0} (r : Result A Refusal) (e : Refusal) {n : ℕ} (a : A) → IsErrAnd r (λ d. d ≡ e) → number_of e ≡ n → told r ≡ answer n a
handed_answer r e a h g = rw (handed_on r e h, ← g, refused_answer)
