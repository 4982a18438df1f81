-- Two results of the code that say the same are the same.
-- The laws of one answer speak of what a result says, so with these they speak of the result.
use Rattle.std.specs.Prelude.{◌≡◌, refl, ℕ, Option, Some, None, Result, Ok, Err}
use Rattle.std.proofs.Common.{sym, ap, ◌∙◌, arith}
use Rattle.std.proofs.lemmas.Bool.{false≢true}
use Rattle.streams.specs.Answer.{Answer, refused, gives}
use Rattle.refusals.specs.Refused.{number_of, refusal_in}
use Rattle.refusals.specs.Laws.{number_above, number_one}
use Rattle.refusals.specs.declared.Refusal.{Refusal}
use Rattle.stepping.specs.declared.state.State.{State}
use Rattle.enforcer.specs.Entries.{OutputAnswer}
use Rattle.enforcer.specs.Promises.{Ran, handed}
use Rattle.explaining.specs.Reasons.{kept, rule, unmatched, ticks, rests}
use Rattle.explaining.specs.Reasons as Words
use Rattle.explaining.specs.EachHalf as EachHalf
use Rattle.explaining.specs.CodeReasons.{reason_said, both_said}
use Rattle.explaining.specs.declared.reason.Reason.{Reason}
use Rattle.explaining.specs.declared.reason.Reasons.{Reasons as Both}
use Rattle.reasons.specs.Promise.{answer_said}
use Rattle.reasons.specs.Runs.{walked}
use Rattle.compiling.specs.declared.refused.LineRefusal.{LineRefusal}
use Rattle.compiling.specs.Promise.{ReadText, read_said, judged_said, is_good}
use Rattle.showing.specs.Promise.{Written, written_said}
use Rattle.pointing.specs.RuleAt.{RuleAt}
use Rattle.pointing.specs.Said.{rule_said}

-- What is given is one.
given_one : {A : Type 0} (a b : A) → Path (Answer A) (gives a) (gives b) → a ≡ b
given_one a b e = cc

-- The number of what is refused is one.
refused_one : {A : Type 0} (m n : ℕ) → Path (Answer A) (refused m) (refused n) → m ≡ n
refused_one m n e = cc

-- An answer does not give and refuse.
gives_refuses : {A : Type 0} (a : A) (n : ℕ) → Path (Answer A) (gives a) (refused n) → ⊥
gives_refuses a n e = cc

-- A refusal has no number 0.
not_none : (r : Refusal) → ◌≡◌ {A = ℕ} 0 (number_of r) → ⊥
not_none r e = let above = number_above r in omega arith

-- What an entry answers that gives nothing else: 0, or the number of its refusal.
pub refusal_in_one : (r q : Result (Unit {0}) Refusal) → refusal_in r ≡ refusal_in q → r ≡ q
refusal_in_one (Ok a) (Ok b) e = refl
refusal_in_one (Err n) (Err m) e = ap Err (number_one n m e)
refusal_in_one (Ok a) (Err m) e = absurd (not_none m e)
refusal_in_one (Err n) (Ok b) e = absurd (not_none n (sym e))

-- What the output half hands back, from one state.
pub handed_one : (s : State) (r q : Result (ℕ × State) Refusal) → handed s r ≡ handed s q → r ≡ q
handed_one s (Ok r) (Ok q) e =
    let v = given_one r.0 q.0 (ap (λ (o : OutputAnswer). o.answer) e) in
    let t = ap (λ (o : OutputAnswer). o.state) e in
    ap Ok (λ i. (v i, t i))
handed_one s (Err n) (Err m) e = ap Err (number_one n m (refused_one (number_of n) (number_of m) (ap (λ (o : OutputAnswer). o.answer) e)))
handed_one s (Ok r) (Err m) e = absurd (gives_refuses r.0 (number_of m) (ap (λ (o : OutputAnswer). o.answer) e))
handed_one s (Err n) (Ok q) e = absurd (gives_refuses q.0 (number_of n) (ap (λ (o : OutputAnswer). o.answer) (sym e)))

-- What a run of events that are explained hands back, from one state, after so many events.
pub walked_one : (s : State) (n : ℕ) (r q : Result State Refusal) → walked s n r ≡ walked s n q → r ≡ q
walked_one s n (Ok t) (Ok u) e = ap Ok (ap (λ (z : Ran). z.state) e)
walked_one s n (Err r) (Err q) e = ap Err (number_one r q (ap (λ (z : Ran). z.refusal) e))
walked_one s n (Ok t) (Err q) e = absurd (not_none q (ap (λ (z : Ran). z.refusal) e))
walked_one s n (Err r) (Ok u) e = absurd (not_none r (ap (λ (z : Ran). z.refusal) (sym e)))

-- The code's reason that says this one.
abbrev reason_in : Words.Reason → Reason
reason_in kept = Reason.Kept
reason_in (rule i) = Reason.Rule i
reason_in unmatched = Reason.Unmatched
reason_in (ticks k) = Reason.Ticks k
reason_in (rests k) = Reason.Rests k

reason_back : (r : Reason) → reason_in (reason_said r) ≡ r
reason_back Reason.Kept = refl
reason_back (Reason.Rule i) = refl
reason_back Reason.Unmatched = refl
reason_back (Reason.Ticks k) = refl
reason_back (Reason.Rests k) = refl

reason_one : (r q : Reason) → reason_said r ≡ reason_said q → r ≡ q
reason_one r q e = sym (reason_back r) ∙ ap reason_in e ∙ reason_back q

-- What `why` answers.
pub answer_said_one : (r q : Result Both Refusal) → answer_said r ≡ answer_said q → r ≡ q
answer_said_one (Ok r) (Ok q) e =
    let b = given_one (both_said r) (both_said q) e in
    let x = reason_one r.input q.input (ap (λ (z : EachHalf.Reasons). z.input) b) in
    let y = reason_one r.output q.output (ap (λ (z : EachHalf.Reasons). z.output) b) in
    ap Ok (λ i. record { input = x i; output = y i })
answer_said_one (Err n) (Err m) e = ap Err (number_one n m (refused_one (number_of n) (number_of m) e))
answer_said_one (Ok r) (Err m) e = absurd (gives_refuses (both_said r) (number_of m) e)
answer_said_one (Err n) (Ok q) e = absurd (gives_refuses (both_said q) (number_of n) (sym e))

-- A refusal with its line is one with the number and the line.
refusal_at : (r q : LineRefusal) → number_of r.refusal ≡ number_of q.refusal → r.line ≡ q.line → r ≡ q
refusal_at r q e l = let n = number_one r.refusal q.refusal e in λ i. record { refusal = n i; line = l i }

-- What the reader of a text answers.
pub read_said_one : (r q : Result ℕ LineRefusal) → read_said r ≡ read_said q → r ≡ q
read_said_one (Ok n) (Ok m) e = ap Ok (ap (λ (z : ReadText). z.length) e)
read_said_one (Err n) (Err m) e = ap Err (refusal_at n m (ap (λ (z : ReadText). z.refusal) e) (ap (λ (z : ReadText). z.line) e))
read_said_one (Ok n) (Err m) e = absurd (not_none m.refusal (ap (λ (z : ReadText). z.refusal) e))
read_said_one (Err n) (Ok m) e = absurd (not_none n.refusal (ap (λ (z : ReadText). z.refusal) (sym e)))

-- What a judgement answers: 14 stands for no room and for a refusal by that number, so two are the same if also both or neither are good.
pub judged_said_one : (r q : Result (Option ℕ) LineRefusal) → judged_said r ≡ judged_said q → is_good r ≡ is_good q → r ≡ q
judged_said_one (Ok (Some n)) (Ok (Some m)) e g = ap (λ (k : ℕ). Ok (Some k)) (ap (λ (z : ReadText). z.length) e)
judged_said_one (Ok None) (Ok None) e g = refl
judged_said_one (Ok (Some n)) (Ok None) e g = let k : ◌≡◌ {A = ℕ} 0 14 = ap (λ (z : ReadText). z.refusal) e in absurd (omega arith)
judged_said_one (Ok None) (Ok (Some m)) e g = let k : ◌≡◌ {A = ℕ} 14 0 = ap (λ (z : ReadText). z.refusal) e in absurd (omega arith)
judged_said_one (Err n) (Err m) e g = ap Err (refusal_at n m (ap (λ (z : ReadText). z.refusal) e) (ap (λ (z : ReadText). z.line) e))
judged_said_one (Ok o) (Err m) e g = absurd (false≢true (sym g))
judged_said_one (Err n) (Ok o) e g = absurd (false≢true g)

-- What the writer of a text answers.
pub written_said_one : (r q : Result ℕ Refusal) → written_said r ≡ written_said q → r ≡ q
written_said_one (Ok n) (Ok m) e = ap Ok (ap (λ (z : Written). z.length) e)
written_said_one (Err n) (Err m) e = ap Err (number_one n m (ap (λ (z : Written). z.refusal) e))
written_said_one (Ok n) (Err m) e = absurd (not_none m (ap (λ (z : Written). z.refusal) e))
written_said_one (Err n) (Ok m) e = absurd (not_none n (ap (λ (z : Written). z.refusal) (sym e)))

-- The line of a rule.
pub rule_said_one : (r q : Result ℕ LineRefusal) → rule_said r ≡ rule_said q → r ≡ q
rule_said_one (Ok n) (Ok m) e = ap Ok (ap (λ (z : RuleAt). z.line) e)
rule_said_one (Err n) (Err m) e = ap Err (refusal_at n m (ap (λ (z : RuleAt). z.refusal) e) (ap (λ (z : RuleAt). z.line) e))
rule_said_one (Ok n) (Err m) e = absurd (not_none m.refusal (ap (λ (z : RuleAt). z.refusal) e))
rule_said_one (Err n) (Ok m) e = absurd (not_none n.refusal (ap (λ (z : RuleAt). z.refusal) (sym e)))
