-- What the entries give, as answers in numbers.
use Rattle.std.specs.Prelude.{◌≡◌, ◌<◌, refl, Bool, true, false, cond, ℕ, Option, Some, None, Result, Ok, Err, IfSome, IfOk}
use Rattle.std.proofs.Common.{ap, arith}
use Rattle.refusals.specs.Refused.{number_of}
use Rattle.refusals.specs.Laws.{number_one, number_above}
use Rattle.compiling.specs.declared.refused.LineRefusal.{LineRefusal}
use Rattle.pointing.specs.NameAt.{NameAt}
use Rattle.pointing.specs.RuleAt.{RuleAt}
use Rattle.pointing.specs.declared.nameat.Kind.{Kind}
use Rattle.pointing.specs.declared.nameat.Name.{Name}

-- The number of a kind: a signal (0), a clock (1) or a location (2).
abbrev pub kind_number : Kind → ℕ
kind_number Kind.Signal = 0
kind_number Kind.Clock = 1
kind_number Kind.Location = 2

-- Where a name stands; no byte for none.
abbrev pub found_said : Option Name → NameAt
found_said None = record { refusal = 0; line = 0; place = 0; length = 0 }
found_said (Some n) = record { refusal = 0; line = 0; place = n.place; length = n.length }

-- The same, or a refusal with its line.
abbrev pub name_said : Result (Option Name) LineRefusal → NameAt
name_said (Ok o) = found_said o
name_said (Err e) = record { refusal = number_of e.refusal; line = e.line; place = 0; length = 0 }

-- A name that is given has a byte.
abbrev pub There : Option Name → Type 0
There o = IfSome o (λ n. 0 < n.length)

-- The same of a result.
abbrev pub Named : Result (Option Name) LineRefusal → Type 0
Named r = IfOk r There

-- Two such results that say the same are the same.
pub name_said_one : (r q : Result (Option Name) LineRefusal) → Named r → Named q → name_said r ≡ name_said q → r ≡ q
name_said_one (Ok None) (Ok None) a b e = refl
name_said_one (Ok (Some n)) (Ok (Some m)) a b e = ap (λ (s : NameAt). Ok (Some (record { place = s.place; length = s.length }))) e
name_said_one (Ok None) (Ok (Some m)) a b e =
    let none : 0 ≡ m.length = ap (λ (s : NameAt). s.length) e in
    absurd (omega (arith, b))
name_said_one (Ok (Some n)) (Ok None) a b e =
    let none : n.length ≡ 0 = ap (λ (s : NameAt). s.length) e in
    absurd (omega (arith, a))
name_said_one (Err d) (Err g) a b e =
    let r = number_one d.refusal g.refusal (ap (λ (s : NameAt). s.refusal) e) in
    let l : d.line ≡ g.line = ap (λ (s : NameAt). s.line) e in
    λ i. Err (record { refusal = r i; line = l i })
name_said_one (Ok None) (Err g) a b e =
    let none : 0 ≡ number_of g.refusal = ap (λ (s : NameAt). s.refusal) e in
    let above = number_above g.refusal in
    absurd (omega arith)
name_said_one (Ok (Some n)) (Err g) a b e =
    let none : 0 ≡ number_of g.refusal = ap (λ (s : NameAt). s.refusal) e in
    let above = number_above g.refusal in
    absurd (omega arith)
name_said_one (Err d) (Ok None) a b e =
    let none : number_of d.refusal ≡ 0 = ap (λ (s : NameAt). s.refusal) e in
    let above = number_above d.refusal in
    absurd (omega arith)
name_said_one (Err d) (Ok (Some m)) a b e =
    let none : number_of d.refusal ≡ 0 = ap (λ (s : NameAt). s.refusal) e in
    let above = number_above d.refusal in
    absurd (omega arith)

-- The line of a rule, or a refusal with its own.
abbrev pub rule_said : Result ℕ LineRefusal → RuleAt
rule_said (Ok n) = record { refusal = 0; line = n }
rule_said (Err e) = record { refusal = number_of e.refusal; line = e.line }

-- A bit says whether, and whether says the bit.
pub bit_is : {t s : Bool} → t ≡ s → ◌≡◌ {A = ℕ} (cond t 1 0) (cond s 1 0)
bit_is = ap (λ (b : Bool). cond b 1 0)

pub one_bit : (t s : Bool) → ◌≡◌ {A = ℕ} (cond t 1 0) (cond s 1 0) → t ≡ s
one_bit true true h = refl
one_bit false false h = refl
one_bit true false h = absurd (omega arith)
one_bit false true h = absurd (omega arith)
