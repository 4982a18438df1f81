-- Laws of refusals one after the other, and of answers.
use Rattle.std.specs.Prelude.{◌≡◌, refl, Bool, true, false, ◌↔◌, ℕ, zero, suc, ◌≤◌, leb}
use Rattle.std.proofs.lemmas.Bool.{false≢true}
use Rattle.std.proofs.Common.{zero-le, arith, leb-true}
use Rattle.streams.specs.Answer.{UpTo, ◌or_else◌, answer, gives, unless}

-- Of two refusals none is given exactly if neither is.
pub none_refused : (a b : ℕ) → (a or_else b ≡ 0) ↔ ((a ≡ 0) × (b ≡ 0))
none_refused zero b = (λ e. (refl, e), λ k. k.1)
none_refused (suc a) b = (λ e. absurd (omega arith), λ k. k.0)

-- A test gives no refusal exactly if it passes.
pub none_unless : (t : Bool) (n : ℕ) → (unless t (suc n) ≡ 0) ↔ (t ≡ true)
none_unless true n = (λ e. refl, λ e. refl)
none_unless false n = (λ e. absurd (omega arith), λ e. absurd (false≢true e))

-- Where the first refusal is given, it decides.
pub first_refused : (a b : ℕ) → (a ≡ 0 → ⊥) → (a or_else b) ≡ a
first_refused zero b h = absurd (h refl)
first_refused (suc a) b h = refl

-- Where the first refusal is not given, the next one decides.
pub next_refused : (a b : ℕ) → a ≡ 0 → (a or_else b) ≡ b
next_refused zero b e = refl
next_refused (suc a) b e = absurd (omega arith)

-- What is given is what the entry gives, and nothing is refused.
pub given_only : {A : Type 0} (n : ℕ) (a b : A) → answer n a ≡ gives b → (n ≡ 0) × (a ≡ b)
given_only zero a b e = (refl, cc)
given_only (suc n) a b e = let z : ◌≡◌ {A = ℕ} 0 1 = cc in absurd (omega arith)

-- The refusal of a test is at most k if its number is. With this law and the next, `search` finds the bound of refusals in any order.
pub unless_le : (t : Bool) (n k : ℕ) → leb n k ≡ true → unless t n ≤ k
unless_le true n k h = zero-le
unless_le false n k h = leb-true n k h

-- Of two refusals that are at most k, the one given is at most k.
pub else_le : {a b k : ℕ} → a ≤ k → b ≤ k → (a or_else b) ≤ k
else_le {a = zero} h g = g
else_le {a = suc a} h g = h

-- An answer whose refusal is at most k refuses by 1 to k, if it does.
pub answer_up_to : {A : Type 0} (n : ℕ) (a : A) {k : ℕ} → n ≤ k → UpTo k (answer n a)
answer_up_to zero a h = tt
answer_up_to (suc n) a h = (omega arith, h)
