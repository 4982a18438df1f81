-- A set of small numbers as a number: y is in it if its bit y is 1.
use Rattle.std.specs.Prelude.{◌≡◌, refl, Bool, true, false, cond, ◌&&◌, ◌||◌, not, ℕ, zero, suc, ◌-◌, ◌/◌, ◌%◌, ◌^◌, ◌<◌, eqb, ltb}
use Rattle.std.proofs.Common.{sym, ap, ◌∙◌, arith, pow_pos, lt-ltb, le-ltb}
use Rattle.std.proofs.Math.Arith.{bin_ind}
use Rattle.std.proofs.Math.Dec.{leb-suc-suc}
use Rattle.std.specs.Int.Bits.{bit_and, bit_or, bit_xor}
use Rattle.std.proofs.lemmas.Nat.{and_mod, or_mod, xor_mod, and_shr, or_shr, xor_shr}
use Rattle.std.proofs.lemmas.Bool.{eqb-false}

-- A test that both ways say the same of.
pub cond_same : {A : Type 0} (t : Bool) (a : A) → cond t a a ≡ a
cond_same true a = refl
cond_same false a = refl

-- y is in the set.
unfoldable pub has : ℕ → ℕ → Bool
has set zero = eqb (set % 2) 1
has set (suc y) = has (set / 2) y

-- One is in the one set and not in the other.
unfoldable pub differs : Bool → Bool → Bool
differs false b = b
differs true b = not b

-- Of two digits, by the four cases.
of_digits : (f : ℕ → ℕ → ℕ) (g : Bool → Bool → Bool) → eqb (f 0 0) 1 ≡ g false false → eqb (f 0 1) 1 ≡ g false true → eqb (f 1 0) 1 ≡ g true false →
    eqb (f 1 1) 1 ≡ g true true → (m n : ℕ) → m < 2 → n < 2 → eqb (f m n) 1 ≡ g (eqb m 1) (eqb n 1)
of_digits f g a b c d zero zero h k = a
of_digits f g a b c d zero (suc zero) h k = b
of_digits f g a b c d (suc zero) zero h k = c
of_digits f g a b c d (suc zero) (suc zero) h k = d
of_digits f g a b c d zero (suc (suc n)) h k = absurd (omega arith)
of_digits f g a b c d (suc zero) (suc (suc n)) h k = absurd (omega arith)
of_digits f g a b c d (suc (suc m)) n h k = absurd (omega arith)

-- A number is in `bit_and` of two sets exactly if it is in both.
pub has_and : (a b y : ℕ) → has (bit_and a b) y ≡ (has a y && has b y)
unfolding has
has_and a b zero = ap (λ (z : ℕ). eqb z 1) (and_mod a b 1) ∙ of_digits bit_and ◌&&◌ refl refl refl refl (a % 2) (b % 2) (omega arith) (omega arith)
has_and a b (suc y) = ap (λ (z : ℕ). has z y) (and_shr a b 1) ∙ has_and (a / 2) (b / 2) y

-- A number is in `bit_or` of two sets exactly if it is in one of them or both.
pub has_or : (a b y : ℕ) → has (bit_or a b) y ≡ (has a y || has b y)
unfolding has
has_or a b zero = ap (λ (z : ℕ). eqb z 1) (or_mod a b 1) ∙ of_digits bit_or ◌||◌ refl refl refl refl (a % 2) (b % 2) (omega arith) (omega arith)
has_or a b (suc y) = ap (λ (z : ℕ). has z y) (or_shr a b 1) ∙ has_or (a / 2) (b / 2) y

-- A number is in `bit_xor` of two sets exactly if it is in one of them alone.
pub has_xor : (a b y : ℕ) → has (bit_xor a b) y ≡ differs (has a y) (has b y)
unfolding has differs
has_xor a b zero = ap (λ (z : ℕ). eqb z 1) (xor_mod a b 1) ∙ of_digits bit_xor differs refl refl refl refl (a % 2) (b % 2) (omega arith) (omega arith)
has_xor a b (suc y) = ap (λ (z : ℕ). has z y) (xor_shr a b 1) ∙ has_xor (a / 2) (b / 2) y

-- 0 is the empty set.
pub has_none : (y : ℕ) → has 0 y ≡ false
unfolding has
has_none zero = refl
has_none (suc y) = has_none y

-- All numbers below n.
abbrev pub all_below : ℕ → ℕ
all_below n = 2 ^ n - 1

-- A number is in the set of all below n exactly if it is below n.
pub has_all : (n y : ℕ) → has (all_below n) y ≡ ltb y n
unfolding has
has_all zero y = has_none y ∙ sym (le-ltb y 0 (omega arith))
has_all (suc n) zero =
    let h : 0 < 2 ^ n = pow_pos n in
    let e : (2 ^ suc n - 1) % 2 ≡ 1 = omega arith in
    rw e (sym (lt-ltb 0 (suc n) (omega arith)))
has_all (suc n) (suc y) =
    let h : 0 < 2 ^ n = pow_pos n in
    let e : (2 ^ suc n - 1) / 2 ≡ 2 ^ n - 1 = omega arith in
    rw (e, leb-suc-suc) (has_all n y)

-- A set that is not empty has a number in it.
pub has_some : (set : ℕ) → (set ≡ 0 → ⊥) → (y : ℕ) × (has set y ≡ true)
unfolding has
has_some =
    bin_ind (λ (n : ℕ). (n ≡ 0 → ⊥) → (y : ℕ) × (has n y ≡ true)) (λ h. absurd (h refl))
    (λ n ih h. go n ih h (eqb (n % 2) 1) refl)
  where
    go : (n : ℕ) → ((n / 2 ≡ 0 → ⊥) → (y : ℕ) × (has (n / 2) y ≡ true)) → (n ≡ 0 → ⊥) → (t : Bool) → eqb (n % 2) 1 ≡ t → (y : ℕ) × (has n y ≡ true)
    go n ih h true e = (0, e)
    go n ih h false e =
        let d : n % 2 ≡ 1 → ⊥ = eqb-false _ _ e in
        let r = ih (λ z. h (omega arith)) in
        (suc r.0, r.1)

-- A set with a number in it is not empty.
pub has_not_empty : (set y : ℕ) → has set y ≡ true → set ≡ 0 → ⊥
has_not_empty set y h e = let z : has 0 y ≡ true = rw (← e) h in let k : ◌≡◌ {A = ℕ} 0 1 = cc (has_none y) in omega arith

-- What care bits, a value and a set of outputs take of the outputs left with the input x.
abbrev pub agreed : (care value set x left : ℕ) → ℕ
agreed care value set x left = cond (eqb (bit_and x care) value) (bit_and left set) 0
