-- Laws of `decimal`: how it goes on by one digit, and that its digits read back as the number.
use Rattle.std.specs.Prelude.{◌≡◌, refl, Bool, true, false, cond, List, [], ◌∷◌, ◌++◌, ℕ, zero, suc, ◌+◌, ◌-◌, ◌*◌, ◌/◌, ◌^◌, ◌≤◌, ◌<◌, ltb, length, get_or}
use Rattle.std.proofs.Common.{ap, ◌∙◌, arith, length-append, ltb-true, ltb-false, lt-ltb, le-ltb}
use Rattle.std.proofs.Math.ListN.{get_or-append}
use Rattle.texts.specs.Text.{digit, digits, decimal}

-- More places than there are digits change nothing.
digits_same : (j k n : ℕ) → n ≤ j → n ≤ k → digits j n ≡ digits k n
unfolding digits
digits_same zero zero n h l = refl
digits_same zero (suc k) n h l = let e : n ≡ 0 = omega arith in rw e
digits_same (suc j) zero n h l = let e : n ≡ 0 = omega arith in rw e
digits_same (suc j) (suc k) n h l = rw (digits_same j k (n / 10) (omega arith) (omega arith))

decimal_turn : (n : ℕ) → decimal n ≡ cond (ltb n 10) [] (decimal (n / 10)) ++ (digit n ∷ [])
unfolding digits decimal
decimal_turn zero = refl
decimal_turn (suc n) = rw (digits_same n (suc n / 10) (suc n / 10) (omega arith) (omega arith))

-- The last digit, and those before it if there are any.
pub decimal_one : (n : ℕ) → n < 10 → decimal n ≡ digit n ∷ []
decimal_one n h = rw (decimal_turn n, lt-ltb n 10 h)

-- From 10 on: the digits of the tenth part, then the last digit.
pub decimal_more : (n : ℕ) → 10 ≤ n → decimal n ≡ decimal (n / 10) ++ (digit n ∷ [])
decimal_more n h = rw (decimal_turn n, le-ltb n 10 h)

-- A number of two digits.
pub decimal_two : (n : ℕ) → 10 ≤ n → n < 100 → decimal n ≡ digit (n / 10) ∷ digit n ∷ []
decimal_two n h l = decimal_more n h ∙ ap (λ (ds : List ℕ). ds ++ (digit n ∷ [])) (decimal_one (n / 10) (omega arith))

-- From 10 on there is one digit more than in the tenth part.
pub decimal_longer : (n : ℕ) → 10 ≤ n → length (decimal n) ≡ length (decimal (n / 10)) + 1
decimal_longer n h = rw (decimal_more n h, length-append)

-- What holds of one digit, and of a number's digits if it holds of those before the last, holds of every number's.
module _ (P : ℕ → List ℕ → Type 0) (one : (n : ℕ) → n < 10 → P n (digit n ∷ []))
    (more : (n : ℕ) (front : List ℕ) → 10 ≤ n → P (n / 10) front → P n (front ++ (digit n ∷ []))) where
  by_last : (n : ℕ) → (10 ≤ n → P (n / 10) (decimal (n / 10))) → P n (decimal n)
  by_last n front = go (ltb n 10) refl
    where
      go : (t : Bool) → ltb n 10 ≡ t → P n (decimal n)
      go true e = let l = ltb-true n 10 e in rw (decimal_one n l) (one n l)
      go false e = let l = ltb-false n 10 e in rw (decimal_more n l) (more n _ l (front l))

  by_places : (k n : ℕ) → n ≤ k → P n (decimal n)
  by_places zero n h = by_last n (λ l. absurd (omega arith))
  by_places (suc k) n h = by_last n (λ l. by_places k (n / 10) (omega arith))

  -- By these two, P holds of every number and its digits.
  pub by_digits : (n : ℕ) → P n (decimal n)
  by_digits n = by_places n n (omega arith)

-- The number that digits say, after those before them that say v.
unfoldable pub value_from : ℕ → List ℕ → ℕ
value_from v [] = v
value_from v (d ∷ ds) = value_from (v * 10 + (d - 48)) ds

-- One digit more: ten times the value so far, plus the digit.
pub value_more : (v : ℕ) (front : List ℕ) (d : ℕ) → value_from v (front ++ (d ∷ [])) ≡ value_from v front * 10 + (d - 48)
unfolding value_from
value_more v [] d = refl
value_more v (f ∷ front) d = value_more (v * 10 + (f - 48)) front d

-- The digits of n read back as n.
pub reads_back : (n : ℕ) → value_from 0 (decimal n) ≡ n
unfolding value_from
reads_back = by_digits (λ n ds. value_from 0 ds ≡ n) (λ n h. omega arith) (λ n front h e. omega (arith, value_more 0 front (digit n)))

-- Each byte is a digit.
abbrev Digits : List ℕ → Type 0
Digits ds = (i : ℕ) → i < length ds → (48 ≤ get_or ds i 0) × (get_or ds i 0 ≤ 57)

digits_more : (front : List ℕ) (n : ℕ) → Digits front → Digits (front ++ (digit n ∷ []))
digits_more [] n h zero l = (omega arith, omega arith)
digits_more [] n h (suc i) l = absurd (omega arith)
digits_more (f ∷ front) n h zero l = h 0 (omega arith)
digits_more (f ∷ front) n h (suc i) l = digits_more front n (λ j k. h (suc j) (omega arith)) i (omega arith)

-- The bytes of a number are digits alone.
pub digits_alone : (n : ℕ) → Digits (decimal n)
digits_alone = by_digits (λ n ds. Digits ds) (λ n h. digits_more [] n (λ i l. absurd (omega arith))) (λ n front h d. digits_more front n d)

-- There is a digit, and the first is 0 for 0 alone.
pub no_leading_zero : (n : ℕ) → (0 < length (decimal n)) × (0 < n → get_or (decimal n) 0 0 ≡ 48 → ⊥)
no_leading_zero =
    by_digits (λ n ds. (0 < length ds) × (0 < n → get_or ds 0 0 ≡ 48 → ⊥))
    (λ n h. (omega arith, λ p e. omega arith))
    (λ n front h f. (simp length-append (omega arith), λ p e. f.1 (omega arith) (rw (get_or-append front (digit n ∷ []) 0 0 f.0) at e)))

-- A number below 10 ^ (k + 1) has at most k + 1 digits.
pub decimal_short : (n k : ℕ) → n < 10 ^ suc k → length (decimal n) ≤ suc k
decimal_short =
    by_digits (λ n ds. (k : ℕ) → n < 10 ^ suc k → length ds ≤ suc k) (λ n h k l. omega arith) more
  where
    more : (n : ℕ) (front : List ℕ) → 10 ≤ n → ((k : ℕ) → n / 10 < 10 ^ suc k → length front ≤ suc k) →
        (k : ℕ) → n < 10 ^ suc k → length (front ++ (digit n ∷ [])) ≤ suc k
    more n front h short zero l = absurd (omega arith)
    more n front h short (suc k) l = simp length-append (omega (arith, short k (omega arith)))
