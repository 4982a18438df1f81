-- The number of a word, counted digit by digit and no further than 65,536.
use Rattle.std.specs.Prelude.{◌≡◌, refl, Bool, true, false, [], ◌∷◌, ℕ, zero, suc, ◌+◌, ◌-◌, ◌*◌, ◌≤◌, ◌<◌, min, leb, length, get_or, take}
use Rattle.std.proofs.Common.{sym, ◌∙◌, add-one, arith, take-suc}
use Rattle.std.specs.Char.{is_ascii_digit}
use Rattle.std.proofs.lemmas.Bool.{false≢true}
use Rattle.std.proofs.Math.Bool.{and-eq-true_iff}
use Rattle.std.proofs.Math.Seq.{take-length}
use borrow.Author.Tests.{leb-true, le-leb, lt-leb}
use Rattle.streams.specs.Answer.{Answer, refused, gives, answer}
use Rattle.texts.specs.Decimal.{value_from, value_more}
use Rattle.wording.specs.Words.{Word}
use Rattle.wording.specs.Names.{is_digit, every, is_number, ◌and_then◌, must, numbered}
use Rattle.wording.specs.NamesBack.{every_more}

-- 30, 32 or the number.
abbrev pub number_of : Word → Answer ℕ
number_of w = numbered w gives

-- A number and what is done with it.
pub numbered_then : {A : Type 0} (w : Word) (go : ℕ → Answer A) → numbered w go ≡ number_of w and_then go
unfolding numbered
numbered_then w go = cases (is_number w) (leb (value_from 0 w) 65535)
  where
    cases : (s t : Bool) → must s 30 (must t 32 (go (value_from 0 w))) ≡ must s 30 (must t 32 (gives (value_from 0 w))) and_then go
    cases true true = refl
    cases true false = refl
    cases false t = refl

-- The first i bytes are digits, and v is what they say, or 65,536 for more.
pub record Counted (w : Word) (i v : ℕ) : Type 0 where
  pub digits : every is_digit (take i w) ≡ true
  pub value : v ≡ min (value_from 0 (take i w)) 65536

-- No byte is counted yet: 0.
pub counted_none : (w : Word) → Counted w 0 0
unfolding every value_from
counted_none w = record { digits = refl; value = refl }

digit_true : (c : ℕ) → 48 ≤ c → c ≤ 57 → is_digit c ≡ true
unfolding is_digit
digit_true c a b = rw (le-leb 48 c a, le-leb c 57 b)

-- One digit more: ten times the number and the digit, but no more than 65,536.
pub counted_more : (w : Word) (i v : ℕ) → i < length w → Counted w i v → 48 ≤ get_or w i 0 → get_or w i 0 ≤ 57 →
    Counted w (i + 1) (min (v * 10 + (get_or w i 0 - 48)) 65536)
counted_more w i v h k a b =
    let d = get_or w i 0 in
    let one = take-suc w i 0 h in
    let more = value_more 0 (take i w) d in
    record {
      digits = rw (add-one, one) (every_more is_digit (take i w) d k.digits (digit_true d a b));
      value = rw (add-one, one, more) (omega (arith, k.value));
    }

every_at : (test : ℕ → Bool) (w : Word) (i : ℕ) → i < length w → every test w ≡ true → test (get_or w i 0) ≡ true
unfolding every
every_at test [] i h e = absurd (omega arith)
every_at test (c ∷ w) zero h e = ((and-eq-true_iff (test c) _).0 e).0
every_at test (c ∷ w) (suc i) h e = every_at test w i (omega arith) ((and-eq-true_iff (test c) _).0 e).1

number_every : (w : Word) → 0 < length w → is_number w ≡ every is_digit w
unfolding is_number every
number_every [] h = absurd (omega arith)
number_every (c ∷ w) h = refl

refuses : (w : Word) → is_number w ≡ false → number_of w ≡ refused 30
unfolding numbered
refuses w h = rw h

-- A word of no bytes is no number: 30.
pub number_none : (w : Word) → length w ≤ 0 → answer 30 0 ≡ number_of w
unfolding is_number
number_none [] h = sym (refuses [] refl)
number_none (c ∷ w) h = absurd (omega arith)

-- A byte that is a digit is one from `0` to `9`.
pub digit_range : (c : ℕ) → is_digit c ≡ true → (48 ≤ c) × (c ≤ 57)
unfolding is_digit
digit_range c h = let both = (and-eq-true_iff (leb 48 c) _).0 h in (leb-true 48 c both.0, leb-true c 57 both.1)

-- A byte that is no digit is not.
pub not_digit : (c : ℕ) → false ≡ is_ascii_digit c → (48 ≤ c) × (c ≤ 57) → ⊥
not_digit c e h = false≢true (e ∙ rw (le-leb 48 c h.0, le-leb c 57 h.1))

-- A word with a byte that is no digit is no number: 30.
pub number_not : (w : Word) (i : ℕ) → i < length w → ((48 ≤ get_or w i 0) × (get_or w i 0 ≤ 57) → ⊥) → answer 30 0 ≡ number_of w
number_not w i h n = sym (refuses w (go (is_number w) refl))
  where
    go : (t : Bool) → is_number w ≡ t → t ≡ false
    go true e = absurd (n (digit_range (get_or w i 0) (every_at is_digit w i h (sym (number_every w (omega arith)) ∙ e))))
    go false e = refl

module _ (w : Word) (i v : ℕ) (whole : i ≡ length w) (some_one : 0 < length w) (k : Counted w i v) where
  all_taken : take i w ≡ w
  all_taken = rw (whole, take-length)

  is-number : is_number w ≡ true
  is-number = number_every w some_one ∙ (rw all_taken at k.digits)

  said : v ≡ min (value_from 0 w) 65536
  said = rw all_taken at k.value

  -- All bytes are digits, and they say more than 65,535: 32.
  pub number_large : 65535 < v → answer 32 0 ≡ number_of w
  unfolding numbered
  number_large h = rw (is-number, lt-leb (value_from 0 w) 65535 (omega (arith, said)))

  -- All bytes are digits, and they say at most 65,535: the number is given.
  pub number_given : v ≤ 65535 → answer 0 v ≡ number_of w
  unfolding numbered
  number_given h =
      let e : value_from 0 w ≡ v = omega (arith, said) in
      rw (is-number, e, le-leb v 65535 h)
