-- Words that a rule can read as a condition alone: letters, names, and either behind an `!`.
use Rattle.std.specs.Prelude.{◌≡◌, refl, true, false, [], ◌∷◌, ℕ, ◌≤◌, leb, length}
use Rattle.std.proofs.Math.Bool.{and-eq-true_iff, and-false}
use Rattle.std.proofs.lemmas.Bool.{false≢true, lt-leb}
use Rattle.std.proofs.Common.{arith, leb-true, ne_eqb}
use Rattle.policy.specs.Check.{is_capital}
use Rattle.wording.specs.Words.{Word}
use Rattle.wording.specs.Names.{same, is, is_lower, is_digit, every, is_plain, is_name, is_number}
use Rattle.wording.specs.ConditionsBack.{letter_other}
use Rattle.wording.specs.RuleBack.{plain_words}

-- A word that a rule reads as nothing but a condition: none of the language, and no number.
pub record Other (w : Word) : Type 0 where
  pub input : is "input" w ≡ false
  pub output : is "output" w ≡ false
  pub clock : is "clock" w ≡ false
  pub location : is "location" w ≡ false
  pub at : is "at" w ≡ false
  pub any : is "any" w ≡ false
  pub arrow : is "->" w ≡ false
  pub least : is ">=" w ≡ false
  pub most : is "<=" w ≡ false
  pub number : is_number w ≡ false

-- A byte above `9` is no digit.
pub no_digit : (c : ℕ) → 58 ≤ c → is_digit c ≡ false
unfolding is_digit
no_digit c h = rw (lt-leb c 57 h) (and-false (leb 48 c))

-- A capital letter is not below `A`.
pub capital_low : (t : ℕ) → is_capital t ≡ true → 65 ≤ t
capital_low t h = leb-true 65 t ((and-eq-true_iff (leb 65 t) _).0 h).0

-- A capital letter is such a word.
pub letter_is_other : (t : ℕ) → is_capital t ≡ true → Other (t ∷ [])
unfolding is_number
letter_is_other t h =
    let low = capital_low t h in
    record {
      input = letter_other t 105 110 _;
      output = letter_other t 111 117 _;
      clock = letter_other t 99 108 _;
      location = letter_other t 108 111 _;
      at = letter_other t 97 116 _;
      any = letter_other t 97 110 _;
      arrow = letter_other t 45 62 _;
      least = letter_other t 62 61 _;
      most = letter_other t 60 61 _;
      number = rw (no_digit t (omega arith));
    }

-- What begins with `!` is such a word.
pub off_is_other : (cs : Word) → Other (33 ∷ cs)
unfolding same is_number is_digit
off_is_other cs =
    record { input = refl; output = refl; clock = refl; location = refl; at = refl; any = refl; arrow = refl; least = refl; most = refl; number = refl }

-- The first byte of a name is a small letter.
pub name_low : (c : ℕ) (cs : Word) → is_name (c ∷ cs) ≡ true → 97 ≤ c
unfolding is_name
name_low c cs h = leb-true 97 c ((and-eq-true_iff (leb 97 c) _).0 ((and-eq-true_iff (is_lower c) _).0 h).0).0

name_plain : (c : ℕ) (cs : Word) → is_name (c ∷ cs) ≡ true → is_plain (c ∷ cs) ≡ true
unfolding is_name
name_plain c cs h =
    let a = (and-eq-true_iff (is_lower c) _).0 h in
    let b = (and-eq-true_iff (every _ cs) _).0 a.1 in
    ((and-eq-true_iff (leb (length cs) 15) _).0 b.1).1

-- A name is such a word.
pub name_is_other : (w : Word) → is_name w ≡ true → Other w
unfolding is_name is_number same
name_is_other [] h = absurd (false≢true h)
name_is_other (c ∷ cs) h =
    let low = name_low c cs h in
    let k = plain_words (c ∷ cs) (name_plain c cs h) in
    record {
      input = k.0;
      output = k.1;
      clock = k.2;
      location = k.3;
      at = k.4;
      any = k.5;
      arrow = k.6;
      least = rw (ne_eqb c 62 (λ e. omega arith));
      most = rw (ne_eqb c 60 (λ e. omega arith));
      number = rw (no_digit c (omega arith));
    }

-- A word of no bytes is no name.
pub no_name : is_name [] ≡ true → ⊥
unfolding is_name
no_name h = false≢true h

-- A byte above `Z` is no capital letter.
pub no_capital : (c : ℕ) → 91 ≤ c → is_capital c ≡ false
no_capital c h = rw (lt-leb c 90 h) (and-false (leb 65 c))
