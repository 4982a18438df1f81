-- How a time line is read from the front of a text: its number, in decimal without leading zeros and at most 16,384, and what stands after it.
-- In order: the reader (`read_time`); that a time line which is read stands there (`time_sound`); that one which stands there is read (`time_complete`).
use Rattle.std.specs.Prelude.{◌≡◌, refl, Bool, true, false, cond, ◌&&◌, List, [], ◌∷◌, ◌++◌, ℕ, zero, suc, ◌+◌, ◌-◌, ◌*◌, ◌/◌, ◌≤◌, ◌<◌, leb, eqb, get_or, drop}
use Rattle.std.proofs.Common.{sym, ap, ◌∙◌, append_assoc, arith, leb-true, eqb-true, le-leb}
use Rattle.std.proofs.Math.Bool.{and-eq-true_iff, and-false}
use Rattle.std.proofs.lemmas.Bool.{false≢true}
use Rattle.std.proofs.Math.ListN.{get_or-append}
use Rattle.texts.specs.Text.{digit, decimal}
use Rattle.texts.specs.Decimal.{decimal_one, decimal_more, by_digits, digits_alone, no_leading_zero}
use Rattle.drawing.specs.Wave.{time_line}

-- The byte is one of `0` to `9`.
abbrev pub is_digit : ℕ → Bool
is_digit b = leb 48 b && leb b 57

-- A number at the front of a text, and what stands after it.
pub record NumberThere : Type 0 where
  pub value : ℕ
  pub rest : List ℕ

-- Whether a digit belongs to the number, where those before it say v: after a leading zero none does, and above 16,384 it makes no difference.
abbrev pub goes_on : (v digit : ℕ) → Bool
goes_on v d = leb 1 v && (leb v 16384 && is_digit d)

-- The number of which v is known, with its further digits at the front of a text.
unfoldable pub read_digits : ℕ → List ℕ → NumberThere
read_digits v [] = record { value = v; rest = [] }
read_digits v (d ∷ ds) = cond (goes_on v d) (read_digits (v * 10 + (d - 48)) ds) (record { value = v; rest = d ∷ ds })

-- Whether a time line stands at the front of a text, its time, and what stands after it.
pub record Timed : Type 0 where
  pub good : Bool
  pub time : ℕ
  pub rest : List ℕ

-- No time line stands there.
abbrev pub untimed : Timed
untimed = record { good = false; time = 0; rest = [] }

-- A time line by its number: it is at most 16,384, and a line feed follows.
abbrev pub timed_by : NumberThere → Timed
timed_by n = cond (leb n.value 16384 && eqb (get_or n.rest 0 0) 10) (record { good = true; time = n.value; rest = drop 1 n.rest }) untimed

-- The time line at the front of a text, if one stands there: `#`, a number, a line feed.
unfoldable pub read_time : List ℕ → Timed
read_time text =
    cond (eqb (get_or text 0 0) 35 && is_digit (get_or text 1 0)) (timed_by (read_digits (get_or text 1 0 - 48) (drop 2 text))) untimed

digit_true : (b : ℕ) → is_digit b ≡ true → (48 ≤ b) × (b ≤ 57)
digit_true b e = let k = (and-eq-true_iff (leb 48 b) _).0 e in (leb-true _ _ k.0, leb-true _ _ k.1)

true_digit : (b : ℕ) → 48 ≤ b → b ≤ 57 → is_digit b ≡ true
true_digit b h l = rw (le-leb 48 b h, le-leb b 57 l)

-- One digit more.
decimal_next : (v d : ℕ) → 0 < v → 48 ≤ d → d ≤ 57 → decimal (v * 10 + (d - 48)) ≡ decimal v ++ (d ∷ [])
decimal_next v d h l k =
    let q : (v * 10 + (d - 48)) / 10 ≡ v = omega arith in
    let e : digit (v * 10 + (d - 48)) ≡ d = omega arith in
    decimal_more (v * 10 + (d - 48)) (omega arith) ∙ rw (q, e)

-- What is read stands there.
digits_sound : (v : ℕ) (text : List ℕ) → 0 < v → decimal v ++ text ≡ decimal (read_digits v text).value ++ (read_digits v text).rest
unfolding read_digits
digits_sound v [] h = refl
digits_sound v (d ∷ ds) h = go (goes_on v d) refl (digits_sound (v * 10 + (d - 48)) ds (omega arith))
  where
    go : (t : Bool) → goes_on v d ≡ t →
        decimal (v * 10 + (d - 48)) ++ ds ≡ decimal (read_digits (v * 10 + (d - 48)) ds).value ++ (read_digits (v * 10 + (d - 48)) ds).rest →
        let r = cond t (read_digits (v * 10 + (d - 48)) ds) (record { value = v; rest = d ∷ ds }) in
        decimal v ++ d ∷ ds ≡ decimal r.value ++ r.rest
    go false e more = refl
    go true e more =
        let k = digit_true d ((and-eq-true_iff (leb v 16384) _).0 ((and-eq-true_iff (leb 1 v) _).0 e).1).1 in
        rw (decimal_next v d h k.0 k.1, append_assoc) at more

front_one : (b : ℕ) (text : List ℕ) → 0 < b → get_or text 0 0 ≡ b → text ≡ b ∷ drop 1 text
front_one b [] h e = absurd (omega arith)
front_one b (a ∷ text) h e = rw e

front_two : (b : ℕ) (text : List ℕ) → 0 < b → get_or text 0 0 ≡ b → 0 < get_or text 1 0 → text ≡ b ∷ get_or text 1 0 ∷ drop 2 text
front_two b [] h e l = absurd (omega arith)
front_two b (a ∷ []) h e l = absurd (omega arith)
front_two b (a ∷ c ∷ text) h e l = rw e

after_zero : (text : List ℕ) → read_digits 0 text ≡ record { value = 0; rest = text }
unfolding read_digits
after_zero [] = refl
after_zero (d ∷ ds) = refl

-- From a digit on: its number.
first_digit : (d : ℕ) (text : List ℕ) → 48 ≤ d → d ≤ 57 →
    d ∷ text ≡ decimal (read_digits (d - 48) text).value ++ (read_digits (d - 48) text).rest
first_digit d text h l = go (d - 48) refl
  where
    go : (v : ℕ) → d - 48 ≡ v → d ∷ text ≡ decimal (read_digits v text).value ++ (read_digits v text).rest
    go zero e = let z : d ≡ 48 = omega arith in rw (after_zero text, z, decimal_one 0 (omega arith))
    go (suc v) e =
        let z : digit (suc v) ≡ d = omega arith in
        rw (decimal_one (suc v) (omega arith), z) at (digits_sound (suc v) text (omega arith))

time_by : (n : NumberThere) → (timed_by n).good ≡ true →
    (decimal n.value ++ n.rest ≡ (decimal (timed_by n).time ++ (10 ∷ [])) ++ (timed_by n).rest) × ((timed_by n).time ≤ 16384)
time_by n = go (leb n.value 16384 && eqb (get_or n.rest 0 0) 10) refl
  where
    go : (t : Bool) → (leb n.value 16384 && eqb (get_or n.rest 0 0) 10) ≡ t →
        let r = cond t (record { good = true; time = n.value; rest = drop 1 n.rest }) untimed in
        r.good ≡ true → (decimal n.value ++ n.rest ≡ (decimal r.time ++ (10 ∷ [])) ++ r.rest) × (r.time ≤ 16384)
    go false e g = absurd (false≢true g)
    go true e g =
        let k = (and-eq-true_iff (leb n.value 16384) _).0 e in
        let f = front_one 10 n.rest (omega arith) (eqb-true _ _ k.1) in
        (ap (λ (l : List ℕ). decimal n.value ++ l) f ∙ sym (append_assoc (decimal n.value) (10 ∷ []) (drop 1 n.rest)), leb-true _ _ k.0)

-- A time line that is read stands there.
pub time_sound : (text : List ℕ) → (read_time text).good ≡ true →
    (text ≡ time_line (read_time text).time ++ (read_time text).rest) × ((read_time text).time ≤ 16384)
unfolding read_time time_line
time_sound text = go (eqb (get_or text 0 0) 35 && is_digit (get_or text 1 0)) refl
  where
    go : (t : Bool) → (eqb (get_or text 0 0) 35 && is_digit (get_or text 1 0)) ≡ t →
        let r = cond t (timed_by (read_digits (get_or text 1 0 - 48) (drop 2 text))) untimed in
        r.good ≡ true → (text ≡ time_line r.time ++ r.rest) × (r.time ≤ 16384)
    go false e g = absurd (false≢true g)
    go true e g =
        let d = get_or text 1 0 in
        let k = (and-eq-true_iff (eqb (get_or text 0 0) 35) _).0 e in
        let b = digit_true d k.1 in
        let n = read_digits (d - 48) (drop 2 text) in
        let r = time_by n g in (
          front_two 35 text (omega arith) (eqb-true _ _ k.0) (omega arith)
              ∙ ap (◌∷◌ 35) (first_digit d (drop 2 text) b.0 b.1 ∙ r.0),
          r.1,
        )

-- The digits of a number are read as the number.
abbrev from_first : List ℕ → NumberThere
from_first text = read_digits (get_or text 0 0 - 48) (drop 1 text)

digits_read : (n : ℕ) → n ≤ 16384 → (tail : List ℕ) → from_first (decimal n ++ tail) ≡ read_digits n tail
unfolding read_digits
digits_read =
    by_digits (λ n ds. n ≤ 16384 → (tail : List ℕ) → from_first (ds ++ tail) ≡ read_digits n tail) one more
  where
    one : (n : ℕ) → n < 10 → n ≤ 16384 → (tail : List ℕ) → from_first (digit n ∷ tail) ≡ read_digits n tail
    one n h l tail = let e : digit n - 48 ≡ n = omega arith in rw e

    more : (n : ℕ) (front : List ℕ) → 10 ≤ n →
        (n / 10 ≤ 16384 → (tail : List ℕ) → from_first (front ++ tail) ≡ read_digits (n / 10) tail) →
        n ≤ 16384 → (tail : List ℕ) → from_first ((front ++ (digit n ∷ [])) ++ tail) ≡ read_digits n tail
    more n front h before l tail =
        let e : n / 10 * 10 + (digit n - 48) ≡ n = omega arith in
        rw (append_assoc, before (omega arith) (digit n ∷ tail), le-leb 1 (n / 10) (omega arith), le-leb (n / 10) 16384 (omega arith), true_digit (digit n) (omega arith) (omega arith), e)

number_ends : (n : ℕ) (rest : List ℕ) → read_digits n (10 ∷ rest) ≡ record { value = n; rest = 10 ∷ rest }
unfolding read_digits
number_ends n rest =
    let e : goes_on n 10 ≡ false = rw (and-false (leb n 16384), and-false (leb 1 n)) in rw e

-- A time line that stands there is read.
pub time_complete : (n : ℕ) (rest : List ℕ) → n ≤ 16384 → read_time (time_line n ++ rest) ≡ record { good = true; time = n; rest = rest }
unfolding read_time time_line
time_complete n rest h =
    let d = digits_alone n 0 (no_leading_zero n).0 in
    let f = get_or-append (decimal n) (10 ∷ rest) 0 0 (no_leading_zero n).0 in
    rw (append_assoc, true_digit (get_or (decimal n ++ 10 ∷ rest) 0 0) (rw f d.0) (rw f d.1), digits_read n h (10 ∷ rest), number_ends n rest, le-leb n 16384 h)
