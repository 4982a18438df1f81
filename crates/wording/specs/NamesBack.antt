-- Names, letters and numbers are read as what they were written for.
-- In order: words that are the same; names, and a name among others; letters; numbers; which of these are whole words; one thing after another.
use Rattle.std.proofs.Math.Path.{◌≡◌, refl, ap}
use Rattle.std.proofs.Common.{sym, ◌∙◌, arith, leb-true, le-leb, eqb-true, eq-eqb, ne_eqb}
use Rattle.std.specs.Prelude.{Bool, ◌&&◌, ◌||◌, leb, eqb, length}
use Rattle.std.proofs.Math.Bool.{true, false, cond, and-eq-true_iff, false≢true}
use mathlib.Core.List.{List, [], ◌∷◌, ◌++◌}
use Rattle.std.proofs.Math.Option.{none, some}
use Prim.Native.Nat.{ℕ, zero, suc, ◌+◌, ◌≤◌, ◌<◌}
use Rattle.std.proofs.lemmas.Bool.{eqb-false}
use Rattle.streams.specs.Answer.{Answer, refused, gives}
use Rattle.policy.specs.Check.{is_capital, among}
use Rattle.texts.specs.Text.{digit, decimal}
use Rattle.texts.specs.Decimal.{value_from, by_digits, reads_back}
use Rattle.wording.specs.Words.{Word, parts, is_sign, kind}
use Rattle.wording.specs.Laid.{all_of, whole}
use Rattle.wording.specs.Names.{same, find, is_digit, every, is_number, numbered, through, ◌and_then◌, name_of, names_from, letters_of, is_lower, is_name}

-- A word is the same as itself.
pub same_self : (w : Word) → same w w ≡ true
unfolding same
same_self [] = refl
same_self (c ∷ cs) = rw (eq-eqb c c refl) (same_self cs)

-- Words that are the same are equal.
pub same_true : (v w : Word) → same v w ≡ true → v ≡ w
unfolding same
same_true [] [] h = refl
same_true [] (b ∷ bs) h = absurd (false≢true h)
same_true (a ∷ v) [] h = absurd (false≢true h)
same_true (a ∷ v) (b ∷ w) h =
    let both = simp and-eq-true_iff at h in
    let first = eqb-true a b both.0 in
    let rest = same_true v w both.1 in
    λ i. first i ∷ rest i

-- A name has at most 16 bytes.
pub name_few : (w : Word) → is_name w ≡ true → length w ≤ 16
unfolding is_name
name_few [] h = omega arith
name_few (c ∷ cs) h =
    let a = (and-eq-true_iff (is_lower c) _).0 h in
    let b = (and-eq-true_iff (every _ cs) _).0 a.1 in
    let l = leb-true (length cs) 15 ((and-eq-true_iff (leb (length cs) 15) _).0 b.1).0 in
    omega arith

-- The number in a name, after its letter.
value : Word → ℕ
value [] = 0
value (c ∷ cs) = value_from 0 cs

-- Numbers with the same name are equal.
pub name_one : (letter j k : ℕ) → same (name_of letter j) (name_of letter k) ≡ true → j ≡ k
unfolding name_of value
name_one letter j k h =
    sym (reads_back j) ∙ ap value (same_true (letter ∷ decimal j) (letter ∷ decimal k) h) ∙ reads_back k

apart : (j k : ℕ) → j ≤ k → (j ≡ k → ⊥) → j < k
apart j k h ne = go (eqb j k) refl
  where
    go : (t : Bool) → eqb j k ≡ t → j < k
    go true e = absurd (ne (eqb-true j k e))
    go false e = let f = eqb-false j k e in omega arith

-- A name among n of them.
module _ (letter k : ℕ) where
  -- The name of k is found among n names from j on, if k is one of their numbers.
  pub find_name : (j n : ℕ) → j ≤ k → k < j + n → find j (name_of letter k) (names_from letter j n) ≡ some k
  unfolding find names_from
  find_name j zero a b = absurd (omega arith)
  find_name j (suc n) a b = go (same (name_of letter j) (name_of letter k)) refl (λ h. find_name (suc j) n h (omega arith))
    where
      go : (t : Bool) → same (name_of letter j) (name_of letter k) ≡ t →
          (j < k → find (suc j) (name_of letter k) (names_from letter (suc j) n) ≡ some k) →
          cond t (some j) (find (suc j) (name_of letter k) (names_from letter (suc j) n)) ≡ some k
      go true e rest = ap some (name_one letter j k e)
      go false e rest = rest (apart j k a (λ s. false≢true (sym e ∙ rw s (same_self (name_of letter k)))))

  -- The name of k is not found among names of lower numbers.
  pub find_none : (j n : ℕ) → j + n ≤ k → find j (name_of letter k) (names_from letter j n) ≡ none
  unfolding find names_from
  find_none j zero a = refl
  find_none j (suc n) a = go (same (name_of letter j) (name_of letter k)) refl (find_none (suc j) n (omega arith))
    where
      go : (t : Bool) → same (name_of letter j) (name_of letter k) ≡ t →
          find (suc j) (name_of letter k) (names_from letter (suc j) n) ≡ none →
          cond t (some j) (find (suc j) (name_of letter k) (names_from letter (suc j) n)) ≡ none
      go true e rest = let s = name_one letter j k e in absurd (omega arith)
      go false e rest = rest

-- `names_from` gives as many names as it is asked for.
pub names_length : (letter k n : ℕ) → length (names_from letter k n) ≡ n
unfolding names_from
names_length letter k zero = refl
names_length letter k (suc n) = ap suc (names_length letter (suc k) n)

-- n names and the next are n + 1 names.
pub names_more : (letter k n : ℕ) → names_from letter k n ++ (name_of letter (k + n) ∷ []) ≡ names_from letter k (suc n)
unfolding names_from
names_more letter k zero = let e : k + 0 ≡ k = omega arith in rw e
names_more letter k (suc n) =
    let e : k + suc n ≡ suc k + n = omega arith in
    rw e (ap (λ (z : List Word). name_of letter k ∷ z) (names_more letter (suc k) n))

-- A tag that is not among those before it is found at its place.
pub find_letter : (i t : ℕ) (xs ts : List ℕ) → among t xs ≡ false → find i (t ∷ []) (letters_of (xs ++ (t ∷ ts))) ≡ some (i + length xs)
unfolding find letters_of same among
find_letter i t [] ts h = let e : i + 0 ≡ i = omega arith in rw (eq-eqb t t refl, e)
find_letter i t (x ∷ xs) ts h = go (eqb x t) h (find_letter (suc i) t xs ts)
  where
    go : (b : Bool) → (b || among t xs) ≡ false →
        (among t xs ≡ false → find (suc i) (t ∷ []) (letters_of (xs ++ (t ∷ ts))) ≡ some (suc i + length xs)) →
        cond (b && true) (some i) (find (suc i) (t ∷ []) (letters_of (xs ++ (t ∷ ts)))) ≡ some (i + suc (length xs))
    go true f rest = absurd (false≢true (sym f))
    go false f rest = let s : suc i + length xs ≡ i + suc (length xs) = omega arith in rest f ∙ ap some s

-- If some bytes pass a test and one more does, all of them do.
pub every_more : (test : ℕ → Bool) (cs : List ℕ) (c : ℕ) → every test cs ≡ true → test c ≡ true → every test (cs ++ (c ∷ [])) ≡ true
unfolding every
every_more test [] c h g = rw g
every_more test (b ∷ cs) c h g = let both = simp and-eq-true_iff at h in rw both.0 (every_more test cs c both.1 g)

digit_is : (n : ℕ) → is_digit (digit n) ≡ true
unfolding is_digit
digit_is n = rw (le-leb 48 (digit n) (omega arith), le-leb (digit n) 57 (omega arith))

number_more : (front : List ℕ) (n : ℕ) → is_number front ≡ true → is_number (front ++ (digit n ∷ [])) ≡ true
unfolding is_number
number_more [] n h = absurd (false≢true h)
number_more (c ∷ cs) n h =
    let both = simp and-eq-true_iff at h in rw both.0 (every_more is_digit cs (digit n) both.1 (digit_is n))

-- What is written for a number passes the test of a number.
pub number_is : (n : ℕ) → is_number (decimal n) ≡ true
unfolding is_number every
number_is = by_digits (λ n ds. is_number ds ≡ true) (λ n h. rw (digit_is n)) (λ n front h e. number_more front n e)

-- What is written for a number up to 65,535 is read as that number.
pub number_read : {A : Type 0} (n : ℕ) (go : ℕ → Answer A) → n ≤ 65535 → numbered (decimal n) go ≡ go n
unfolding numbered
number_read n go h = rw (number_is n, reads_back n, le-leb n 65535 h)

-- A digit neither parts words nor is of a sign.
digit_kind : (c : ℕ) → is_digit c ≡ true → kind c ≡ 1
unfolding kind parts is_sign is_digit
digit_kind c h =
    let both = simp and-eq-true_iff at h in
    let low = leb-true 48 c both.0 in
    let high = leb-true c 57 both.1 in
    let off : (n : ℕ) → (n ≡ c → ⊥) → eqb c n ≡ false = λ n g. ne_eqb c n (λ e. g (sym e)) in
    rw (
      off 32 (λ e. omega arith),
      off 9 (λ e. omega arith),
      off 13 (λ e. omega arith),
      off 10 (λ e. omega arith),
      off 35 (λ e. omega arith),
      off 45 (λ e. omega arith),
      off 60 (λ e. omega arith),
      off 61 (λ e. omega arith),
      off 62 (λ e. omega arith),
    )

digits_kind : (cs : List ℕ) → every is_digit cs ≡ true → all_of 1 cs ≡ true
unfolding every all_of
digits_kind [] h = refl
digits_kind (c ∷ cs) h = let both = simp and-eq-true_iff at h in rw (digit_kind c both.0) (digits_kind cs both.1)

number_whole : (w : Word) → is_number w ≡ true → whole w ≡ true
unfolding is_number whole
number_whole [] h = absurd (false≢true h)
number_whole (c ∷ cs) h = let both = simp and-eq-true_iff at h in rw (digit_kind c both.0) (digits_kind cs both.1)

-- What is written for a number is a whole word.
pub decimal_whole : (n : ℕ) → whole (decimal n) ≡ true
decimal_whole n = number_whole (decimal n) (number_is n)

-- A number has digits only.
pub digits_in : (w : Word) → is_number w ≡ true → every is_digit w ≡ true
unfolding is_number every
digits_in [] h = refl
digits_in (c ∷ cs) h = h

-- A name that is written is a whole word.
pub name_whole : (letter k : ℕ) → kind letter ≡ 1 → whole (name_of letter k) ≡ true
unfolding name_of whole
name_whole letter k e = rw e (digits_kind (decimal k) (digits_in (decimal k) (number_is k)))

-- A byte from 64 on neither parts words nor is of a sign.
pub plain_kind : (t : ℕ) → 64 ≤ t → kind t ≡ 1
unfolding kind parts is_sign
plain_kind t h =
    let off : (n : ℕ) → n < 64 → eqb t n ≡ false = λ n g. ne_eqb t n (λ e. omega arith) in
    rw (
      off 32 (omega arith),
      off 9 (omega arith),
      off 13 (omega arith),
      off 10 (omega arith),
      off 35 (omega arith),
      off 45 (omega arith),
      off 60 (omega arith),
      off 61 (omega arith),
      off 62 (omega arith),
    )

capital_kind : (t : ℕ) → is_capital t ≡ true → kind t ≡ 1
capital_kind t h =
    let both = simp and-eq-true_iff at h in
    let low = leb-true 65 t both.0 in
    plain_kind t (omega arith)

-- A capital letter is a whole word.
pub letter_whole : (t : ℕ) → is_capital t ≡ true → whole (t ∷ []) ≡ true
unfolding whole all_of
letter_whole t h = rw (capital_kind t h)

mark_kind : kind 33 ≡ 1
unfolding kind parts is_sign
mark_kind = refl

-- A capital letter behind `!` is a whole word.
pub off_whole : (t : ℕ) → is_capital t ≡ true → whole (33 ∷ t ∷ []) ≡ true
unfolding whole all_of
off_whole t h = rw (mark_kind, capital_kind t h)

-- One thing after another.
module _ {S X : Type 0} (next : S → X → Answer S) where
  -- With nothing to go through, s is given.
  pub through_none : (s : S) → through next s [] ≡ gives s
  unfolding through
  through_none s = refl

  -- If xs lead from s to t, what stands behind them goes on from t.
  pub through_more : (s t : S) (xs ys : List X) → through next s xs ≡ gives t → through next s (xs ++ ys) ≡ through next t ys
  unfolding through
  through_more s t [] ys h = let e : s ≡ t = cc in rw e
  through_more s t (x ∷ xs) ys h = go (next s x) h (λ u. through_more u t xs ys)
    where
      go : (a : Answer S) → (a and_then λ u. through next u xs) ≡ gives t →
          ((u : S) → through next u xs ≡ gives t → through next u (xs ++ ys) ≡ through next t ys) →
          (a and_then λ u. through next u (xs ++ ys)) ≡ through next t ys
      go (refused n) g rest = absurd (let z : ◌≡◌ {A = ℕ} 0 1 = cc in omega arith)
      go (gives u) g rest = rest u g
