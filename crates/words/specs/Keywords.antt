-- The words of the language by number, looked up once: each test for one of them is then a test of the number.
-- In order: the words and the code's table of them; what a search of the table says; that no two are the same; which of them no name may be; what a
-- name is, byte by byte.
use Rattle.std.specs.Prelude.{◌≡◌, refl, Bool, true, false, cond, not, ◌&&◌, ◌||◌, List, [], ◌∷◌, ℕ, zero, suc, ◌+◌, ◌-◌, ◌≤◌, ◌<◌, leb, ltb, length, get_or, take, drop}
use Rattle.std.proofs.Common.{ap, sym, ◌∙◌, arith, length-drop, length-take-le}
use Rattle.std.specs.Char.{is_ascii_digit}
use Rattle.std.specs.List.{list_all}
use Rattle.std.proofs.Math.Seq.{take_all}
use Rattle.std.proofs.Math.Bool.{and-eq-true_iff, and-false, or-true, or-false}
use Rattle.std.proofs.lemmas.Bool.{false≢true}
use Rattle.std.proofs.Math.Option.{none, some}
use Rattle.std.proofs.Math.Dec.{eqb}
use borrow.Author.Tests.{leb-true, leb-false, le-leb, lt-leb, ltb-true, ltb-false, eq-eqb, ne_eqb}
use Rattle.policy.specs.File.{part}
use Rattle.texts.specs.Text.{ascii}
use Rattle.wording.specs.Words.{Word}
use Rattle.wording.specs.Names.{same, find, is_plain, is_lower, is_digit, every, is_name}
use Rattle.wording.specs.NamesBack.{same_self, same_true}
use Rattle.words.specs.Spans.{spans, NamesIn, place_below}

-- The words of the language; the number of each is its place, counted from 0.
abbrev pub keywords : List Word
keywords =
    ascii "input" ∷ ascii "output" ∷ ascii "clock" ∷ ascii "location" ∷ ascii "at" ∷ ascii "any" ∷ ascii "->" ∷ ascii "violation" ∷ ascii "reset"
    ∷ ascii "must" ∷ ascii "be" ∷ ascii "left" ∷ ascii ">=" ∷ ascii "<=" ∷ []

-- The code's table: the words one after another, where each begins and how long it is.
abbrev pub all_words : List ℕ
all_words = ascii "inputoutputclocklocationatany->violationresetmustbeleft>=<="

-- Where each word begins in `all_words`.
abbrev pub word_starts : List ℕ
word_starts = 0 ∷ 5 ∷ 11 ∷ 16 ∷ 24 ∷ 26 ∷ 29 ∷ 31 ∷ 40 ∷ 45 ∷ 49 ∷ 51 ∷ 55 ∷ 57 ∷ []

-- How many bytes each word has.
abbrev pub word_lengths : List ℕ
word_lengths = 5 ∷ 6 ∷ 5 ∷ 8 ∷ 2 ∷ 3 ∷ 2 ∷ 9 ∷ 5 ∷ 4 ∷ 2 ∷ 4 ∷ 2 ∷ 2 ∷ []

-- Cut out of the table, they are the words of the language.
pub table_words : spans all_words word_starts word_lengths 0 14 ≡ keywords
unfolding spans
table_words = refl

-- One test over the table.
unfoldable within_all : (long : ℕ) (starts lengths : List ℕ) → Bool
within_all long [] lengths = true
within_all long (a ∷ starts) [] = false
within_all long (a ∷ starts) (b ∷ lengths) = leb (a + b) long && within_all long starts lengths

within_at : (long : ℕ) (starts lengths : List ℕ) → within_all long starts lengths ≡ true → (k : ℕ) → k < length starts → get_or starts k 0 + get_or lengths k 0 ≤ long
unfolding within_all
within_at long [] lengths h k l = absurd (omega arith)
within_at long (a ∷ starts) [] h k l = absurd (false≢true h)
within_at long (a ∷ starts) (b ∷ lengths) h zero l = leb-true (a + b) long ((and-eq-true_iff (leb (a + b) long) _).0 h).0
within_at long (a ∷ starts) (b ∷ lengths) h (suc k) l = within_at long starts lengths ((and-eq-true_iff (leb (a + b) long) _).0 h).1 k (omega arith)

-- Each part of the table lies within its bytes.
pub table_names : NamesIn 14 all_words word_starts word_lengths
unfolding within_all
table_names = record { starts_long = omega arith; lengths_long = omega arith; within = within_at 59 word_starts word_lengths refl }

-- What is found is the word; what is not found is none of them.
find_gives : (i : ℕ) (w : Word) (ks : List Word) (j : ℕ) → find i w ks ≡ some j → (i ≤ j) × (j < i + length ks) × (w ≡ get_or ks (j - i) [])
unfolding find
find_gives i w [] j h = absurd (let z : ◌≡◌ {A = ℕ} 0 1 = cc in omega arith)
find_gives i w (v ∷ ks) j h = go (same v w) refl h (find_gives (suc i) w ks j)
  where
    later : (n : ℕ) → suc i ≤ n → get_or (v ∷ ks) (n - i) [] ≡ get_or ks (n - suc i) []
    later n l = let e : n - i ≡ suc (n - suc i) = omega arith in rw e

    go : (t : Bool) → same v w ≡ t → cond t (some i) (find (suc i) w ks) ≡ some j →
        (find (suc i) w ks ≡ some j → (suc i ≤ j) × (j < suc i + length ks) × (w ≡ get_or ks (j - suc i) [])) →
        (i ≤ j) × (j < i + suc (length ks)) × (w ≡ get_or (v ∷ ks) (j - i) [])
    go true e k rest =
        let s : i ≡ j = cc in
        let z : j - i ≡ 0 = omega arith in
        (omega arith, omega arith, rw z (sym (same_true v w e)))
    go false e k rest = let r = rest k in (omega arith, omega arith, r.2 ∙ sym (later j r.0))

find_lacks : (i : ℕ) (w : Word) (ks : List Word) → find i w ks ≡ none → (k : ℕ) → k < length ks → w ≡ get_or ks k [] → ⊥
unfolding find
find_lacks i w [] h k l e = omega arith
find_lacks i w (v ∷ ks) h k l e = go (same v w) refl h k l e (find_lacks (suc i) w ks)
  where
    go : (t : Bool) → same v w ≡ t → cond t (some i) (find (suc i) w ks) ≡ none → (k : ℕ) → k < suc (length ks) → w ≡ get_or (v ∷ ks) k [] →
        (find (suc i) w ks ≡ none → (k : ℕ) → k < length ks → w ≡ get_or ks k [] → ⊥) → ⊥
    go true s n k l e rest = let z : ◌≡◌ {A = ℕ} 0 1 = cc in omega arith
    go false s n zero l e rest = false≢true (sym s ∙ ap (same v) e ∙ same_self v)
    go false s n (suc k) l e rest = rest n k (omega arith) e

-- No two of them are the same: one test over all pairs.
unfoldable row_good : (i : ℕ) (v : Word) (j : ℕ) → List Word → Bool
row_good i v j [] = true
row_good i v j (w ∷ ws) = eqb (cond (same v w) 1 0) (cond (eqb i j) 1 0) && row_good i v (suc j) ws

unfoldable rows_good : ℕ → List Word → List Word → Bool
rows_good i [] all = true
rows_good i (v ∷ vs) all = row_good i v 0 all && rows_good (suc i) vs all

bit_same : (a b : Bool) → eqb (cond a 1 0) (cond b 1 0) ≡ true → a ≡ b
bit_same true true h = refl
bit_same true false h = absurd (false≢true h)
bit_same false true h = absurd (false≢true h)
bit_same false false h = refl

row_at : (i : ℕ) (v : Word) (j : ℕ) (ws : List Word) → row_good i v j ws ≡ true → (k : ℕ) → k < length ws → same v (get_or ws k []) ≡ eqb i (j + k)
unfolding row_good
row_at i v j [] h k l = absurd (omega arith)
row_at i v j (w ∷ ws) h zero l =
    let e : j + 0 ≡ j = omega arith in rw e (bit_same (same v w) (eqb i j) ((and-eq-true_iff (eqb (cond (same v w) 1 0) (cond (eqb i j) 1 0)) _).0 h).0)
row_at i v j (w ∷ ws) h (suc k) l =
    let e : suc j + k ≡ j + suc k = omega arith in
    row_at i v (suc j) ws ((and-eq-true_iff (eqb (cond (same v w) 1 0) (cond (eqb i j) 1 0)) _).0 h).1 k (omega arith) ∙ ap (eqb i) e

rows_at : (i : ℕ) (vs all : List Word) → rows_good i vs all ≡ true → (n k : ℕ) → n < length vs → k < length all → same (get_or vs n []) (get_or all k []) ≡ eqb (i + n) k
unfolding rows_good
rows_at i [] all h n k l m = absurd (omega arith)
rows_at i (v ∷ vs) all h zero k l m =
    let e : i + 0 ≡ i = omega arith in
    let z : 0 + k ≡ k = omega arith in
    rw e (row_at i v 0 all ((and-eq-true_iff (row_good i v 0 all) _).0 h).0 k m ∙ ap (eqb i) z)
rows_at i (v ∷ vs) all h (suc n) k l m =
    let e : suc i + n ≡ i + suc n = omega arith in
    rows_at (suc i) vs all ((and-eq-true_iff (row_good i v 0 all) _).0 h).1 n k (omega arith) m ∙ ap (λ (z : ℕ). eqb z k) e

words_apart : (n k : ℕ) → n < 14 → k < 14 → same (get_or keywords n []) (get_or keywords k []) ≡ eqb n k
unfolding rows_good row_good same
words_apart n k l m = let z : 0 + n ≡ n = omega arith in rows_at 0 keywords keywords refl n k l m ∙ ap (λ (i : ℕ). eqb i k) z

-- The test for the word k, by the number r that was found.
pub keyword_is : (w : Word) (r : ℕ) → find 0 w keywords ≡ place_below 14 r → (k : ℕ) → k < 14 → same w (get_or keywords k []) ≡ eqb r k
keyword_is w r h k l = go (ltb r 14) refl h
  where
    not_it : (t : Bool) → same w (get_or keywords k []) ≡ t → find 0 w keywords ≡ none → 14 ≤ r → t ≡ eqb r k
    not_it true e n m = absurd (find_lacks 0 w keywords n k l (same_true w (get_or keywords k []) e))
    not_it false e n m = sym (ne_eqb r k (λ s. omega arith))

    go : (t : Bool) → ltb r 14 ≡ t → find 0 w keywords ≡ cond t (some r) none → same w (get_or keywords k []) ≡ eqb r k
    go true e f =
        let g = find_gives 0 w keywords r f in
        let z : r - 0 ≡ r = omega arith in
        let word : w ≡ get_or keywords r [] = g.2 ∙ ap (λ (i : ℕ). get_or keywords i []) z in
        ap (λ (v : Word). same v (get_or keywords k [])) word ∙ words_apart r k (ltb-true r 14 e) l
    go false e f = not_it (same w (get_or keywords k [])) refl f (ltb-false r 14 e)

-- A word is none of the first twelve.
plain_low : (r : ℕ) → r < 12 →
    not (eqb r 0 || (eqb r 1 || (eqb r 2 || (eqb r 3 || (eqb r 4 || (eqb r 5 || (eqb r 6 || (eqb r 7 || (eqb r 8 || (eqb r 9 || (eqb r 10 || eqb r 11))))))))))) ≡ false
plain_low zero h = refl
plain_low (suc zero) h = refl
plain_low (suc (suc zero)) h = refl
plain_low (suc (suc (suc zero))) h = refl
plain_low (suc (suc (suc (suc zero)))) h = refl
plain_low (suc (suc (suc (suc (suc zero))))) h = refl
plain_low (suc (suc (suc (suc (suc (suc zero)))))) h = refl
plain_low (suc (suc (suc (suc (suc (suc (suc zero))))))) h = refl
plain_low (suc (suc (suc (suc (suc (suc (suc (suc zero)))))))) h = refl
plain_low (suc (suc (suc (suc (suc (suc (suc (suc (suc zero))))))))) h = refl
plain_low (suc (suc (suc (suc (suc (suc (suc (suc (suc (suc zero)))))))))) h = refl
plain_low (suc (suc (suc (suc (suc (suc (suc (suc (suc (suc (suc zero))))))))))) h = refl
plain_low (suc (suc (suc (suc (suc (suc (suc (suc (suc (suc (suc (suc r)))))))))))) h = absurd (omega arith)

plain_high : (r : ℕ) → 12 ≤ r →
    not (eqb r 0 || (eqb r 1 || (eqb r 2 || (eqb r 3 || (eqb r 4 || (eqb r 5 || (eqb r 6 || (eqb r 7 || (eqb r 8 || (eqb r 9 || (eqb r 10 || eqb r 11))))))))))) ≡ true
plain_high r h =
    let off : (k : ℕ) → k < 12 → eqb r k ≡ false = λ k l. ne_eqb r k (λ e. omega arith) in
    rw (
      off 0 (omega arith),
      off 1 (omega arith),
      off 2 (omega arith),
      off 3 (omega arith),
      off 4 (omega arith),
      off 5 (omega arith),
      off 6 (omega arith),
      off 7 (omega arith),
      off 8 (omega arith),
      off 9 (omega arith),
      off 10 (omega arith),
      off 11 (omega arith),
    )

module _ (w : Word) (r : ℕ) (h : find 0 w keywords ≡ place_below 14 r) where
  plain_by : is_plain w
      ≡ not (eqb r 0 || (eqb r 1 || (eqb r 2 || (eqb r 3 || (eqb r 4 || (eqb r 5 || (eqb r 6 || (eqb r 7 || (eqb r 8 || (eqb r 9 || (eqb r 10 || eqb r 11)))))))))))
  unfolding is_plain
  plain_by =
      let k : (n : ℕ) → n < 14 → same w (get_or keywords n []) ≡ eqb r n = keyword_is w r h in
      rw (
        k 0 (omega arith),
        k 1 (omega arith),
        k 2 (omega arith),
        k 3 (omega arith),
        k 4 (omega arith),
        k 5 (omega arith),
        k 6 (omega arith),
        k 7 (omega arith),
        k 8 (omega arith),
        k 9 (omega arith),
        k 10 (omega arith),
        k 11 (omega arith),
      )

  -- A word with a number below 12 is one that no name may be.
  pub not_plain : r < 12 → is_plain w ≡ false
  not_plain l = plain_by ∙ plain_low r l

  -- `>=`, `<=` and a word that was not found are none of the words that no name may be.
  pub is-plain : 12 ≤ r → is_plain w ≡ true
  is-plain l = plain_by ∙ plain_high r l

  -- So its number tells whether a name may be the word.
  pub plain_test : leb 12 r ≡ is_plain w
  plain_test = go (leb 12 r) refl
    where
      go : (t : Bool) → leb 12 r ≡ t → t ≡ is_plain w
      go true e = sym (is-plain (leb-true 12 r e))
      go false e = sym (not_plain (leb-false 12 r e))

-- A name, by its tests one after another.
abbrev pub inner : ℕ → Bool
inner d = is_lower d || (is_digit d || eqb d 95)

-- A word of no bytes is no name.
pub name_none : (w : Word) → length w ≡ 0 → false ≡ is_name w
unfolding is_name
name_none [] h = refl
name_none (c ∷ cs) h = absurd (omega arith)

-- A word of more than 16 bytes is no name.
pub name_long : (w : Word) → 16 < length w → false ≡ is_name w
unfolding is_name
name_long [] h = absurd (omega arith)
name_long (c ∷ cs) h = rw (lt-leb (length cs) 15 (omega arith)) (sym (nothing (is_lower c) (every inner cs)))
  where
    nothing : (a b : Bool) → (a && (b && (false && is_plain (c ∷ cs)))) ≡ false
    nothing true true = refl
    nothing true false = refl
    nothing false b = refl

-- A name has at most 16 bytes.
pub name_short : (w : Word) → is_name w ≡ true → length w ≤ 16
name_short w e = go (ltb 16 (length w)) refl
  where
    go : (t : Bool) → ltb 16 (length w) ≡ t → length w ≤ 16
    go true h = absurd (false≢true (name_long w (ltb-true 16 (length w) h) ∙ e))
    go false h = ltb-false 16 (length w) h

-- As a part of the text.
pub name_size : (text : List ℕ) (a b : ℕ) → a ≤ b → b ≤ length text → is_name (part text a (b - a)) ≡ true → b - a ≤ 16
name_size text a b h l e = omega (arith, name_short (part text a (b - a)) e, length-take-le (b - a) (drop a text) (omega (arith, length-drop a text)))

-- A word that does not begin with a lower-case letter is no name.
pub name_first : (w : Word) → 0 < length w → false ≡ is_lower (get_or w 0 0) → false ≡ is_name w
unfolding is_name
name_first [] h e = absurd (omega arith)
name_first (c ∷ cs) h e = rw (← e)

-- A word with a wrong byte behind its first is no name.
pub name_inner : (w : Word) → false ≡ every inner (drop 1 w) → false ≡ is_name w
unfolding is_name every
name_inner [] e = refl
name_inner (c ∷ cs) e = rw (← e) (sym (and-false (is_lower c)))

-- A word that passes these tests is a name, unless it is a word of the language.
pub name_plain : (w : Word) → 0 < length w → length w ≤ 16 → true ≡ is_lower (get_or w 0 0) → true ≡ every inner (drop 1 w) → is_plain w ≡ is_name w
unfolding is_name
name_plain [] h l e f = absurd (omega arith)
name_plain (c ∷ cs) h l e f = rw (← e, ← f, le-leb (length cs) 15 (omega arith))

every_all : (test : ℕ → Bool) (cs : List ℕ) → list_all test cs ≡ every test cs
unfolding every
every_all test [] = refl
every_all test (c ∷ cs) = ap (λ (t : Bool). test c && t) (every_all test cs)

-- The bytes behind the first.
pub all_inner : (w : Word) → list_all inner (take (length w - 1) (drop 1 w)) ≡ every inner (drop 1 w)
all_inner w = ap (list_all inner) (take_all (length w - 1) (drop 1 w) (omega (arith, length-drop 1 w))) ∙ every_all inner (drop 1 w)

-- A byte of a name.
module _ (c : ℕ) where
  -- A lower-case letter may stand in a name.
  pub inner_lower : is_lower c ≡ true → true ≡ inner c
  inner_lower e = rw e

  -- An underscore may stand in a name.
  pub inner_line : c ≡ 95 → true ≡ inner c
  inner_line e = rw (eq-eqb c 95 e, or-true (is_digit c)) (sym (or-true (is_lower c)))

  -- Any other byte may stand in a name if it is a digit.
  pub inner_other : is_lower c ≡ false → (c ≡ 95 → ⊥) → is_ascii_digit c ≡ inner c
  unfolding is_digit
  inner_other e n = rw (e, ne_eqb c 95 n) (sym (or-false (is_digit c)))
