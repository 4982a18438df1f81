-- Where a name stands in the text: what the entries answer, and the lines that declare counted.
-- In order: which lines declare, and where the name in one stands; what the entries promise; a line by its first word; the words of a line by where
-- they were found; the name by these words; the lines from a position on; the answers.
use Rattle.std.specs.Prelude.{◌≡◌, Bool, true, false, ◌||◌, ltb, eqb, get_or, take, drop}
use Rattle.std.proofs.Math.Path.{refl, ap, sym}
use Rattle.std.proofs.Common.{◌∙◌, length-drop, drop_of_length-le, length-take-le, drop-drop, ne_eqb, le-ltb}
use Rattle.std.proofs.Math.Bool.{cond}
use mathlib.Core.List.{List, [], ◌∷◌}
use Prim.Native.Nat.{ℕ, zero, suc, ◌+◌, ◌-◌, ◌≤◌, ◌<◌}
use native.Mathlib.Omega.{arith}
use Rattle.std.proofs.Math.ListN.{length}
use Rattle.policy.specs.File.{part}
use Rattle.wording.specs.Words.{Word, Line, words_of, split}
use Rattle.wording.specs.Names.{same, find, is}
use Rattle.wording.specs.Reader.{FromText, stops, reads, file_from_text}
use Rattle.words.specs.Spans.{place_below}
use Rattle.words.specs.Keywords.{keywords, keyword_is}
use Rattle.words.specs.Lex.{blanks, NextLine}
use Rattle.words.specs.Firsts.{drop_take, NextIn, in_none, in_word}

-- A refusal and its line, 0 for the file's own and for 35; or 0 and where the name stands: no byte for none.
pub record NameAt : Type 0 where
  pub refusal : ℕ
  pub line : ℕ
  pub place : ℕ
  pub length : ℕ

-- The lines that declare a signal (0), a clock (1) or a location (2).
abbrev pub declares : ℕ → Line → Bool
declares kind [] = false
declares zero (w ∷ ws) = is "input" w || is "output" w
declares (suc zero) (w ∷ ws) = is "clock" w
declares (suc (suc n)) (w ∷ ws) = is "location" w

-- Which word of its line the name is: a signal's stands behind its letter.
abbrev pub name_word : ℕ → ℕ
name_word zero = 2
name_word (suc n) = 1

-- The first word of a line; no byte if the line has none.
abbrev pub first_word : Line → Word
first_word [] = []
first_word (w ∷ ws) = w

-- Where the word k of a line begins.
unfoldable pub word_place : ℕ → List ℕ → ℕ
word_place zero l = blanks l
word_place (suc k) l = blanks l + length (first_word (words_of l)) + word_place k (drop (blanks l + length (first_word (words_of l))) l)

-- A word of `size` bytes at `place`; no byte is none.
abbrev pub standing : ℕ → ℕ → NameAt
standing place zero = record { refusal = 0; line = 0; place = 0; length = 0 }
standing place (suc n) = record { refusal = 0; line = 0; place = place; length = suc n }

-- The name in a line that begins at `at`.
unfoldable pub name_in : ℕ → ℕ → List ℕ → NameAt
name_in kind at l = standing (at + word_place (name_word kind) l) (length (get_or (words_of l) (name_word kind) []))

-- The answer a for 0, and for a larger number what `go` gives for one less.
abbrev pub pick : ℕ → NameAt → (ℕ → NameAt) → NameAt
pick zero a go = a
pick (suc i) a go = go i

-- The name of the i-th of some lines that declare, the first of all lines beginning at `at`. 35: there are not so many.
unfoldable pub names_from : (kind at i : ℕ) → List (List ℕ) → NameAt
names_from kind at i [] = record { refusal = 35; line = 0; place = 0; length = 0 }
names_from kind at i (l ∷ ls) =
    cond (declares kind (words_of l)) (pick i (name_in kind at l) (λ j. names_from kind (at + length l + 1) j ls)) (names_from kind (at + length l + 1) i ls)

-- The answer for a text: its refusal with the line if it is refused, else where the name i of the kind stands.
abbrev pub name_given : (kind : ℕ) → List ℕ → ℕ → FromText (List ℕ) → NameAt
name_given kind text i (stops n line) = record { refusal = n; line = line; place = 0; length = 0 }
name_given kind text i (reads f) = names_from kind 0 i (split text)

-- What `name_of_signal` (kind 0), `name_of_clock` (1) and `name_of_location` (2) promise.
abbrev pub NameAtPromise : (kind : ℕ) → List ℕ → ℕ → NameAt → Type 0
NameAtPromise kind text i r = r ≡ name_given kind text i (file_from_text text)

-- One answer alone keeps this promise.
pub name_at_one : (kind : ℕ) (text : List ℕ) (i : ℕ) (r s : NameAt) → NameAtPromise kind text i r → NameAtPromise kind text i s → r ≡ s
name_at_one kind text i r s a b = a ∙ sym b

-- 1 for a line that declares.
abbrev pub declares_bit : ℕ → Line → ℕ
declares_bit kind l = cond (declares kind l) 1 0

-- By the number of the first word.
abbrev pub word_bit : ℕ → ℕ → Bool
word_bit zero r = eqb r 0 || eqb r 1
word_bit (suc zero) r = eqb r 2
word_bit (suc (suc n)) r = eqb r 3

-- A signal is declared by the words 0 and 1 of the language: `input` and `output`.
pub declares_signal : (kind k : ℕ) → kind ≡ 0 → word_bit kind k ≡ ltb k 2
declares_signal kind k e = ap (λ (m : ℕ). word_bit m k) e ∙ go k
  where
    go : (n : ℕ) → (eqb n 0 || eqb n 1) ≡ ltb n 2
    go zero = refl
    go (suc zero) = refl
    go (suc (suc n)) = rw (ne_eqb (suc (suc n)) 0 (λ z. omega arith), ne_eqb (suc (suc n)) 1 (λ z. omega arith), le-ltb (suc (suc n)) 2 (omega arith))

-- A clock is declared by the word 2 of the language: `clock`.
pub declares_clock : (kind k : ℕ) → kind ≡ 1 → word_bit kind k ≡ eqb k 2
declares_clock kind k e = ap (λ (m : ℕ). word_bit m k) e

-- A location is declared by the word 3 of the language: `location`.
pub declares_place : (kind k : ℕ) → (kind ≡ 0 → ⊥) → (kind ≡ 1 → ⊥) → word_bit kind k ≡ eqb k 3
declares_place zero k a b = absurd (a refl)
declares_place (suc zero) k a b = absurd (b refl)
declares_place (suc (suc n)) k a b = refl

module _ {text : List ℕ} {end at a b : ℕ} (n : NextIn text end at a b) (kind : ℕ) where
  -- A line without a word declares nothing.
  pub declares_none : b ≤ a → 0 ≡ declares_bit kind (words_of (part text at (end - at)))
  declares_none h = sym (ap (declares_bit kind) (in_none n h) ∙ go kind)
    where
      go : (k : ℕ) → declares_bit k [] ≡ 0
      go zero = refl
      go (suc zero) = refl
      go (suc (suc k)) = refl

  -- Whether a line declares is seen by the number of its first word.
  pub declares_by : a < b → (r : ℕ) → find 0 (part text a (b - a)) keywords ≡ place_below 14 r → {t : Bool} → word_bit kind r ≡ t → cond t 1 0 ≡ declares_bit kind (words_of (part text at (end - at)))
  declares_by h r e {t} y =
      let w = part text a (b - a) in
      let k : (n : ℕ) → n < 14 → same w (get_or keywords n []) ≡ eqb r n = keyword_is w r e in
      sym (ap (declares_bit kind) (in_word n h) ∙ ap (λ (z : Bool). cond z 1 0) (go kind (k 0 (omega arith)) (k 1 (omega arith)) (k 2 (omega arith)) (k 3 (omega arith)) ∙ y))
    where
      go : (m : ℕ) → same (part text a (b - a)) (get_or keywords 0 []) ≡ eqb r 0 → same (part text a (b - a)) (get_or keywords 1 []) ≡ eqb r 1 → same (part text a (b - a)) (get_or keywords 2 []) ≡ eqb r 2 →
          same (part text a (b - a)) (get_or keywords 3 []) ≡ eqb r 3 → declares m (part text a (b - a) ∷ words_of (part text b (end - b))) ≡ word_bit m r
      go zero p q u v = (λ i. p i || q i)
      go (suc zero) p q u v = u
      go (suc (suc m)) p q u v = v

-- A word of the line at `a`, the next from `b` on.
module _ {text : List ℕ} {end at a b : ℕ} (fits : end ≤ length text) (from : at ≤ end) (n : NextIn text end at a b) where
  word_long : a < b → length (part text a (b - a)) ≡ b - a
  word_long h = length-take-le (b - a) (drop a text) (let e = length-drop a text in omega (arith, n.within))

  past_word : a < b → blanks (part text at (end - at)) + length (first_word (words_of (part text at (end - at)))) ≡ b - at
  past_word h =
      let e = ap (λ (l : Line). length (first_word l)) (in_word n h) ∙ word_long h in
      omega (arith, e, n.begins, n.after, n.order)

  rest_line : drop (b - at) (part text at (end - at)) ≡ part text b (end - b)
  rest_line =
      let s : end - at - (b - at) ≡ end - b = omega (arith, n.after, n.order, n.within) in
      let t : at + (b - at) ≡ b = omega (arith, n.after, n.order) in
      drop_take (b - at) (end - at) (drop at text) ∙ (λ i. take (s i) (drop (b - at) (drop at text))) ∙ ap (take (end - b)) (drop-drop (b - at) at text ∙ ap (λ (m : ℕ). drop m text) t)

  -- The word 0 begins where the first word was found.
  pub place_first : at + word_place 0 (part text at (end - at)) ≡ a
  unfolding word_place
  place_first = sym n.begins

  -- The word k + 1 begins where the word k of the line's rest behind the first word begins.
  pub place_next : a < b → (k : ℕ) → at + word_place (suc k) (part text at (end - at)) ≡ b + word_place k (part text b (end - b))
  unfolding word_place
  place_next h k =
      let p = past_word h in
      let t : at + (b - at) ≡ b = omega (arith, n.after, n.order) in
      let m : at + (b - at + word_place k (part text b (end - b))) ≡ b + word_place k (part text b (end - b)) = omega arith in
      (λ i. at + (p i + word_place k (drop (p i) (part text at (end - at))))) ∙ ap (λ (l : List ℕ). at + (b - at + word_place k l)) rest_line ∙ m

  -- The word k + 1 is the word k of the line's rest behind the first word.
  pub words_next : a < b → (k : ℕ) → get_or (words_of (part text at (end - at))) (suc k) [] ≡ get_or (words_of (part text b (end - b))) k []
  words_next h k = ap (λ (l : Line). get_or l (suc k) []) (in_word n h)

  -- The word 0 is as long as the first word that was found.
  pub word_first : a < b → length (get_or (words_of (part text at (end - at))) 0 []) ≡ b - a
  word_first h = ap (λ (l : Line). length (get_or l 0 [])) (in_word n h) ∙ word_long h

  -- Where no word was found, the line has no word k.
  pub word_lacks : b ≤ a → (k : ℕ) → get_or (words_of (part text at (end - at))) k [] ≡ []
  word_lacks h k = ap (λ (l : Line). get_or l k []) (in_none n h)

-- No name, or one that is there.
module _ (kind at : ℕ) (l : List ℕ) where
  -- A line that lacks the word for the name: the place and the length are 0.
  pub name_none : get_or (words_of l) (name_word kind) [] ≡ [] → record { refusal = 0; line = 0; place = 0; length = 0 } ≡ name_in kind at l
  unfolding name_in
  name_none e = sym (ap (λ (w : Word). standing (at + word_place (name_word kind) l) (length w)) e)

  -- A line that has the word for the name: where that begins, and how long it is.
  pub name_there : {place size : ℕ} → at + word_place (name_word kind) l ≡ place → length (get_or (words_of l) (name_word kind) []) ≡ size → 0 < size → record { refusal = 0; line = 0; place = place; length = size } ≡ name_in kind at l
  unfolding name_in
  name_there {place} {size} p s h = go size h ∙ (λ i. standing (sym p i) (sym s i))
    where
      go : (n : ℕ) → 0 < n → record { refusal = 0; line = 0; place = place; length = n } ≡ standing place n
      go zero z = absurd (omega arith)
      go (suc n) z = refl

-- By the words of the line that were found.
module _ {text : List ℕ} {end at a b c d : ℕ} (fits : end ≤ length text) (from : at ≤ end) (n : NextIn text end at a b) (h : a < b) (m : NextIn text end b c d) where
  abbrev line : List ℕ
  line = part text at (end - at)

  -- A line of one word has no name.
  pub second_none : (kind : ℕ) → d ≤ c → record { refusal = 0; line = 0; place = 0; length = 0 } ≡ name_in kind at line
  second_none zero g = name_none zero at line (words_next fits from n h 1 ∙ word_lacks fits n.within m g 1)
  second_none (suc k) g = name_none (suc k) at line (words_next fits from n h 0 ∙ word_lacks fits n.within m g 0)

  module _ (g : c < d) where
    -- The name of a clock or a location is the second word.
    pub second_there : (kind : ℕ) → (kind ≡ 0 → ⊥) → record { refusal = 0; line = 0; place = c; length = d - c } ≡ name_in kind at line
    second_there zero z = absurd (z refl)
    second_there (suc k) z =
        name_there (suc k) at line (place_next fits from n h 0 ∙ place_first fits n.within m)
        (ap length (words_next fits from n h 0) ∙ word_first fits n.within m g) (omega arith)

    module _ {e f : ℕ} (o : NextIn text end d e f) where
      words_two : (k : ℕ) → get_or (words_of line) (suc (suc k)) [] ≡ get_or (words_of (part text d (end - d))) k []
      words_two k = words_next fits from n h (suc k) ∙ words_next fits n.within m g k

      -- The line of a signal with only two words has no name.
      pub third_none : (kind : ℕ) → kind ≡ 0 → f ≤ e → record { refusal = 0; line = 0; place = 0; length = 0 } ≡ name_in kind at line
      third_none zero z l = name_none zero at line (words_two 0 ∙ word_lacks fits m.within o l 0)
      third_none (suc k) z l = absurd (omega arith)

      -- The name of a signal is the third word.
      pub third_there : (kind : ℕ) → kind ≡ 0 → e < f → record { refusal = 0; line = 0; place = e; length = f - e } ≡ name_in kind at line
      third_there zero z l =
          name_there zero at line (place_next fits from n h 1 ∙ place_next fits n.within m g 0 ∙ place_first fits m.within o)
          (ap length (words_two 0) ∙ word_first fits m.within o l) (omega arith)
      third_there (suc k) z l = absurd (omega arith)

-- The lines from `at` on.
module _ (kind : ℕ) (text : List ℕ) where
  -- The name in the i-th declaring line from `at` on.
  unfoldable pub names_left : ℕ → ℕ → NameAt
  names_left at i = names_from kind at i (split (drop at text))

  -- At the end of the text no line is left: 35.
  pub names_end : (at i : ℕ) → length text ≤ at → record { refusal = 35; line = 0; place = 0; length = 0 } ≡ names_left at i
  unfolding names_left names_from split
  names_end at i h = sym (ap (λ (l : List ℕ). names_from kind at i (split l)) (drop_of_length-le text h))

  module _ {at end : ℕ} (l : NextLine text at end) (h : at < length text) where
    line_long : length (part text at (end - at)) ≡ end - at
    line_long = length-take-le (end - at) (drop at text) (let e = length-drop at text in omega (arith, l.within))

    here : (i : ℕ) → names_left at i
        ≡ cond (declares kind (words_of (part text at (end - at)))) (pick i (name_in kind at (part text at (end - at))) (λ j. names_from kind (end + 1) j (split (drop (end + 1) text)))) (names_from kind (end + 1) i (split (drop (end + 1) text)))
    unfolding names_left names_from
    here i =
        let s : at + length (part text at (end - at)) + 1 ≡ end + 1 = omega (arith, line_long, l.after) in
        ap (names_from kind at i) (l.lines h)
        ∙ (λ v. cond (declares kind (words_of (part text at (end - at)))) (pick i (name_in kind at (part text at (end - at))) (λ j. names_from kind (s v) j (split (drop (end + 1) text)))) (names_from kind (s v) i (split (drop (end + 1) text))))

    -- The line declares and none is to be passed first: the name is the one in this line.
    pub name_here : {bit left : ℕ} → bit ≡ declares_bit kind (words_of (part text at (end - at))) → left < bit → name_in kind at (part text at (end - at)) ≡ names_left at left
    name_here {bit} {left} b k = sym (here left ∙ go (declares kind (words_of (part text at (end - at)))) left b k)
      where
        go : (t : Bool) (m : ℕ) → bit ≡ cond t 1 0 → m < bit →
            cond t (pick m (name_in kind at (part text at (end - at))) (λ j. names_from kind (end + 1) j (split (drop (end + 1) text)))) (names_from kind (end + 1) m (split (drop (end + 1) text))) ≡ name_in kind at (part text at (end - at))
        go true zero c u = refl
        go true (suc m) c u = absurd (omega arith)
        go false m c u = absurd (omega arith)

    -- Where the text ends, no line is left.
    same_rest : (next : ℕ) → (end < length text → next ≡ end + 1) → (length text ≤ end → next ≡ length text) → (i : ℕ) → names_from kind (end + 1) i (split (drop (end + 1) text)) ≡ names_left next i
    unfolding names_left
    same_rest next a b i = go (length text - end) refl
      where
        go : (n : ℕ) → length text - end ≡ n → names_from kind (end + 1) i (split (drop (end + 1) text)) ≡ names_from kind next i (split (drop next text))
        go zero e =
            let z : length text ≤ end = omega arith in
            let y : next ≡ length text = b z in
            let past : length text ≤ end + 1 = omega arith in
            let last : length text ≤ next = omega arith in
            sym (names_end (end + 1) i past) ∙ names_end next i last
        go (suc n) e = let y : end < length text = omega arith in ap (λ (m : ℕ). names_from kind m i (split (drop m text))) (sym (a y))

    -- Else the name is in the lines that follow, with one less to pass if this line declares.
    pub names_on : {bit left : ℕ} (next : ℕ) → (end < length text → next ≡ end + 1) → (length text ≤ end → next ≡ length text) → bit ≡ declares_bit kind (words_of (part text at (end - at))) → bit ≤ left → names_left at left ≡ names_left next (left - bit)
    names_on {bit} {left} next a b c k = here left ∙ go (declares kind (words_of (part text at (end - at)))) left c k ∙ same_rest next a b (left - bit)
      where
        go : (t : Bool) (m : ℕ) → bit ≡ cond t 1 0 → bit ≤ m →
            cond t (pick m (name_in kind at (part text at (end - at))) (λ j. names_from kind (end + 1) j (split (drop (end + 1) text)))) (names_from kind (end + 1) m (split (drop (end + 1) text)))
            ≡ names_from kind (end + 1) (m - bit) (split (drop (end + 1) text))
        go true zero u v = absurd (omega arith)
        go true (suc m) u v = let y : m ≡ suc m - bit = omega arith in ap (λ (j : ℕ). names_from kind (end + 1) j (split (drop (end + 1) text))) y
        go false m u v = let y : m ≡ m - bit = omega arith in ap (λ (j : ℕ). names_from kind (end + 1) j (split (drop (end + 1) text))) y

-- The answers.
module _ (kind : ℕ) (text : List ℕ) (i : ℕ) where
  -- For a text that is refused, the answer has its refusal and its line.
  pub name_stops : {n line : ℕ} → file_from_text text ≡ stops n line → NameAtPromise kind text i (record { refusal = n; line = line; place = 0; length = 0 })
  name_stops e = sym (ap (name_given kind text i) e)

  -- For a text that is read, the answer is the name found in its lines from the first on.
  pub name-given : {f : List ℕ} → file_from_text text ≡ reads f → {r : NameAt} → r ≡ names_left kind text 0 i → NameAtPromise kind text i r
  unfolding names_left
  name-given e k = k ∙ sym (ap (name_given kind text i) e)
