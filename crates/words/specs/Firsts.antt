-- The words of a line that is a part of the text, as parts of the text.
use Rattle.std.specs.Prelude.{◌≡◌, refl, cond, List, [], ◌∷◌, ℕ, zero, suc, ◌+◌, ◌-◌, ◌≤◌, ◌<◌, ltb, length, take, drop}
use Rattle.std.proofs.Common.{ap, sym, subst, ◌∙◌, arith, length-take, take-take, lt-ltb, le-ltb}
use Rattle.std.proofs.Math.Seq.{take-nil}
use Rattle.policy.specs.File.{part}
use Rattle.wording.specs.Words.{Word, Line, words_of}
use Rattle.words.specs.Lex.{blanks, Next}
use Rattle.words.specs.declared.firsts.Few.{Few}
use Rattle.words.specs.declared.words.Span.{Span}

-- What follows the first a bytes of a line that ends at e, as a part of the text.
pub drop_take : (a e : ℕ) (l : List ℕ) → drop a (take e l) ≡ take (e - a) (drop a l)
drop_take zero e l = let s : e ≡ e - 0 = omega arith in ap (λ (n : ℕ). take n l) s
drop_take (suc a) zero l = let s : 0 ≡ 0 - suc a = omega arith in ap (λ (n : ℕ). take n (drop (suc a) l)) s
drop_take (suc a) (suc e) [] = sym (take-nil (suc e - suc a))
drop_take (suc a) (suc e) (c ∷ l) =
    let s : e - a ≡ suc e - suc a = omega arith in
    drop_take a e l ∙ ap (λ (n : ℕ). take n (drop a l)) s

-- As `Next`, of the line that ends at `end`.
pub record NextIn (text : List ℕ) (end at start stop : ℕ) : Type 0 where
  pub begins : start ≡ at + blanks (part text at (end - at))
  pub after : at ≤ start
  pub order : start ≤ stop
  pub within : stop ≤ end
  pub words : words_of (part text at (end - at)) ≡ cond (ltb start stop) (part text start (stop - start) ∷ words_of (part text stop (end - stop))) []

-- The next word of the text up to `end` is that of the line which ends there.
pub next_in : (text : List ℕ) (end at start stop : ℕ) → end ≤ length text → Next (take end text) at start stop → NextIn text end at start stop
next_in text end at start stop h n =
    let long = length-take end text in
    let within : stop ≤ end = omega (arith, n.within, long) in
    let word : take (stop - start) (drop start (take end text)) ≡ part text start (stop - start) =
    ap (take (stop - start)) (drop_take start end text) ∙ take-take (stop - start) (end - start) (drop start text) (omega (arith, n.order)) in
    let rest = drop_take stop end text in
    record {
      begins = n.begins ∙ ap (λ (l : List ℕ). at + blanks l) (drop_take at end text);
      after = n.after;
      order = n.order;
      within = within;
      words = sym (ap words_of (drop_take at end text)) ∙ n.words ∙ (λ i. cond (ltb start stop) (word i ∷ words_of (rest i)) []);
    }

module _ {text : List ℕ} {end at start stop : ℕ} (n : NextIn text end at start stop) where
  -- No word was found: the line has none from `at` on.
  pub in_none : stop ≤ start → words_of (part text at (end - at)) ≡ []
  in_none h = n.words ∙ rw (le-ltb start stop h)

  -- A word was found: it is the next, and the words after its end follow it.
  pub in_word : start < stop → words_of (part text at (end - at)) ≡ part text start (stop - start) ∷ words_of (part text stop (end - stop))
  in_word h = n.words ∙ rw (lt-ltb start stop h)

-- A line of no word, of one, of two, or of more.
abbrev pub Shaped : ℕ → Word → Word → Line → Type 0
Shaped zero v w l = l ≡ []
Shaped (suc zero) v w l = (l ≡ v ∷ []) × (w ≡ [])
Shaped (suc (suc zero)) v w l = l ≡ v ∷ w ∷ []
Shaped (suc (suc (suc n))) v w l = (u : Word) × (us : Line) × (l ≡ v ∷ w ∷ u ∷ us)

-- How many words, 3 for more than two, and where the first two stand.
abbrev pub count_of : Few → ℕ
count_of Few.None = 0
count_of (Few.One v) = 1
count_of (Few.Two v w) = 2
count_of (Few.More v w) = 3

-- No byte.
abbrev pub no_span : Span
no_span = record { start = 0; end = 0 }

-- The first two words of the line, as far as it has them.
abbrev pub first_held : Few → Span
first_held Few.None = no_span
first_held (Few.One v) = v
first_held (Few.Two v w) = v
first_held (Few.More v w) = v

abbrev pub second_held : Few → Span
second_held Few.None = no_span
second_held (Few.One v) = no_span
second_held (Few.Two v w) = w
second_held (Few.More v w) = w

-- The same of a line of no more than two words, and no byte of any other.
abbrev pub first_span : Few → Span
first_span Few.None = no_span
first_span (Few.One v) = v
first_span (Few.Two v w) = v
first_span (Few.More v w) = no_span

abbrev pub second_span : Few → Span
second_span Few.None = no_span
second_span (Few.One v) = no_span
second_span (Few.Two v w) = w
second_span (Few.More v w) = no_span

-- The word of the text.
abbrev pub word_of : List ℕ → Span → Word
word_of text s = part text s.start (s.end - s.start)

-- It stands within the text.
pub record SpanIn (text : List ℕ) (s : Span) : Type 0 where
  pub order : s.start ≤ s.end
  pub within : s.end ≤ length text

-- Both words do.
pub record InText (text : List ℕ) (f : Few) : Type 0 where
  pub first : SpanIn text (first_span f)
  pub second : SpanIn text (second_span f)
  pub held : SpanIn text (first_held f) × SpanIn text (second_held f)

-- What f says of the line from `at` to `end`.
pub record Firsts (text : List ℕ) (end at : ℕ) (f : Few) : Type 0 where
  pub line : Shaped (count_of f) (word_of text (first_held f)) (word_of text (second_held f)) (words_of (part text at (end - at)))
  pub stands : InText text f

none_in : (text : List ℕ) → SpanIn text no_span
none_in text = record { order = omega arith; within = omega arith }

-- The four answers.
module _ {text : List ℕ} {end at : ℕ} (s : Span) (inside : end ≤ length text) (n : NextIn text end at s.start s.end) where
  -- The line has no word.
  pub few_none : s.end ≤ s.start → Firsts text end at Few.None
  few_none h = record { line = in_none n h; stands = record { first = none_in text; second = none_in text; held = (none_in text, none_in text) } }

  first_in : SpanIn text s
  first_in = record { order = n.order; within = omega (arith, n.within) }

  module _ (s' : Span) (h : s.start < s.end) (m : NextIn text end s.end s'.start s'.end) where
    -- The line has one word.
    pub few_one : s'.end ≤ s'.start → Firsts text end at (Few.One s)
    few_one l =
        record {
          line = (in_word n h ∙ ap (λ (z : Line). word_of text s ∷ z) (in_none m l), refl);
          stands = record { first = first_in; second = none_in text; held = (first_in, none_in text) };
        }

    second_in : SpanIn text s'
    second_in = record { order = m.order; within = omega (arith, m.within) }

    module _ (s'' : Span) (l : s'.start < s'.end) (k : NextIn text end s'.end s''.start s''.end) where
      -- The line has two words.
      pub few_two : s''.end ≤ s''.start → Firsts text end at (Few.Two s s')
      few_two g =
          record {
            line = in_word n h ∙ ap (λ (z : Line). word_of text s ∷ z) (in_word m l ∙ ap (λ (z : Line). word_of text s' ∷ z) (in_none k g));
            stands = record { first = first_in; second = second_in; held = (first_in, second_in) };
          }

      -- The line has more than two words.
      pub few_more : s''.start < s''.end → Firsts text end at (Few.More s s')
      few_more g =
          record {
            line = (
              word_of text s'',
              words_of (part text s''.end (end - s''.end)),
              in_word n h ∙ ap (λ (z : Line). word_of text s ∷ z) (in_word m l ∙ ap (λ (z : Line). word_of text s' ∷ z) (in_word k g)),
            );
            stands = record { first = none_in text; second = none_in text; held = (first_in, second_in) };
          }

-- A line of the one word, and of the two.
pub one_word : (text : List ℕ) (f : Few) (v : Span) (l : Line) → f ≡ Few.One v → Shaped (count_of f) (word_of text (first_held f)) (word_of text (second_held f)) l → l ≡ word_of text v ∷ []
one_word text f v l e s = (subst (λ (g : Few). Shaped (count_of g) (word_of text (first_held g)) (word_of text (second_held g)) l) e s).0

pub two_words : (text : List ℕ) (f : Few) (v w : Span) (l : Line) → f ≡ Few.Two v w → Shaped (count_of f) (word_of text (first_held f)) (word_of text (second_held f)) l → l ≡ word_of text v ∷ word_of text w ∷ []
two_words text f v w l e s = subst (λ (g : Few). Shaped (count_of g) (word_of text (first_held g)) (word_of text (second_held g)) l) e s
