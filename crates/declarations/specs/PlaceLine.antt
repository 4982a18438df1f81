-- A location's line, by what was found of it.
-- In order: one location more in a draft; the words `must be left`, and the byte they give; a new location by its refusals, in their order; one
-- location more in the table; the three words found one by one; the line.
use Rattle.std.specs.Prelude.{◌≡◌, refl, Bool, true, false, cond, ◌&&◌, not, leb, ltb, eqb, ℕ, zero, suc, ◌+◌, ◌-◌, ◌≤◌, ◌<◌, length, take, drop, set}
use Rattle.std.proofs.Math.Path.{ap, sym}
use Rattle.std.proofs.Common.{◌∙◌, arith}
use mathlib.Core.List.{List, [], ◌∷◌, ◌++◌}
use borrow.Author.Tests.{ltb-true, ltb-false, lt-ltb, le-ltb, le-leb, lt-leb}
use Rattle.std.proofs.Math.Bool.{and-false, and-true}
use Rattle.std.proofs.Math.Option.{none, some}
use Rattle.streams.specs.Answer.{Answer, refused, gives}
use Rattle.policy.specs.Rules.{Rule}
use Rattle.policy.specs.File.{part}
use Rattle.wording.specs.Words.{Word, Line, words_of}
use Rattle.wording.specs.Names.{same, find, is, is_name, must, ◌and_then◌}
use Rattle.words.specs.Spans.{NamesIn}
use Rattle.wording.specs.Reader.{Draft, new_place, location_line}
use Rattle.std.specs.Cmp.Lexicographic.{pointwise}
use Rattle.words.specs.Lex.{same_is}
use Rattle.words.specs.Firsts.{NextIn, in_none, in_word}
use Rattle.declarations.specs.Fresh.{spans_other, spans_more, take_more}
use Rattle.declarations.specs.Table.{draft_of, Fit}
use Rattle.declarations.specs.declared.table.Table.{Table}

-- One location more, by its name and its byte.
abbrev pub with_place : Draft → Word → ℕ → Draft
with_place d w byte =
    record {
      inputs = d.inputs;
      outputs = d.outputs;
      names = d.names;
      clocks = d.clocks;
      ceilings = d.ceilings;
      places = d.places ++ (w ∷ []);
      left = d.left ++ (byte ∷ []);
      rules = d.rules;
      stage = 4;
      source = d.source;
    }

-- The words `must be left` and no more.
abbrev pub must_be_left : Line → Bool
must_be_left [] = false
must_be_left (a ∷ []) = false
must_be_left (a ∷ b ∷ []) = false
must_be_left (a ∷ b ∷ c ∷ []) = is "must" a && (is "be" b && is "left" c)
must_be_left (a ∷ b ∷ c ∷ v ∷ ws) = false

-- The byte of a location by the words behind its name; 2 for words that do not belong there.
abbrev pub left_byte : Line → ℕ
left_byte [] = 0
left_byte (w ∷ ws) = cond (must_be_left (w ∷ ws)) 1 2

-- As an answer: 30 for words that do not belong there.
abbrev pub byte_answer : ℕ → Answer ℕ
byte_answer zero = gives 0
byte_answer (suc zero) = gives 1
byte_answer (suc (suc n)) = refused 30

location_left : (d : Draft) (w a : Word) (as' : Line) → location_line d (w ∷ a ∷ as') ≡ must (must_be_left (a ∷ as')) 30 (new_place d w 1)
unfolding location_line
location_left d w a [] = refl
location_left d w a (b ∷ []) = refl
location_left d w a (b ∷ c ∷ []) = refl
location_left d w a (b ∷ c ∷ v ∷ ws) = refl

module _ (d : Draft) (w : Word) (byte : ℕ) where
  -- A location after an `at` is refused by 30.
  pub place_late : 4 < d.stage → refused 30 ≡ new_place d w byte
  unfolding new_place
  place_late h = rw (lt-leb d.stage 4 h)

  module _ (h : d.stage ≤ 4) where
    -- A word that cannot be a name is refused by 30.
    pub place_unnamed : is_name w ≡ false → refused 30 ≡ new_place d w byte
    unfolding new_place
    place_unnamed e = rw (le-leb d.stage 4 h, e)

    module _ (named : is_name w ≡ true) where
      -- A name that a location has already is refused by 31.
      pub place_taken : {k : ℕ} → find 0 w d.places ≡ some k → refused 31 ≡ new_place d w byte
      unfolding new_place
      place_taken e = rw (le-leb d.stage 4 h, named, e)

      -- A new name is refused by 33 where there are 64 locations already.
      pub place_full : find 0 w d.places ≡ none → 64 ≤ length d.places → refused 33 ≡ new_place d w byte
      unfolding new_place
      place_full e m = rw (le-leb d.stage 4 h, named, e, le-ltb (length d.places) 64 m)

      -- A new name is added, with its byte, where there are fewer than 64 locations.
      pub place_given : find 0 w d.places ≡ none → length d.places < 64 → gives (with_place d w byte) ≡ new_place d w byte
      unfolding new_place
      place_given e m = rw (le-leb d.stage 4 h, named, e, lt-ltb (length d.places) 64 m)

-- A location more in the table.
abbrev pub more_place : Table → Table
more_place t =
    record {
      tags = t.tags;
      ceilings = t.ceilings;
      inputs = t.inputs;
      signals = t.signals;
      clocks = t.clocks;
      places = t.places + 1;
      stage = 4;
      source = t.source;
    }

module _ {text starts lengths : List ℕ} {t : Table} (f : Fit t) (p : NamesIn 76 text starts lengths) (a b c : ℕ) (h : t.places < 64) where
  -- Stored in the table and the slices, the new location comes after the others, and all else stays.
  pub place_more : (left : List ℕ) → length left ≡ 64 → (rules : List Rule) →
      draft_of text (set starts (12 + t.places) a) (set lengths (12 + t.places) b) (set left t.places c) (more_place t) rules ≡ with_place (draft_of text starts lengths left t rules) (part text a b) c
  place_more left long rules =
      let d = draft_of text starts lengths left t rules in
      let few = f.inputs in
      let more = f.outputs in
      let four = f.clocks in
      let names = spans_other text starts lengths (12 + t.places) a b 0 t.signals (λ i x y z. omega arith) in
      let clocks = spans_other text starts lengths (12 + t.places) a b 8 t.clocks (λ i x y z. omega arith) in
      let places = spans_more text starts lengths 12 t.places (12 + t.places) a b refl (omega (arith, p.starts_long)) (omega (arith, p.lengths_long)) in
      let bytes = take_more left t.places c (omega arith) in
      (λ i. record { inputs = d.inputs; outputs = d.outputs; names = names i; clocks = clocks i; ceilings = d.ceilings; places = places i; left = bytes i; rules = rules; stage = 4; source = d.source })

-- A table of fewer than 64 locations still fits with one more.
pub fit_place : {t : Table} → Fit t → t.places < 64 → Fit (more_place t)
fit_place f h =
    record {
      inputs = f.inputs;
      outputs = f.outputs;
      order = f.order;
      clocks = f.clocks;
      places = omega arith;
      first = λ k. absurd (omega arith);
      tags_long = f.tags_long;
      ceilings_long = f.ceilings_long;
    }

-- What `!=` says of a word and one of the language.
pub word_unlike : (w v u : Word) {t : Bool} → v ≡ u → t ≡ not (pointwise eqb w v) → same w u ≡ not t
word_unlike w v u h e = sym (ap not e ∙ not_not (pointwise eqb w v) ∙ same_is w v ∙ ap (same w) h)
  where
    not_not : (b : Bool) → not (not b) ≡ b
    not_not true = refl
    not_not false = refl

-- No word behind the third.
pub none_left : (g i : ℕ) → leb i g ≡ not (ltb g i)
none_left g i = go (ltb g i) refl
  where
    go : (t : Bool) → ltb g i ≡ t → leb i g ≡ not t
    go true h = lt-leb i g (ltb-true g i h)
    go false h = le-leb i g (ltb-false g i h)

-- A part of no byte.
no_bytes : (text : List ℕ) (a b : ℕ) → ltb a b ≡ false → part text a (b - a) ≡ []
no_bytes text a b h = let e : b - a ≡ 0 = omega (arith, ltb-false a b h) in ap (λ (n : ℕ). take n (drop a text)) e

-- Four words, each found behind the one before it: the first three are tested, and the fourth is none.
module _ {text : List ℕ} {end at a b c d e f g i : ℕ} (n : NextIn text end at a b) (m : NextIn text end b c d) (o : NextIn text end d e f) (p : NextIn text end f g i) where
  abbrev first : Word
  first = part text a (b - a)

  abbrev second : Word
  second = part text c (d - c)

  abbrev third : Word
  third = part text e (f - e)

  found : words_of (part text at (end - at))
      ≡ cond (ltb a b) (first ∷ cond (ltb c d) (second ∷ cond (ltb e f) (third ∷ cond (ltb g i) (part text g (i - g) ∷ words_of (part text i (end - i))) []) []) []) []
  found =
      n.words ∙ ap (λ (z : Line). cond (ltb a b) (first ∷ z) []) (m.words ∙ ap (λ (z : Line). cond (ltb c d) (second ∷ z) []) (o.words ∙ ap (λ (z : Line). cond (ltb e f) (third ∷ z) []) p.words))

  -- Whether they are `must be left`.
  pub left_test : must_be_left (words_of (part text at (end - at))) ≡ is "must" first && (is "be" second && (is "left" third && not (ltb g i)))
  unfolding same
  left_test = ap must_be_left found ∙ go (ltb a b) (ltb c d) (ltb e f) (ltb g i) (no_bytes text a b) (no_bytes text c d) (no_bytes text e f)
    where
      go : (x y z u : Bool) → (x ≡ false → first ≡ []) → (y ≡ false → second ≡ []) → (z ≡ false → third ≡ []) →
          must_be_left (cond x (first ∷ cond y (second ∷ cond z (third ∷ cond u (part text g (i - g) ∷ words_of (part text i (end - i))) []) []) []) [])
          ≡ is "must" first && (is "be" second && (is "left" third && not u))
      go false y z u j k l = let q : is "must" first ≡ false = ap (is "must") (j refl) in rw q
      go true false z u j k l = let q : is "be" second ≡ false = ap (is "be") (k refl) in rw (q, and-false (is "must" first))
      go true true false u j k l = let q : is "left" third ≡ false = ap (is "left") (l refl) in rw (q, and-false (is "be" second), and-false (is "must" first))
      go true true true true j k l = rw (and-false (is "left" third), and-false (is "be" second), and-false (is "must" first))
      go true true true false j k l = rw (and-true (is "left" third))

-- With words behind the name the byte is 1 for `must be left`, and 2 for any others.
pub byte_is : (l : Line) {w : Word} {ws : Line} → l ≡ w ∷ ws → {t : Bool} → must_be_left l ≡ t → cond t 1 2 ≡ left_byte l
byte_is [] e m = absurd (let z : ◌≡◌ {A = ℕ} 0 1 = cc in omega arith)
byte_is (v ∷ vs) e m = ap (λ (b : Bool). cond b 1 2) (sym m)

-- The line.
module _ (d : Draft) (w : Word) where
  by_byte : (t : Bool) → (byte_answer (cond t 1 2) and_then new_place d w) ≡ must t 30 (new_place d w 1)
  by_byte true = refl
  by_byte false = refl

  with_byte : (l : Line) → (byte_answer (left_byte l) and_then new_place d w) ≡ location_line d (w ∷ l)
  unfolding location_line
  with_byte [] = refl
  with_byte (v ∷ vs) = by_byte (must_be_left (v ∷ vs)) ∙ sym (location_left d w v vs)

module _ (dr : Draft) {text : List ℕ} {end at a b : ℕ} (n : NextIn text end at a b) where
  -- `location` without a name is refused by 30.
  pub location_none : b ≤ a → refused 30 ≡ location_line dr (words_of (part text at (end - at)))
  unfolding location_line
  location_none h = rw (in_none n h)

  -- A name alone is a new location with byte 0, one with `must be left` behind it a new location with byte 1, and other words are refused by 30.
  pub location_by : a < b → (x : Answer ℕ) → x ≡ byte_answer (left_byte (words_of (part text b (end - b)))) →
      (x and_then new_place dr (part text a (b - a))) ≡ location_line dr (words_of (part text at (end - at)))
  location_by h x e =
      ap (λ (y : Answer ℕ). y and_then new_place dr (part text a (b - a))) e
      ∙ with_byte dr (part text a (b - a)) (words_of (part text b (end - b)))
      ∙ sym (ap (location_line dr) (in_word n h))
