-- A signal's line, by what was found of it.
-- In order: the letter, the name and room as one answer; one signal more in the table, as an input or as an output; the line by its words; how many
-- letters the table has; the lines of an input and of an output by their refusals.
use Rattle.std.specs.Prelude.{◌≡◌, refl, Bool, true, false, List, [], ◌∷◌, ◌++◌, ltb, length, take, drop, set}
use Rattle.std.proofs.Math.Path.{ap}
use Rattle.std.proofs.Common.{sym, ◌∙◌, arith, length-set, length-drop, take-add, length-take-le, take-suc-set, lt-ltb, le-ltb, le-leb}
use Prim.Native.Nat.{ℕ, zero, suc, ◌+◌, ◌-◌, ◌≤◌, ◌<◌}
use Rattle.std.proofs.lemmas.List.{take-set-le, drop-set-add}
use Rattle.std.proofs.lemmas.Bool.{lt-leb}
use Rattle.streams.specs.Answer.{Answer, refused, gives}
use Rattle.policy.specs.Rules.{Rule}
use Rattle.policy.specs.File.{part}
use Rattle.wording.specs.Words.{Word, Line}
use Rattle.wording.specs.Names.{find, is_name, must, ◌and_then◌}
use Rattle.words.specs.Spans.{spans, NamesIn}
use Rattle.wording.specs.Reader.{Draft, tags, letter, with_input, with_output, signal_line, input_line, output_line}
use Rattle.words.specs.declared.words.Span.{Span}
use Rattle.words.specs.Firsts.{Shaped, count_of, first_span, second_span, first_held, second_held, word_of}
use Rattle.words.specs.declared.firsts.Few.{Few}
use Rattle.declarations.specs.Fresh.{name_refusal, name_found, refuse, refusing, signal_new, spans_other, spans_more, take_more}
use Rattle.declarations.specs.Table.{draft_of, Fit}
use Rattle.declarations.specs.declared.table.Table.{Table}

-- A refusal of the second word, if there is one.
abbrev pub wanted : ℕ → ℕ → ℕ
wanted zero r = 0
wanted (suc zero) r = 0
wanted (suc (suc n)) r = r

-- Without a second word nothing is refused.
pub wanted_none : (n r : ℕ) → n < 2 → 0 ≡ wanted n r
wanted_none zero r h = refl
wanted_none (suc zero) r h = refl
wanted_none (suc (suc n)) r h = absurd (omega arith)

-- With a second word its refusal counts.
pub wanted_some : (n r : ℕ) → 2 ≤ n → r ≡ wanted n r
wanted_some zero r h = absurd (omega arith)
wanted_some (suc zero) r h = absurd (omega arith)
wanted_some (suc (suc n)) r h = refl

-- Of more than two words the second is no name.
pub wanted_more : (text starts lengths : List ℕ) (t : Table) (few : Few) (v w : Span) → few ≡ Few.More v w → 30 ≡ wanted (count_of few) (name_found text starts lengths t (word_of text (second_span few)))
unfolding is_name
wanted_more text starts lengths t few v w e = rw e

-- The letter, then the refusal r of the name, then room.
abbrev pub signal_tag : (before : List ℕ) (count r : ℕ) → Word → Answer ℕ
signal_tag before count r w = letter before w and_then λ t. refuse r (must (ltb count 4) 33 (gives t))

module _ (before : List ℕ) (count : ℕ) (w : Word) where
  tag_by : (x : Answer ℕ) → x ≡ letter before w → (r : ℕ) → signal_tag before count r w ≡ x and_then λ t. refuse r (must (ltb count 4) 33 (gives t))
  tag_by x e r = ap (λ (a : Answer ℕ). a and_then λ t. refuse r (must (ltb count 4) 33 (gives t))) (sym e)

  -- The refusal of the letter, if it has one, comes before all else.
  pub tag_not : (q : ℕ) → refused q ≡ letter before w → (r : ℕ) → refused q ≡ signal_tag before count r w
  tag_not q e r = sym (tag_by (refused q) e r)

  module _ (c : ℕ) (e : gives c ≡ letter before w) where
    -- With a good letter, the refusal of the name is the answer.
    pub tag_named : (r : ℕ) {s : ℕ} → r ≡ s → (r ≡ 0 → ⊥) → refused r ≡ signal_tag before count s w
    tag_named r {s = s} f k = refusing r (must (ltb count 4) 33 (gives c)) k ∙ ap (λ (n : ℕ). refuse n (must (ltb count 4) 33 (gives c))) f ∙ sym (tag_by (gives c) e s)

    -- With a good letter and name, 33 is the answer where there are four of the kind already.
    pub tag_full : {s : ℕ} → 0 ≡ s → 4 ≤ count → refused 33 ≡ signal_tag before count s w
    tag_full {s = s} f h = sym (tag_by (gives c) e s ∙ rw (← f, le-ltb count 4 h))

    -- With a good letter and name, the letter is given where there are fewer than four of the kind.
    pub tag_given : {s : ℕ} → 0 ≡ s → count < 4 → gives c ≡ signal_tag before count s w
    tag_given {s = s} f h = sym (tag_by (gives c) e s ∙ rw (← f, lt-ltb count 4 h))

-- A signal more in the table.
abbrev pub more_signal : Table → (c inputs stage : ℕ) → Table
more_signal t c inputs stage =
    record {
      tags = set t.tags t.signals c;
      ceilings = t.ceilings;
      inputs = inputs;
      signals = t.signals + 1;
      clocks = t.clocks;
      places = t.places;
      stage = stage;
      source = t.source;
    }

fit_signal : {t : Table} (f : Fit t) (c inputs stage : ℕ) → inputs ≤ 4 → t.signals + 1 ≤ inputs + 4 → inputs ≤ t.signals + 1 → (stage ≤ 1 → t.signals + 1 ≡ inputs) → Fit (more_signal t c inputs stage)
fit_signal {t} f c inputs stage i o r k =
    record {
      inputs = i;
      outputs = o;
      order = r;
      clocks = f.clocks;
      places = f.places;
      first = k;
      tags_long = length-set t.tags t.signals c ∙ f.tags_long;
      ceilings_long = f.ceilings_long;
    }

module _ {text starts lengths : List ℕ} {t : Table} (f : Fit t) (p : NamesIn 76 text starts lengths) (a b c : ℕ) where
  -- The other names stay.
  module _ (left : List ℕ) (rules : List Rule) (h : t.signals < 8) where
    abbrev signalled : Line → (inputs outputs : List ℕ) → ℕ → Draft
    signalled names inputs outputs stage =
        let d = draft_of text starts lengths left t rules in
        record { inputs = inputs; outputs = outputs; names = names; clocks = d.clocks; ceilings = d.ceilings; places = d.places; left = d.left; rules = rules; stage = stage; source = d.source }

    signal_more : (inputs : ℕ) {stage : ℕ} {ins outs : List ℕ} → take inputs (set t.tags t.signals c) ≡ ins → take (t.signals + 1 - inputs) (drop inputs (set t.tags t.signals c)) ≡ outs →
        draft_of text (set starts t.signals a) (set lengths t.signals b) left (more_signal t c inputs stage) rules ≡ signalled (spans text starts lengths 0 t.signals ++ (part text a b ∷ [])) ins outs stage
    signal_more inputs {stage} ins outs =
        let d = draft_of text starts lengths left t rules in
        let names = spans_more text starts lengths 0 t.signals t.signals a b (omega arith) (omega (arith, p.starts_long)) (omega (arith, p.lengths_long)) in
        let clocks = spans_other text starts lengths t.signals a b 8 t.clocks (λ i x y z. omega arith) in
        let places = spans_other text starts lengths t.signals a b 12 t.places (λ i x y z. omega arith) in
        (λ i. record { inputs = ins i; outputs = outs i; names = names i; clocks = clocks i; ceilings = d.ceilings; places = places i; left = d.left; rules = rules; stage = stage; source = d.source })

  -- An input, before all outputs.
  module _ (h : t.inputs < 4) (s : t.stage ≤ 1) where
    -- Stored in the table and the slices, the new input comes after the others, and all else stays.
    pub input_more : (left : List ℕ) (rules : List Rule) →
        draft_of text (set starts t.signals a) (set lengths t.signals b) left (more_signal t c (t.signals + 1) 1) rules ≡ with_input (draft_of text starts lengths left t rules) c (part text a b)
    input_more left rules =
        let same = f.first s in
        let ins : take (t.signals + 1) (set t.tags t.signals c) ≡ take t.inputs t.tags ++ (c ∷ []) =
        take_more t.tags t.signals c (omega (arith, same, f.tags_long)) ∙ ap (λ (n : ℕ). take n t.tags ++ (c ∷ [])) same in
        let x : t.signals + 1 - (t.signals + 1) ≡ 0 = omega arith in
        let y : t.signals - t.inputs ≡ 0 = omega (arith, same) in
        let outs : take (t.signals + 1 - (t.signals + 1)) (drop (t.signals + 1) (set t.tags t.signals c)) ≡ take (t.signals - t.inputs) (drop t.inputs t.tags) = rw (x, y) in
        signal_more left rules (omega (arith, same)) (t.signals + 1) ins outs

    -- A table of fewer than four inputs and no output still fits with one input more.
    pub fit_input : Fit (more_signal t c (t.signals + 1) 1)
    fit_input = let same = f.first s in fit_signal f c (t.signals + 1) 1 (omega (arith, same)) (omega arith) (omega arith) (λ k. refl)

  -- An output.
  module _ (h : t.signals < t.inputs + 4) where
    -- Stored in the table and the slices, the new output comes after the others, and all else stays.
    pub output_more : (left : List ℕ) (rules : List Rule) →
        draft_of text (set starts t.signals a) (set lengths t.signals b) left (more_signal t c t.inputs 2) rules ≡ with_output (draft_of text starts lengths left t rules) c (part text a b)
    output_more left rules =
        let order = f.order in
        let few = f.inputs in
        let ins = take-set-le t.inputs t.tags t.signals c order in
        let m = t.signals - t.inputs in
        let at : t.signals ≡ t.inputs + m = omega arith in
        let size : t.signals + 1 - t.inputs ≡ suc m = omega arith in
        let outs : take (t.signals + 1 - t.inputs) (drop t.inputs (set t.tags t.signals c)) ≡ take m (drop t.inputs t.tags) ++ (c ∷ []) =
        (λ i. take (size i) (drop t.inputs (set t.tags (at i) c)))
        ∙ ap (take (suc m)) (drop-set-add t.inputs t.tags m c)
        ∙ take-suc-set (drop t.inputs t.tags) m c (omega (arith, length-drop t.inputs t.tags, f.tags_long)) in
        signal_more left rules (omega arith) t.inputs ins outs

    -- A table of fewer than four outputs still fits with one more.
    pub fit_output : Fit (more_signal t c t.inputs 2)
    fit_output =
        let order = f.order in
        let few = f.inputs in
        fit_signal f c t.inputs 2 few (omega arith) (omega arith) (λ k. absurd (omega arith))

-- The line by its words, for either kind of signal.
module _ (d : Draft) (count : ℕ) (go : ℕ → Word → Draft) where
  -- Behind `input` or `output` stand one word or two, or the line is refused by 30.
  pub signal_form : (n : ℕ) (v w : Word) (l : Line) → (1 ≤ n → n ≤ 2 → ⊥) → Shaped n v w l → refused 30 ≡ signal_line d count go l
  unfolding signal_line
  signal_form zero v w l h e = rw e
  signal_form (suc zero) v w l h e = absurd (h (omega arith) (omega arith))
  signal_form (suc (suc zero)) v w l h e = absurd (h (omega arith) (omega arith))
  signal_form (suc (suc (suc n))) v w l h e = rw e.2

  one_word : (x : Answer ℕ) (k : Bool) → (x and_then λ t. must k 33 (gives (go t []))) ≡ (x and_then λ t. must k 33 (gives t)) and_then λ t. gives (go t [])
  one_word (refused n) k = refl
  one_word (gives t) true = refl
  one_word (gives t) false = refl

  two_words : (w : Word) (x : Answer ℕ) (r : ℕ) (k : Bool) → (x and_then λ t. refuse r (must k 33 (gives (go t w)))) ≡ (x and_then λ t. refuse r (must k 33 (gives t))) and_then λ t. gives (go t w)
  two_words w (refused n) r k = refl
  two_words w (gives t) zero true = refl
  two_words w (gives t) zero false = refl
  two_words w (gives t) (suc r) k = refl

  abbrev named : Word → ℕ
  named w = name_refusal (is_name w) (find 0 w d.names) (find 0 w d.clocks)

  -- A line of one word or two: the letter decides, then the name if there is one, then whether there is room.
  pub signal-line : (n : ℕ) (v w : Word) (l : Line) → 1 ≤ n → n ≤ 2 → Shaped n v w l → signal_line d count go l ≡ signal_tag (tags d) count (wanted n (named w)) v and_then λ t. gives (go t w)
  unfolding signal_line
  signal-line zero v w l a b e = absurd (omega arith)
  signal-line (suc zero) v w l a b e = rw (e.0, e.1) (one_word (letter (tags d) v) (ltb count 4))
  signal-line (suc (suc zero)) v w l a b e =
      rw e (ap (λ (f : ℕ → Answer Draft). letter (tags d) v and_then f) (λ i t. signal_new (is_name w) (find 0 w d.names) (find 0 w d.clocks) (must (ltb count 4) 33 (gives (go t w))) i)
      ∙ two_words w (letter (tags d) v) (named w) (ltb count 4))
  signal-line (suc (suc (suc n))) v w l a b e = absurd (omega arith)

-- Of what the code has.
module _ {t : Table} (f : Fit t) where
  -- The table has one letter for each input.
  pub inputs_long : length (take t.inputs t.tags) ≡ t.inputs
  inputs_long = length-take-le t.inputs t.tags (omega (arith, f.tags_long, f.inputs))

  -- The table has one letter for each output.
  pub outputs_long : length (take (t.signals - t.inputs) (drop t.inputs t.tags)) ≡ t.signals - t.inputs
  outputs_long = length-take-le (t.signals - t.inputs) (drop t.inputs t.tags) (omega (arith, length-drop t.inputs t.tags, f.tags_long, f.inputs, f.outputs, f.order))

module _ (text starts lengths left : List ℕ) {t : Table} (f : Fit t) (rules : List Rule) where
  -- The letters of all signals, the inputs first, are the first ones in the table.
  pub tags_whole : tags (draft_of text starts lengths left t rules) ≡ take t.signals t.tags
  tags_whole =
      let order = f.order in
      let e : t.signals ≡ t.inputs + (t.signals - t.inputs) = omega arith in
      sym (ap (λ (n : ℕ). take n t.tags) e ∙ take-add t.inputs (t.signals - t.inputs) t.tags)

  module _ (n : ℕ) (v w : Word) (l : Line) (s : Shaped n v w l) where
    abbrev d : Draft
    d = draft_of text starts lengths left t rules

    -- An input after an output, a clock, a location or an `at` is refused by 30.
    pub input_late : 1 < t.stage → refused 30 ≡ input_line d l
    unfolding input_line
    input_late h = rw (lt-leb t.stage 1 h)

    -- An output after a clock, a location or an `at` is refused by 30.
    pub output_late : 2 < t.stage → refused 30 ≡ output_line d l
    unfolding output_line
    output_late h = rw (lt-leb t.stage 2 h)

    -- `input` with no word or more than two behind it is refused by 30.
    pub input_form : t.stage ≤ 1 → (1 ≤ n → n ≤ 2 → ⊥) → refused 30 ≡ input_line d l
    unfolding input_line
    input_form h k = rw (le-leb t.stage 1 h) (signal_form d (length d.inputs) (with_input d) n v w l k s)

    -- `output` with no word or more than two behind it is refused by 30.
    pub output_form : t.stage ≤ 2 → (1 ≤ n → n ≤ 2 → ⊥) → refused 30 ≡ output_line d l
    unfolding output_line
    output_form h k = rw (le-leb t.stage 2 h) (signal_form d (length d.outputs) (with_output d) n v w l k s)

    -- The letter's answer carried on.
    module _ (a : 1 ≤ n) (b : n ≤ 2) (x : Answer ℕ) where
      -- The refusal of an input's letter, of its name or for want of room is that of the line, and an input that nothing refuses is added.
      pub input_is : t.stage ≤ 1 → x ≡ signal_tag (take t.signals t.tags) t.inputs (wanted n (name_found text starts lengths t w)) v →
          (x and_then λ u. gives (with_input d u w)) ≡ input_line d l
      unfolding input_line
      input_is h e =
          sym (rw (le-leb t.stage 1 h) (signal-line d (length d.inputs) (with_input d) n v w l a b s
          ∙ (λ i. signal_tag (tags_whole i) (inputs_long f i) (wanted n (name_found text starts lengths t w)) v and_then λ u. gives (with_input d u w))
          ∙ ap (λ (z : Answer ℕ). z and_then λ u. gives (with_input d u w)) (sym e)))

      -- The same of an output.
      pub output_is : t.stage ≤ 2 → x ≡ signal_tag (take t.signals t.tags) (t.signals - t.inputs) (wanted n (name_found text starts lengths t w)) v →
          (x and_then λ u. gives (with_output d u w)) ≡ output_line d l
      unfolding output_line
      output_is h e =
          sym (rw (le-leb t.stage 2 h) (signal-line d (length d.outputs) (with_output d) n v w l a b s
          ∙ (λ i. signal_tag (tags_whole i) (outputs_long f i) (wanted n (name_found text starts lengths t w)) v and_then λ u. gives (with_output d u w))
          ∙ ap (λ (z : Answer ℕ). z and_then λ u. gives (with_output d u w)) (sym e)))

  -- A line by the words that were found: with none or more than two of them it is refused by 30, as its letter is.
  pub input_few : (few : Few) (l : Line) → Shaped (count_of few) (word_of text (first_held few)) (word_of text (second_held few)) l → (x : Answer ℕ) → t.stage ≤ 1 →
      x ≡ signal_tag (take t.signals t.tags) t.inputs (wanted (count_of few) (name_found text starts lengths t (word_of text (second_span few)))) (word_of text (first_span few)) →
      (x and_then λ u. gives (with_input (draft_of text starts lengths left t rules) u (word_of text (second_span few)))) ≡ input_line (draft_of text starts lengths left t rules) l
  input_few Few.None l s x h e = ap (λ (a : Answer ℕ). a and_then λ u. gives (with_input (draft_of text starts lengths left t rules) u [])) e ∙ input_form 0 [] [] l s h (λ a b. omega arith)
  input_few (Few.One v) l s x h e = input_is 1 (word_of text v) [] l s (omega arith) (omega arith) x h e
  input_few (Few.Two v w) l s x h e = input_is 2 (word_of text v) (word_of text w) l s (omega arith) (omega arith) x h e
  input_few (Few.More v w) l s x h e = ap (λ (a : Answer ℕ). a and_then λ u. gives (with_input (draft_of text starts lengths left t rules) u [])) e ∙ input_form 3 (word_of text v) (word_of text w) l s h (λ a b. omega arith)

  -- The same of an output.
  pub output_few : (few : Few) (l : Line) → Shaped (count_of few) (word_of text (first_held few)) (word_of text (second_held few)) l → (x : Answer ℕ) → t.stage ≤ 2 →
      x ≡ signal_tag (take t.signals t.tags) (t.signals - t.inputs) (wanted (count_of few) (name_found text starts lengths t (word_of text (second_span few)))) (word_of text (first_span few)) →
      (x and_then λ u. gives (with_output (draft_of text starts lengths left t rules) u (word_of text (second_span few)))) ≡ output_line (draft_of text starts lengths left t rules) l
  output_few Few.None l s x h e = ap (λ (a : Answer ℕ). a and_then λ u. gives (with_output (draft_of text starts lengths left t rules) u [])) e ∙ output_form 0 [] [] l s h (λ a b. omega arith)
  output_few (Few.One v) l s x h e = output_is 1 (word_of text v) [] l s (omega arith) (omega arith) x h e
  output_few (Few.Two v w) l s x h e = output_is 2 (word_of text v) (word_of text w) l s (omega arith) (omega arith) x h e
  output_few (Few.More v w) l s x h e = ap (λ (a : Answer ℕ). a and_then λ u. gives (with_output (draft_of text starts lengths left t rules) u [])) e ∙ output_form 3 (word_of text v) (word_of text w) l s h (λ a b. omega arith)
