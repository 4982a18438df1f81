-- What the writer wrote is read as the policy that it was written from.
-- In order: every written word is whole; a policy back from its text; a file back from its text; what a text gives passes the check.
use Rattle.std.specs.Prelude.{◌≡◌, Bool, true, false, not, cond, ℕ, zero, suc, ◌/◌, ◌<◌, ltb, eqb, length, get_or}
use Rattle.std.proofs.Math.Path.{refl, ap}
use Rattle.std.proofs.Common.{sym, ◌∙◌, arith}
use Rattle.std.proofs.Math.Bool.{and-eq-true_iff}
use mathlib.Core.List.{List, [], ◌∷◌, ◌++◌}
use Rattle.std.proofs.Math.Option.{Option, none, some}
use Rattle.policy.specs.Rules.{Bound, Rule, Policy}
use Rattle.policy.specs.File.{policy_of}
use Rattle.policy.specs.Bytes.{counts_bytes, bytes_of}
use Rattle.policy.specs.Check.{is_capital, among, tags_good, refusal_of}
use Rattle.policy.specs.Sound.{WellFormed}
use Rattle.policy.specs.Checked.{checked_file}
use Rattle.policy.specs.WrittenPasses.{written_passes}
use Rattle.policy.specs.FileBack.{file_written}
use Rattle.texts.specs.Text.{ascii}
use Rattle.wording.specs.Words.{Word, Line, parts, is_sign, kind, lines_of}
use Rattle.wording.specs.Laid.{all_of, whole, AllWhole, whole_none, whole_more, whole_both, EachWhole, lines_none, lines_more, lines_both, laid_read}
use Rattle.wording.specs.NamesBack.{decimal_whole, name_whole, letter_whole, off_whole}
use Rattle.wording.specs.Reader.{Draft, empty, FromText, stops, reads, said_by, passed, filed, read_lines, policy_from, policy_from_text, file_from_text}
use Rattle.wording.specs.Writer.{clock_name, place_name, signal_lines, clock_lines, left_words, location_lines, when, odd, signal_word, signal_words, low_words, high_words, bound_words}
use Rattle.wording.specs.Writer.{or_any, target_word, reset_names, after_reset, is_at, at_lines, condition_words, rule_words, rule_lines, policy_lines, margin, text_of, text_of_file}
use Rattle.wording.specs.LinesBack.{lines_read, policy_said, numbers_aside}

-- Every written word is whole.
tags_whole : (word : Word) → whole word ≡ true → (before ts : List ℕ) → tags_good before ts ≡ true → EachWhole (signal_lines word ts)
unfolding signal_lines tags_good
tags_whole word one before [] h = lines_none
tags_whole word one before (t ∷ ts) h =
    let first = (and-eq-true_iff (is_capital t) _).0 h in
    let second = (and-eq-true_iff (not (among t before)) _).0 first.1 in
    lines_more (whole_more one (whole_more (letter_whole t first.0) whole_none)) (tags_whole word one (before ++ (t ∷ [])) ts second.1)

clock_whole : (k : ℕ) → whole (clock_name k) ≡ true
unfolding kind parts is_sign
clock_whole k = name_whole 116 k refl

place_whole : (k : ℕ) → whole (place_name k) ≡ true
unfolding kind parts is_sign
place_whole k = name_whole 113 k refl

when_whole : (t : Bool) {ws : Line} → AllWhole ws → AllWhole (when t ws)
when_whole true h = h
when_whole false h = whole_none

signals_whole : (before ts : List ℕ) (c v : ℕ) → tags_good before ts ≡ true → AllWhole (signal_words ts c v)
unfolding signal_words tags_good
signals_whole before [] c v h = whole_none
signals_whole before (t ∷ ts) c v h =
    let first = (and-eq-true_iff (is_capital t) _).0 h in
    let second = (and-eq-true_iff (not (among t before)) _).0 first.1 in
    whole_both (when_whole (odd c) (whole_more (one (odd v) first.0) whole_none)) (signals_whole (before ++ (t ∷ [])) ts (c / 2) (v / 2) second.1)
  where
    one : (b : Bool) → is_capital t ≡ true → whole (signal_word t b) ≡ true
    one true = letter_whole t
    one false = off_whole t

module _ where
  low_whole : (k n : ℕ) → AllWhole (low_words k n)
  unfolding whole all_of kind parts is_sign
  low_whole k n = whole_more (clock_whole k) (whole_more refl (whole_more (decimal_whole n) whole_none))

  high_whole : (k n : ℕ) → AllWhole (high_words k n)
  unfolding whole all_of kind parts is_sign
  high_whole k n = whole_more (clock_whole k) (whole_more refl (whole_more (decimal_whole n) whole_none))

bounds_whole : (k : ℕ) (bs : List Bound) → AllWhole (bound_words k bs)
unfolding bound_words
bounds_whole k [] = whole_none
bounds_whole k (b ∷ bs) =
    whole_both (when_whole (ltb 0 b.low) (low_whole k b.low))
    (whole_both (when_whole (ltb b.high 65535) (high_whole k b.high)) (bounds_whole (suc k) bs))

any_whole : (ws : Line) → AllWhole ws → AllWhole (or_any ws)
unfolding whole all_of kind parts is_sign
any_whole [] h = whole_more refl whole_none
any_whole (w ∷ ws) h = h

target_whole : (t : ℕ) → whole (target_word t) ≡ true
unfolding target_word whole all_of kind parts is_sign
target_whole t = go (eqb t 255)
  where
    go : (b : Bool) → whole (cond b (ascii "violation") (place_name t)) ≡ true
    go true = refl
    go false = place_whole t

resets_whole : (k n m : ℕ) → AllWhole (reset_names k n m)
unfolding reset_names
resets_whole k zero m = whole_none
resets_whole k (suc n) m = whole_both (when_whole (odd m) (whole_more (clock_whole k) whole_none)) (resets_whole (suc k) n (m / 2))

after_whole : (ws : Line) → AllWhole ws → AllWhole (after_reset ws)
unfolding whole all_of kind parts is_sign
after_whole [] h = whole_none
after_whole (w ∷ ws) h = whole_more refl h

clocks_whole : (k : ℕ) (cs : List ℕ) → EachWhole (clock_lines k cs)
unfolding clock_lines whole all_of kind parts is_sign
clocks_whole k [] = lines_none
clocks_whole k (c ∷ cs) =
    lines_more (whole_more refl (whole_more (clock_whole k) (whole_more (decimal_whole c) whole_none))) (clocks_whole (suc k) cs)

left_whole : (b : Bool) → AllWhole (left_words b)
unfolding whole all_of kind parts is_sign
left_whole true = whole_more refl (whole_more refl (whole_more refl whole_none))
left_whole false = whole_none

places_whole : (k : ℕ) (bs : List ℕ) → EachWhole (location_lines k bs)
unfolding location_lines whole all_of kind parts is_sign
places_whole k [] = lines_none
places_whole k (b ∷ bs) = lines_more (whole_more refl (whole_more (place_whole k) (left_whole (eqb b 1)))) (places_whole (suc k) bs)

at_whole : (t : Bool) (s : ℕ) → EachWhole (at_lines t s)
unfolding whole all_of kind parts is_sign
at_whole true s = lines_none
at_whole false s = lines_more whole_none (lines_more (whole_more refl (whole_more (place_whole s) whole_none)) lines_none)

module _ (p : Policy) (w : WellFormed p) where
  rule_whole : (r : Rule) → AllWhole (rule_words p r)
  unfolding rule_words condition_words whole all_of kind parts is_sign
  rule_whole r =
      whole_both
      (any_whole (condition_words p r)
      (whole_both (signals_whole [] p.inputs r.in_care r.in_value w.input_tags)
      (whole_both (signals_whole p.inputs p.outputs r.out_care r.out_value w.output_tags) (bounds_whole 0 r.bounds))))
      (whole_more refl (whole_more (target_whole r.target)
      (after_whole (reset_names 0 (length p.ceilings) r.reset) (resets_whole 0 (length p.ceilings) r.reset))))

  rules_whole : (before : Option ℕ) (rs : List Rule) → EachWhole (rule_lines p before rs)
  unfolding rule_lines
  rules_whole before [] = lines_none
  rules_whole before (r ∷ rs) =
      lines_both (at_whole (is_at before r.source) r.source) (lines_more (rule_whole r) (rules_whole (some r.source) rs))

  lines_whole : EachWhole (policy_lines p)
  unfolding policy_lines whole all_of kind parts is_sign
  lines_whole =
      lines_both (tags_whole (ascii "input") refl [] p.inputs w.input_tags)
      (lines_both (tags_whole (ascii "output") refl p.inputs p.outputs w.output_tags)
      (lines_both (clocks_whole 0 p.ceilings) (lines_both (places_whole 0 p.left) (rules_whole none p.rules))))

  -- "reading what the writer wrote gives the same"
  pub text_back : policy_from_text p.reading (text_of p) ≡ reads p
  unfolding policy_from_text text_of
  text_back =
      let read = lines_read p w in
      let said = numbers_aside 1 empty _ (policy_lines p) read.2 in
      ap (λ (ls : List Line). said_by p.reading (read_lines 1 empty ls)) (laid_read margin (policy_lines p) lines_whole)
      ∙ ap (said_by p.reading) said ∙ ap reads (policy_said p w read.0 read.1)

-- No text says a reading: the file is the same under any.
pub any_reading : (reading : ℕ) (text : List ℕ) → filed (policy_from_text reading text) ≡ file_from_text text
unfolding file_from_text policy_from_text policy_from bytes_of counts_bytes
any_reading reading text = go (read_lines 1 empty (lines_of text))
  where
    go : (r : FromText Draft) → filed (said_by reading r) ≡ filed (said_by 1 r)
    go (stops n line) = refl
    go (reads d) = refl

-- Read as a file, the text of a policy gives the bytes of that policy.
pub file_back : (p : Policy) → WellFormed p → file_from_text (text_of p) ≡ reads (bytes_of p)
file_back p w =
    sym (any_reading p.reading (text_of p)) ∙ ap filed (text_back p w) ∙ ap (λ (n : ℕ). passed n (bytes_of p)) (written_passes p w)

-- Every file of bytes that passes the check comes back from its text as it was.
pub any_file_back : (f : List ℕ) → ((i : ℕ) → get_or f i 0 < 256) → refusal_of f ≡ 0 → file_from_text (text_of_file f) ≡ reads f
any_file_back f bytes passes = file_back (policy_of 1 f) (checked_file 1 f passes) ∙ ap reads (file_written f bytes passes 1)

-- What a text that is read gives has passed the check.
pub text_passes : (text f : List ℕ) → file_from_text text ≡ reads f → refusal_of f ≡ 0
unfolding file_from_text
text_passes text f h = go (policy_from_text 1 text) h
  where
    file : (n : ℕ) (g : List ℕ) → refusal_of g ≡ n → passed n g ≡ reads f → refusal_of f ≡ 0
    file zero g e k = let same : g ≡ f = cc in ap refusal_of (sym same) ∙ e
    file (suc n) g e k = absurd (let z : ◌≡◌ {A = ℕ} 0 1 = cc in omega arith)

    go : (r : FromText Policy) → filed r ≡ reads f → refusal_of f ≡ 0
    go (stops n line) k = absurd (let z : ◌≡◌ {A = ℕ} 0 1 = cc in omega arith)
    go (reads p) k = file (refusal_of (bytes_of p)) (bytes_of p) refl k
