-- A line, by its first word.
use Rattle.std.specs.Prelude.{◌≡◌, refl, Option, Some, None, MatchOption, cond, List, [], ◌∷◌, ◌++◌, ℕ, zero, suc, ◌-◌, ◌≤◌, ◌<◌, length, get_or}
use Rattle.std.proofs.Common.{ap, ◌∙◌, arith, ne_eqb}
use Rattle.std.proofs.Math.Path.{sym}
use Rattle.std.proofs.Math.Dec.{eqb}
use Rattle.streams.specs.Answer.{Answer, refused, gives}
use Rattle.refusals.specs.Refused.{number_of}
use Rattle.refusals.specs.declared.Refusal.{Refusal}
use Rattle.policy.specs.Rules.{Rule}
use Rattle.policy.specs.File.{part}
use Rattle.wording.specs.Words.{Word, Line, words_of}
use Rattle.wording.specs.Names.{same, find}
use Rattle.wording.specs.Reader.{Draft, input_line, output_line, clock_line, location_line, at_line, rule_line, read_line}
use Rattle.words.specs.Spans.{place_below}
use Rattle.words.specs.Keywords.{keywords, keyword_is}
use Rattle.words.specs.Firsts.{NextIn, in_none, in_word}
use Rattle.conditions.specs.Steps.{Masked}
use Rattle.conditions.specs.declared.steps.Parsed.{Parsed}
use Rattle.declarations.specs.Table.{Fit}
use Rattle.declarations.specs.declared.table.Table.{Table}
use Rattle.compiling.specs.RuleLine.{rule_said}
use Rattle.compiling.specs.declared.line.Taken.{Taken}

-- The words behind the word of the language k, one of the first five.
abbrev pub behind : ℕ → Draft → Line → Answer Draft
behind zero d l = input_line d l
behind (suc zero) d l = output_line d l
behind (suc (suc zero)) d l = clock_line d l
behind (suc (suc (suc zero))) d l = location_line d l
behind (suc (suc (suc (suc k)))) d l = at_line d l

-- A number below 5 that is none of the first four is 4.
pub fifth : (k : ℕ) → k < 5 → (k ≡ 0 → ⊥) → (k ≡ 1 → ⊥) → (k ≡ 2 → ⊥) → (k ≡ 3 → ⊥) → k ≡ 4
fifth zero h a b c d = absurd (a refl)
fifth (suc zero) h a b c d = absurd (b refl)
fifth (suc (suc zero)) h a b c d = absurd (c refl)
fifth (suc (suc (suc zero))) h a b c d = absurd (d refl)
fifth (suc (suc (suc (suc zero)))) h a b c d = refl
fifth (suc (suc (suc (suc (suc k))))) h a b c d = absurd (omega arith)

module _ (d : Draft) (w : Word) (ws : Line) (r : ℕ) (e : find 0 w keywords ≡ place_below 14 r) where
  by_word : read_line d (w ∷ ws) ≡ cond (eqb r 0) (input_line d ws) (cond (eqb r 1) (output_line d ws) (cond (eqb r 2) (clock_line d ws) (cond (eqb r 3) (location_line d ws) (cond (eqb r 4) (at_line d ws) (rule_line d (w ∷ ws) d.source)))))
  unfolding read_line
  by_word =
      let k : (n : ℕ) → n < 14 → same w (get_or keywords n []) ≡ eqb r n = keyword_is w r e in
      rw (k 0 (omega arith), k 1 (omega arith), k 2 (omega arith), k 3 (omega arith), k 4 (omega arith))

  -- A line that begins with `input`, `output`, `clock`, `location` or `at` says what the words behind it say.
  pub line_declares : r < 5 → read_line d (w ∷ ws) ≡ behind r d ws
  line_declares h = by_word ∙ go r h
    where
      go : (k : ℕ) → k < 5 → cond (eqb k 0) (input_line d ws) (cond (eqb k 1) (output_line d ws) (cond (eqb k 2) (clock_line d ws) (cond (eqb k 3) (location_line d ws) (cond (eqb k 4) (at_line d ws) (rule_line d (w ∷ ws) d.source))))) ≡ behind k d ws
      go zero l = refl
      go (suc zero) l = refl
      go (suc (suc zero)) l = refl
      go (suc (suc (suc zero))) l = refl
      go (suc (suc (suc (suc zero)))) l = refl
      go (suc (suc (suc (suc (suc k))))) l = absurd (omega arith)

  -- A line that begins with any other word is read as a rule.
  pub line_rules : 5 ≤ r → read_line d (w ∷ ws) ≡ rule_line d (w ∷ ws) d.source
  line_rules h =
      by_word ∙ rw (ne_eqb r 0 (λ z. omega arith), ne_eqb r 1 (λ z. omega arith), ne_eqb r 2 (λ z. omega arith), ne_eqb r 3 (λ z. omega arith), ne_eqb r 4 (λ z. omega arith))

-- The rules with one more, where the line has one.
abbrev pub with_rule : List Rule → Table → Option Parsed → List Rule
with_rule rules t None = rules
with_rule rules t (Some p) = rules ++ (rule_said t p ∷ [])

-- The rules after a line: those before it, and the line's own if it has one.
abbrev pub taken_rules : List Rule → Taken → List Rule
taken_rules rules r = with_rule rules r.table r.rule

-- How many rules a line has.
abbrev pub rule_number : Option Parsed → ℕ
rule_number None = 0
rule_number (Some p) = 1

-- What a line from `at` to `end` says after `count` rules: what the lines before it have said with their rules, and what they have said with this one.
pub record Took (text : List ℕ) (before : List Rule → Draft) (end at count : ℕ) (r : Taken) (after : List Rule → Draft) : Type 0 where
  pub line : (rules : List Rule) → length rules ≡ count → gives (after (taken_rules rules r)) ≡ read_line (before rules) (words_of (part text at (end - at)))
  pub fit : Fit r.table
  pub rule : MatchOption r.rule (Unit {0}) (λ p. Masked p × (r.table.source < 64) × (count < 256))

-- By which number it is refused.
abbrev pub StoppedBy : (text : List ℕ) → (List Rule → Draft) → (end at count n : ℕ) → Type 0
StoppedBy text before end at count n = (rules : List Rule) → length rules ≡ count → refused n ≡ read_line (before rules) (words_of (part text at (end - at)))

-- Why it is refused.
abbrev pub Stopped : (text : List ℕ) → (List Rule → Draft) → (end at count : ℕ) → Refusal → Type 0
Stopped text before end at count e = StoppedBy text before end at count (number_of e)

-- By the first word.
module _ {text : List ℕ} {end at a b : ℕ} (n : NextIn text end at a b) (d : Draft) where
  -- A line without a word changes nothing.
  pub line_blank : b ≤ a → gives d ≡ read_line d (words_of (part text at (end - at)))
  unfolding read_line
  line_blank h = sym (ap (read_line d) (in_none n h))

  module _ (h : a < b) (r : ℕ) (e : find 0 (part text a (b - a)) keywords ≡ place_below 14 r) where
    -- A line found to begin with one of the first five words is read from the end of that word on.
    pub line_behind : r < 5 → behind r d (words_of (part text b (end - b))) ≡ read_line d (words_of (part text at (end - at)))
    line_behind l = sym (ap (read_line d) (in_word n h) ∙ line_declares d (part text a (b - a)) (words_of (part text b (end - b))) r e l)

    -- A line found to begin with any other word is read whole, as a rule.
    pub line_ruled : 5 ≤ r → rule_line d (words_of (part text at (end - at))) d.source ≡ read_line d (words_of (part text at (end - at)))
    line_ruled l =
        let w = in_word n h in
        ap (λ (z : Line). rule_line d z d.source) w ∙ sym (line_rules d (part text a (b - a)) (words_of (part text b (end - b))) r e l) ∙ sym (ap (read_line d) w)
