-- The lines of a text, one after another, by what the code has of those that it has read.
use Rattle.std.specs.Prelude.{◌≡◌, refl, Option, Some, None, MatchOption, ℕ, zero, suc, ◌+◌, ◌-◌, ◌≤◌, ◌<◌, length, drop, replicate}
use Rattle.std.proofs.Math.Path.{ap}
use Rattle.std.proofs.Common.{sym, ◌∙◌, arith, length-append, drop_of_length-le}
use mathlib.Core.List.{List, [], ◌∷◌}
use Rattle.std.proofs.lemmas.List.{length-replicate, get_or-replicate}
use Rattle.streams.specs.Answer.{Answer, refused, gives}
use Rattle.policy.specs.Rules.{Rule}
use Rattle.policy.specs.File.{part}
use Rattle.wording.specs.Words.{words_of, each_words, split, lines_of}
use Rattle.wording.specs.Reader.{Draft, empty, stops, reads, proceed, read_line, read_lines}
use Rattle.words.specs.Spans.{NamesIn}
use Rattle.words.specs.Lex.{NextLine}
use Rattle.compiling.specs.RuleLine.{rule_said}
use Rattle.conditions.specs.declared.steps.Parsed.{Parsed}
use Rattle.compiling.specs.Line.{Took, StoppedBy, taken_rules, with_rule, rule_number}
use Rattle.compiling.specs.declared.line.Taken.{Taken}

-- After `passed` lines, up to `at`, with `count` rules: the lines that are left decide.
pub record Sofar (text : List ℕ) (draft : List Rule → Draft) (rules : List Rule) (count passed at : ℕ) : Type 0 where
  pub many : length rules ≡ count
  pub rest : read_lines 1 empty (lines_of text) ≡ read_lines (suc passed) (draft rules) (lines_of (drop at text))

-- Before the first line there is no rule, and the whole text is left.
pub before_lines : (text : List ℕ) (draft : List Rule → Draft) → draft [] ≡ empty → Sofar text draft [] 0 0 0
before_lines text draft e = record { many = refl; rest = ap (λ (d : Draft). read_lines 1 d (lines_of text)) (sym e) }

-- No name stands anywhere yet.
pub unnamed : (text : List ℕ) → NamesIn 76 text (replicate 76 0) (replicate 76 0)
unnamed text =
    let long = length-replicate {A = ℕ} 76 0 in
    record {
      starts_long = omega (arith, long);
      lengths_long = omega (arith, long);
      within = λ k h. rw (get_or-replicate {A = ℕ} 76 k 0 0 h) (omega arith);
    }

-- The next line begins behind the line feed, or where the text ends.
pub next_drop : (text : List ℕ) (end next : ℕ) → end ≤ length text → (end < length text → next ≡ end + 1) → (length text ≤ end → next ≡ length text) → drop (end + 1) text ≡ drop next text
next_drop text end next h a b = go (length text - end) refl
  where
    go : (n : ℕ) → length text - end ≡ n → drop (end + 1) text ≡ drop next text
    go zero e =
        let z : length text ≤ end = omega arith in
        let y : next ≡ length text = b z in
        let past : length text ≤ end + 1 = omega arith in
        let last : length text ≤ next = omega arith in
        drop_of_length-le text past ∙ sym (drop_of_length-le text last)
    go (suc n) e = let y : end < length text = omega arith in ap (λ (k : ℕ). drop k text) (sym (a y))

-- The next line begins further on than this one, so the reading comes to an end.
pub next_more : (at end length next : ℕ) → at ≤ end → at < length → end ≤ length → (end < length → next ≡ end + 1) → (length ≤ end → next ≡ length) → at < next
next_more at end length next a h e b c = go (length - end) refl
  where
    go : (n : ℕ) → length - end ≡ n → at < next
    go zero z = let y : length ≤ end = omega arith in let w : next ≡ length = c y in omega arith
    go (suc n) z = let y : end < length = omega arith in let w : next ≡ end + 1 = b y in omega arith

-- No more than 256 rules are taken.
pub few_rules : (Q : Parsed → Type 0) (rule : Option Parsed) (count : ℕ) → count ≤ 256 → MatchOption rule (Unit {0}) (λ p. Q p × (count < 256)) → count + rule_number rule ≤ 256
few_rules Q None count a c = omega arith
few_rules Q (Some p) count a c = omega (arith, c.1)

module _ {text : List ℕ} {draft : List Rule → Draft} {rules : List Rule} {count passed at : ℕ} (s : Sofar text draft rules count passed at) where
  -- At the end of the text, what the lines have said is what the text says.
  pub lines_end : length text ≤ at → read_lines 1 empty (lines_of text) ≡ reads (draft rules)
  unfolding read_lines lines_of split
  lines_end h = s.rest ∙ ap (λ (l : List ℕ). read_lines (suc passed) (draft rules) (lines_of l)) (drop_of_length-le text h)

  module _ {end : ℕ} (l : NextLine text at end) (h : at < length text) where
    here : lines_of (drop at text) ≡ words_of (part text at (end - at)) ∷ lines_of (drop (end + 1) text)
    unfolding lines_of
    here = ap each_words (l.lines h)

    onwards : (a : Answer Draft) → a ≡ read_line (draft rules) (words_of (part text at (end - at))) → read_lines 1 empty (lines_of text)
        ≡ proceed (suc passed) a (λ e. read_lines (suc (suc passed)) e (lines_of (drop (end + 1) text)))
    unfolding read_lines
    onwards a said =
        s.rest ∙ ap (read_lines (suc passed) (draft rules)) here
        ∙ ap (λ (b : Answer Draft). proceed (suc passed) b (λ e. read_lines (suc (suc passed)) e (lines_of (drop (end + 1) text)))) (sym said)

    -- A refused line stops the reading, with its refusal and its number, counted from 1.
    pub lines_stop : (n : ℕ) → StoppedBy text draft end at count n → read_lines 1 empty (lines_of text) ≡ stops n (passed + 1)
    lines_stop n k = let p : suc passed ≡ passed + 1 = omega arith in onwards (refused n) (k rules s.many) ∙ ap (stops n) p

    module _ {r : Taken} {after : List Rule → Draft} (k : Took text draft end at count r after) where
      longer : (rule : Option Parsed) (rs : List Rule) → length (with_rule rs r.table rule) ≡ length rs + rule_number rule
      longer None rs = omega arith
      longer (Some p) rs = length-append rs (rule_said r.table p ∷ [])

      -- After a line that is not refused the reading goes on at the next one, with the line's rule if it has one.
      pub sofar_on : {next : ℕ} → drop (end + 1) text ≡ drop next text → Sofar text after (taken_rules rules r) (count + rule_number r.rule) (passed + 1) next
      sofar_on {next} e =
          let p : suc passed ≡ passed + 1 = omega arith in
          record {
            many = longer r.rule rules ∙ ap (λ (n : ℕ). n + rule_number r.rule) s.many;
            rest = onwards (gives (after (taken_rules rules r))) (k.line rules s.many)
                ∙ (λ i. read_lines (suc (p i)) (after (taken_rules rules r)) (lines_of (e i)));
          }
