-- The line of a rule: what the entry answers, and the rule lines counted.
use Rattle.std.specs.Prelude.{◌≡◌, refl, Bool, true, false, not, ◌||◌, ℕ, zero, suc, ◌+◌, ◌-◌, ◌≤◌, ◌<◌, ltb, length, get_or, drop}
use Rattle.std.proofs.Math.Path.{ap, sym}
use Rattle.std.proofs.Common.{◌∙◌, arith, drop_of_length-le, lt-ltb, le-ltb, ne_eqb}
use Rattle.std.proofs.Math.Bool.{cond}
use mathlib.Core.List.{List, [], ◌∷◌}
use Rattle.std.proofs.Math.Dec.{eqb}
use Rattle.policy.specs.File.{part}
use Rattle.wording.specs.Words.{Line, words_of, each_words, split, lines_of}
use Rattle.wording.specs.Names.{same, find}
use Rattle.wording.specs.RuleLines.{is_rule, rules_among, rule_numbers}
use Rattle.wording.specs.Reader.{FromText, stops, reads, file_from_text}
use Rattle.words.specs.Spans.{place_below}
use Rattle.words.specs.Keywords.{keywords, keyword_is}
use Rattle.words.specs.Firsts.{NextIn, in_none, in_word}
use Rattle.words.specs.Lex.{NextLine}

-- A refusal and its line, 0 for the file's own and for 35; or 0 and the line of the rule.
pub record RuleAt : Type 0 where
  pub refusal : ℕ
  pub line : ℕ

-- The line of the rule i of a text that is read. 35: it has no such rule.
abbrev pub line_of_rule : List ℕ → ℕ → FromText (List ℕ) → FromText ℕ
line_of_rule text i (stops n line) = stops n line
line_of_rule text i (reads f) = cond (ltb i (length (rule_numbers text))) (reads (get_or (rule_numbers text) i 0)) (stops 35 0)

-- The answer: a refusal with its line, or the line of the rule.
abbrev pub rule_found : FromText ℕ → RuleAt
rule_found (stops n line) = record { refusal = n; line = line }
rule_found (reads line) = record { refusal = 0; line = line }

-- What `line_of_rule` promises.
abbrev pub RuleAtPromise : List ℕ → ℕ → RuleAt → Type 0
RuleAtPromise text i r = r ≡ rule_found (line_of_rule text i (file_from_text text))

-- One answer alone keeps this promise.
pub rule_at_one : (text : List ℕ) (i : ℕ) (r s : RuleAt) → RuleAtPromise text i r → RuleAtPromise text i s → r ≡ s
rule_at_one text i r s a b = a ∙ sym b

-- 1 for a line of a rule.
abbrev pub rule_bit : Line → ℕ
rule_bit l = cond (is_rule l) 1 0

module _ {text : List ℕ} {end at a b : ℕ} (n : NextIn text end at a b) where
  -- A line without a word is not a rule's.
  pub bit_blank : b ≤ a → 0 ≡ rule_bit (words_of (part text at (end - at)))
  unfolding is_rule
  bit_blank h = sym (ap rule_bit (in_none n h))

  module _ (h : a < b) (r : ℕ) (e : find 0 (part text a (b - a)) keywords ≡ place_below 14 r) where
    by_word : is_rule (words_of (part text at (end - at))) ≡ not (eqb r 0 || (eqb r 1 || (eqb r 2 || (eqb r 3 || eqb r 4))))
    unfolding is_rule
    by_word =
        let w = part text a (b - a) in
        let k : (n : ℕ) → n < 14 → same w (get_or keywords n []) ≡ eqb r n = keyword_is w r e in
        ap is_rule (in_word n h) ∙ rw (k 0 (omega arith), k 1 (omega arith), k 2 (omega arith), k 3 (omega arith), k 4 (omega arith))

    -- A line that begins with `input`, `output`, `clock`, `location` or `at` is not a rule's.
    pub bit_declared : r < 5 → 0 ≡ rule_bit (words_of (part text at (end - at)))
    bit_declared l = sym (ap (λ (t : Bool). cond t 1 0) (by_word ∙ go r l))
      where
        go : (k : ℕ) → k < 5 → not (eqb k 0 || (eqb k 1 || (eqb k 2 || (eqb k 3 || eqb k 4)))) ≡ false
        go zero u = refl
        go (suc zero) u = refl
        go (suc (suc zero)) u = refl
        go (suc (suc (suc zero))) u = refl
        go (suc (suc (suc (suc zero)))) u = refl
        go (suc (suc (suc (suc (suc k))))) u = absurd (omega arith)

    -- A line that begins with any other word is a rule's.
    pub bit_rule : 5 ≤ r → 1 ≡ rule_bit (words_of (part text at (end - at)))
    bit_rule l =
        let yes : not (eqb r 0 || (eqb r 1 || (eqb r 2 || (eqb r 3 || eqb r 4)))) ≡ true = rw (ne_eqb r 0 (λ z. omega arith), ne_eqb r 1 (λ z. omega arith), ne_eqb r 2 (λ z. omega arith), ne_eqb r 3 (λ z. omega arith), ne_eqb r 4 (λ z. omega arith)) in
        sym (ap (λ (t : Bool). cond t 1 0) (by_word ∙ yes))

-- The rule lines from `at` on, after `passed` lines.
module _ (text : List ℕ) where
  -- The numbers of the rule lines from `at` on, where `passed` lines stand before.
  unfoldable pub rules_left : ℕ → ℕ → List ℕ
  rules_left passed at = rules_among (suc passed) (lines_of (drop at text))

  -- At the end of the text no rule line is left.
  pub left_none : (passed at : ℕ) → length text ≤ at → rules_left passed at ≡ []
  unfolding rules_left rules_among lines_of split
  left_none passed at h = ap (λ (l : List ℕ). rules_among (suc passed) (lines_of l)) (drop_of_length-le text h)

  module _ (passed : ℕ) {at end : ℕ} (next : ℕ) (l : NextLine text at end) (h : at < length text) (e : drop (end + 1) text ≡ drop next text) where
    left_step : rules_left passed at ≡ cond (is_rule (words_of (part text at (end - at)))) (suc passed ∷ rules_left (suc passed) next) (rules_left (suc passed) next)
    unfolding rules_left rules_among lines_of
    left_step = ap (λ (ls : List (List ℕ)). rules_among (suc passed) (each_words ls)) (l.lines h) ∙ ap (λ (z : List ℕ). cond (is_rule (words_of (part text at (end - at)))) (suc passed ∷ rules_among (suc (suc passed)) (lines_of z)) (rules_among (suc (suc passed)) (lines_of z))) e

    -- The rule that is asked for is the one of this line.
    pub left_here : {bit left : ℕ} → bit ≡ rule_bit (words_of (part text at (end - at))) → left < bit → get_or (rules_left passed at) left 0 ≡ passed + 1
    left_here {bit} {left} b k = rw left_step (go (is_rule (words_of (part text at (end - at)))) left (b) k)
      where
        go : (t : Bool) (m : ℕ) → bit ≡ cond t 1 0 → m < bit → get_or (cond t (suc passed ∷ rules_left (suc passed) next) (rules_left (suc passed) next)) m 0 ≡ passed + 1
        go true zero c u = omega arith
        go true (suc m) c u = absurd (omega arith)
        go false m c u = absurd (omega arith)

    -- Another line: the rule is in those that follow, with one less to pass if this line is a rule's.
    pub left_on : {bit left : ℕ} → bit ≡ rule_bit (words_of (part text at (end - at))) → bit ≤ left → get_or (rules_left passed at) left 0 ≡ get_or (rules_left (passed + 1) next) (left - bit) 0
    left_on {bit} {left} b k =
        let s : suc passed ≡ passed + 1 = omega arith in
        rw (left_step, s) (go (is_rule (words_of (part text at (end - at)))) left b k)
      where
        go : (t : Bool) (m : ℕ) → bit ≡ cond t 1 0 → bit ≤ m → get_or (cond t ((passed + 1) ∷ rules_left (passed + 1) next) (rules_left (passed + 1) next)) m 0 ≡ get_or (rules_left (passed + 1) next) (m - bit) 0
        go true zero c u = absurd (omega arith)
        go true (suc m) c u = let y : m ≡ suc m - bit = omega arith in ap (λ (n : ℕ). get_or (rules_left (passed + 1) next) n 0) y
        go false m c u = let y : m ≡ m - bit = omega arith in ap (λ (n : ℕ). get_or (rules_left (passed + 1) next) n 0) y

-- Lines are counted from 1, so 0 is none.
positive : (line : ℕ) (ls : List Line) (i : ℕ) → 0 < line → (i < length (rules_among line ls) → 0 < get_or (rules_among line ls) i 0) × (length (rules_among line ls) ≤ i → get_or (rules_among line ls) i 0 ≡ 0)
unfolding rules_among
positive line [] i h = (λ k. absurd (omega arith), λ k. refl)
positive line (l ∷ ls) i h = go (is_rule l) i (λ m. positive (suc line) ls m (omega arith))
  where
    go : (t : Bool) (m : ℕ) →
        ((m : ℕ) → (m < length (rules_among (suc line) ls) → 0 < get_or (rules_among (suc line) ls) m 0) × (length (rules_among (suc line) ls) ≤ m → get_or (rules_among (suc line) ls) m 0 ≡ 0)) →
        (m < length (cond t (line ∷ rules_among (suc line) ls) (rules_among (suc line) ls)) → 0 < get_or (cond t (line ∷ rules_among (suc line) ls) (rules_among (suc line) ls)) m 0)
        × (length (cond t (line ∷ rules_among (suc line) ls) (rules_among (suc line) ls)) ≤ m → get_or (cond t (line ∷ rules_among (suc line) ls) (rules_among (suc line) ls)) m 0 ≡ 0)
    go true zero rest = (λ k. h, λ k. absurd (omega arith))
    go true (suc m) rest = (λ k. (rest m).0 (omega arith), λ k. (rest m).1 (omega arith))
    go false m rest = rest m

-- The answers.
module _ (text : List ℕ) (i : ℕ) where
  -- For a text that is refused, the answer has its refusal and its line.
  pub rule_stops : {n line : ℕ} → file_from_text text ≡ stops n line → RuleAtPromise text i (record { refusal = n; line = line })
  rule_stops e = sym (ap (λ (x : FromText (List ℕ)). rule_found (line_of_rule text i x)) e)

  module _ {f : List ℕ} (e : file_from_text text ≡ reads f) {line : ℕ} (k : line ≡ get_or (rule_numbers text) i 0) where
    found : (t : Bool) → ltb i (length (rule_numbers text)) ≡ t → rule_found (line_of_rule text i (file_from_text text)) ≡ rule_found (cond t (reads (get_or (rule_numbers text) i 0)) (stops 35 0))
    found t h = ap (λ (x : FromText (List ℕ)). rule_found (line_of_rule text i x)) e ∙ ap (λ (z : Bool). rule_found (cond z (reads (get_or (rule_numbers text) i 0)) (stops 35 0))) h

    -- For a text that is read, where the search gives 0, the answer is 35.
    pub rule_none : line ≡ 0 → RuleAtPromise text i (record { refusal = 35; line = 0 })
    rule_none z = go (length (rule_numbers text) - i) refl
      where
        go : (n : ℕ) → length (rule_numbers text) - i ≡ n → RuleAtPromise text i (record { refusal = 35; line = 0 })
        go zero y = sym (found false (le-ltb i (length (rule_numbers text)) (omega arith)))
        go (suc n) y = absurd (omega (arith, (positive 1 (lines_of text) i (omega arith)).0 (omega arith)))

    -- For a text that is read, the line that the search gives is the answer, unless it is 0.
    pub rule_there : (line ≡ 0 → ⊥) → RuleAtPromise text i (record { refusal = 0; line = line })
    rule_there z = go (length (rule_numbers text) - i) refl
      where
        go : (n : ℕ) → length (rule_numbers text) - i ≡ n → RuleAtPromise text i (record { refusal = 0; line = line })
        go zero y = absurd (z (k ∙ (positive 1 (lines_of text) i (omega arith)).1 (omega arith)))
        go (suc n) y = (λ j. record { refusal = 0; line = k j }) ∙ sym (found true (lt-ltb i (length (rule_numbers text)) (omega arith)))
