-- A rule's line, by what the code has of the lines before it.
use Rattle.std.specs.Prelude.{◌≡◌, refl, Result, Ok, Err, Bool, true, false, List, [], ◌∷◌, ◌++◌, ℕ, ◌≤◌, ◌<◌, ltb, length, take}
use Rattle.std.proofs.Math.Path.{ap, sym}
use Rattle.std.proofs.Common.{◌∙◌, arith, length-take-le, ltb-true}
use Rattle.streams.specs.Answer.{Answer, refused, gives, answer, unless, ◌or_else◌}
use Rattle.refusals.specs.Refused.{number_of}
use Rattle.refusals.specs.Laws.{refused_answer}
use Rattle.refusals.specs.declared.Refusal.{Refusal}
use Rattle.policy.specs.Rules.{Rule}
use Rattle.policy.specs.Check.{bounds_good}
use Rattle.wording.specs.Words.{Line}
use Rattle.wording.specs.Names.{◌and_then◌, must, through}
use Rattle.wording.specs.Reader.{Draft, Begun, scope, bare, rule_word, ends as may_end, rule_of, add_rule, rule_line}
use Rattle.words.specs.Spans.{spans, place_below}
use Rattle.conditions.specs.Steps.{bounds_of, begun_of, parse_said, part_of}
use Rattle.conditions.specs.Conditions.{scope_of}
use Rattle.conditions.specs.declared.steps.Parsed.{Parsed}
use Rattle.phrases.specs.Ended.{rule_by, rule-by}
use Rattle.declarations.specs.Table.{draft_of, at_place, Fit, source_some, source_none}
use Rattle.declarations.specs.Fresh.{spans_long}
use Rattle.declarations.specs.SignalLine.{tags_whole, inputs_long}
use Rattle.declarations.specs.declared.table.Table.{Table}

-- The rule that a line's words have said.
abbrev pub rule_said : Table → Parsed → Rule
rule_said t p = rule_by t.inputs t.source (begun_of t.clocks p)

-- What the lines have said with it.
abbrev pub ruled : (text starts lengths left : List ℕ) → Table → List Rule → Parsed → Draft
ruled text starts lengths left t rules p = draft_of text starts lengths left (at_place t t.source) (rules ++ (rule_said t p ∷ []))

-- What the lines have said with a rule's line, or its refusal.
abbrev pub ruled_said : (text starts lengths left : List ℕ) → Table → List Rule → Result Parsed Refusal → Answer Draft
ruled_said text starts lengths left t rules (Ok p) = gives (ruled text starts lengths left t rules p)
ruled_said text starts lengths left t rules (Err e) = refused (number_of e)

module _ (text starts lengths left : List ℕ) {t : Table} (f : Fit t) (rules : List Rule) where
  abbrev d : Draft
  d = draft_of text starts lengths left t rules

  -- What the code looks up a rule's words in is what the rules of the draft may name.
  pub scope_is : {tags' : List ℕ} → tags' ≡ take t.signals t.tags → scope_of text tags' starts lengths t.clocks t.places ≡ scope d
  scope_is e =
      let long : length (take t.signals t.tags) ≡ t.signals = length-take-le t.signals t.tags (omega (arith, f.tags_long, f.outputs, f.inputs)) in
      let size = ap length e ∙ long in
      let letters = e ∙ sym (tags_whole text starts lengths left f rules) in
      (λ i. record { letters = letters i; names = spans text starts lengths 0 (size i); clocks = d.clocks; places = d.places })

  clocks_long : length d.clocks ≡ t.clocks
  clocks_long = spans_long text starts lengths 8 t.clocks

  rule_is : (b : Begun) → rule_by t.inputs t.source b ≡ rule_of d t.source b
  rule_is b = ap (λ (n : ℕ). rule_by n t.source b) (sym (inputs_long f)) ∙ rule-by d t.source b

  added : (p : Parsed) → add_rule d (rule_of d t.source (begun_of t.clocks p)) ≡ ruled text starts lengths left t rules p
  unfolding add_rule
  added p = ap (λ (r : Rule). draft_of text starts lengths left (at_place t t.source) (rules ++ (r ∷ []))) (sym (rule_is (begun_of t.clocks p)))

  -- A rule before any `at` is refused by 30.
  pub rule_nowhere : (l : Line) → 64 ≤ t.source → refused 30 ≡ rule_line d l (place_below 64 t.source)
  unfolding rule_line
  rule_nowhere l h = sym (ap (rule_line d l) (source_none t.source h))

  module _ (l : Line) (h : t.source < 64) where
    -- What is done once the words are read.
    abbrev after : Begun → Answer Draft
    after b =
        must (may_end b b.part) 30 (must (bounds_good d.ceilings b.bounds) 7
        (must (ltb (length rules) 256) 33 (gives (add_rule d (rule_of d t.source b)))))

    line_is : (a : Answer Begun) → a ≡ through (rule_word (scope d)) (bare t.clocks) l → rule_line d l (place_below 64 t.source) ≡ a and_then after
    unfolding rule_line
    line_is a said =
        ap (rule_line d l) (source_some t.source h)
        ∙ ap (λ (b : Answer Begun). b and_then after) ((λ i. through (rule_word (scope d)) (bare (clocks_long i)) l) ∙ sym said)

    -- A refusal of one of the words is that of the line.
    pub rule_refused : (n : ℕ) → refused n ≡ through (rule_word (scope d)) (bare t.clocks) l → refused n ≡ rule_line d l (place_below 64 t.source)
    rule_refused n said = sym (line_is (refused n) said)

    tests : (p q r : Bool) (x : Draft) → answer (unless p 30 or_else (unless q 7 or_else unless r 33)) x ≡ must p 30 (must q 7 (must r 33 (gives x)))
    tests true true true x = refl
    tests true true false x = refl
    tests true false r x = refl
    tests false q r x = refl

    -- With all words taken: 30 for a rule cut short, 7 for bad bounds, 33 after 256 rules, and else the rule is added.
    pub rule_tested : (p : Parsed) → parse_said t.clocks (Ok p) ≡ through (rule_word (scope d)) (bare t.clocks) l → {q count : ℕ} → length rules ≡ count →
        q ≡ (unless (may_end (begun_of t.clocks p) (part_of p.part p.clock)) 30
        or_else (unless (bounds_good (take t.clocks t.ceilings) (bounds_of t.clocks p.low p.high)) 7 or_else unless (ltb count 256) 33)) →
        answer q (ruled text starts lengths left t rules p) ≡ rule_line d l (place_below 64 t.source)
    rule_tested p said {q} {count} long e =
        let b = begun_of t.clocks p in
        ap (λ (n : ℕ). answer n (ruled text starts lengths left t rules p)) (e ∙ ap (λ (n : ℕ). unless (may_end b b.part) 30 or_else (unless (bounds_good d.ceilings b.bounds) 7 or_else unless (ltb n 256) 33)) (sym long))
        ∙ tests (may_end b b.part) (bounds_good d.ceilings b.bounds) (ltb (length rules) 256) (ruled text starts lengths left t rules p)
        ∙ ap (λ (x : Draft). must (may_end b b.part) 30 (must (bounds_good d.ceilings b.bounds) 7 (must (ltb (length rules) 256) 33 (gives x)))) (sym (added p))
        ∙ sym (line_is (gives b) said)

    -- A refusal of these is that of the line.
    pub rule_ended : (p : Parsed) → parse_said t.clocks (Ok p) ≡ through (rule_word (scope d)) (bare t.clocks) l → (e : Refusal) → {count : ℕ} → length rules ≡ count →
        number_of e ≡ (unless (may_end (begun_of t.clocks p) (part_of p.part p.clock)) 30
        or_else (unless (bounds_good (take t.clocks t.ceilings) (bounds_of t.clocks p.low p.high)) 7 or_else unless (ltb count 256) 33)) →
        refused (number_of e) ≡ rule_line d l (place_below 64 t.source)
    rule_ended p said e long k = sym (refused_answer e (ruled text starts lengths left t rules p)) ∙ rule_tested p said long k

-- A rule that is taken is one of the first 256.
pub room_left : (p s : Bool) (count : ℕ) → (unless p 30 or_else (unless s 7 or_else unless (ltb count 256) 33)) ≡ 0 → count < 256
room_left true true count e = go (ltb count 256) refl e
  where
    go : (t : Bool) → ltb count 256 ≡ t → unless t 33 ≡ 0 → count < 256
    go true h z = ltb-true count 256 h
    go false h z = absurd (omega arith)
room_left true false count e = absurd (omega arith)
room_left false s count e = absurd (omega arith)
