-- The writer's text is its pieces one after another.
-- In order: the lines of signals, clocks and locations; the line of a rule, its condition, target and resets; the `at` of a location; the whole
-- text, of a policy and of a file.
use Rattle.std.specs.Prelude.{◌≡◌, Bool, ◌||◌, ℕ, suc, ◌+◌, ◌^◌, ◌<◌, eqb, length, replicate}
use Rattle.std.proofs.Math.Path.{refl, ap, ap₂, sym}
use Rattle.std.proofs.Common.{◌∙◌, arith, length-append, ne_eqb}
use Rattle.std.proofs.Math.Bool.{true, false, cond}
use mathlib.Core.List.{List, [], ◌∷◌, ◌++◌, append_assoc}
use Rattle.std.proofs.Math.Option.{none, some}
use Rattle.policy.specs.Rules.{Rule, Policy}
use Rattle.policy.specs.File.{pairs_from, rules_from, clocks_at, clock_count, rules_start, rule_count, input_tags, output_tags, location_bytes, policy_of}
use Rattle.policy.specs.Check.{refusal_of}
use Rattle.policy.specs.Sound.{WellFormed, Each, each_none, each_more, each_weak}
use Rattle.policy.specs.Checked.{well_ruled, checked_file}
use Rattle.policy.specs.Frame.{pairs_length}
use Rattle.policy.specs.Parts.{rules_part}
use Rattle.texts.specs.Text.{ascii, decimal}
use Rattle.wording.specs.Words.{Word, Line, spaced_out, laid}
use Rattle.wording.specs.Names.{same, is, is_plain, name_of}
use Rattle.wording.specs.RuleBack.{Starts, starts_none, starts_plain, starts_conditions}
use Rattle.wording.specs.Writer.{clock_name, place_name, clock_lines, left_words, location_lines, signal_lines, signal_words, bound_words, or_any, target_word, reset_names, after_reset, at_lines}
use Rattle.wording.specs.Writer.{condition_words, rule_words, rule_lines, policy_lines, margin, text_of, text_of_file}
use Rattle.rule_text.specs.Trail.{trailing, trailing_both, spaced_trailing}
use Rattle.rule_text.specs.Pieces.{leading, spaced_leading, target_piece, clear_piece, clear-piece, condition_text, any_piece, any_other, condition_piece, rule_piece, at_piece, rule_text}
use Rattle.showing.specs.Declarations.{tag_text, clock_piece, clock_text, left_piece, place_text}

laid_none : laid margin [] ≡ []
unfolding laid
laid_none = refl

laid_both : (xs ys : List Line) → laid margin (xs ++ ys) ≡ laid margin xs ++ laid margin ys
unfolding laid
laid_both [] ys = refl
laid_both (x ∷ xs) ys = rw (laid_both xs ys) (sym (append_assoc (replicate (margin x) 32 ++ spaced_out x) (10 ∷ laid margin xs) (laid margin ys)))

tag_lines : (word : Word) → (is_plain word || is "any" word) ≡ false → (ts : List ℕ) → laid margin (signal_lines word ts) ≡ tag_text word ts
unfolding laid signal_lines tag_text spaced_out
tag_lines word h [] = refl
tag_lines word h (t ∷ ts) =
    rw (h, tag_lines word h ts) (append_assoc word (32 ∷ t ∷ []) (10 ∷ tag_text word ts) ∙ sym (append_assoc word (32 ∷ t ∷ 10 ∷ []) (tag_text word ts)))

between : (a c rest : List ℕ) → (a ++ (32 ∷ c)) ++ (10 ∷ rest) ≡ ((a ++ (32 ∷ [])) ++ (c ++ (10 ∷ []))) ++ rest
between a c rest = simp append_assoc

clock-line : (k c : ℕ) (rest : List ℕ) → spaced_out (ascii "clock" ∷ clock_name k ∷ decimal c ∷ []) ++ (10 ∷ rest) ≡ clock_piece k c ++ rest
unfolding spaced_out name_of
clock-line k c rest = ap (λ (z : List ℕ). ascii "clock t" ++ z) (between (decimal k) (decimal c) rest)

clock-lines : (k : ℕ) (cs : List ℕ) → laid margin (clock_lines k cs) ≡ clock_text k cs
unfolding laid clock_lines clock_text is_plain same
clock-lines k [] = refl
clock-lines k (c ∷ cs) = rw (clock-lines (suc k) cs) (clock-line k c (clock_text (suc k) cs))

place_line : (k : ℕ) (b : Bool) (rest : List ℕ) →
    (spaced_out (ascii "location" ∷ place_name k ∷ left_words b)) ++ (10 ∷ rest) ≡ ((ascii "location q" ++ decimal k) ++ left_piece b) ++ rest
unfolding spaced_out name_of
place_line k true rest = simp append_assoc
place_line k false rest = simp append_assoc

place_lines : (k : ℕ) (bs : List ℕ) → laid margin (location_lines k bs) ≡ place_text k bs
unfolding laid location_lines place_text is_plain same
place_lines k [] = refl
place_lines k (b ∷ bs) = rw (place_lines (suc k) bs) (place_line k (eqb b 1) (place_text (suc k) bs))

-- A rule.
rule_margin : (ws rest : Line) → Starts ws → margin (or_any ws ++ rest) ≡ 2
unfolding is_plain same
rule_margin [] rest starts_none = refl
rule_margin (w ∷ ws) rest (starts_plain h) = rw h

some_long : (w : Word) (xs : List ℕ) → length (w ++ (32 ∷ xs)) ≡ 0 → ⊥
some_long w xs e = omega (arith, length-append w (32 ∷ xs))

any_words : (ws : Line) → trailing (or_any ws) ≡ trailing ws ++ any_piece (trailing ws)
unfolding trailing
any_words [] = refl
any_words (w ∷ ws) = any_other (w ++ (32 ∷ trailing ws)) (some_long w (trailing ws))

target_words : (t : ℕ) (rest : Line) → leading (target_word t ∷ rest) ≡ (32 ∷ target_word t) ++ leading rest
unfolding leading
target_words t rest = refl

target-piece : (t : ℕ) → ascii "->" ++ (32 ∷ target_word t) ≡ target_piece t
unfolding target_word name_of
target-piece t = go (eqb t 255)
  where
    go : (b : Bool) → ascii "->" ++ (32 ∷ cond b (ascii "violation") (place_name t)) ≡ cond b (ascii "-> violation") (ascii "-> q" ++ decimal t)
    go true = refl
    go false = refl

module _ (p : Policy) where
  condition-text : (r : Rule) → trailing (condition_words p r) ≡ condition_text p.inputs p.outputs r
  unfolding condition_words
  condition-text r =
      let a = signal_words p.inputs r.in_care r.in_value in
      let b = signal_words p.outputs r.out_care r.out_value in
      let c = bound_words 0 r.bounds in
      trailing_both a (b ++ c) ∙ ap (λ (z : List ℕ). trailing a ++ z) (trailing_both b c) ∙ sym (append_assoc (trailing a) (trailing b) (trailing c))

  condition-piece : (r : Rule) → trailing (or_any (condition_words p r)) ≡ condition_piece p.inputs p.outputs r
  condition-piece r = any_words (condition_words p r) ∙ ap (λ (z : List ℕ). z ++ any_piece z) (condition-text r)

  rule-words : (r : Rule) → r.reset < 2 ^ length p.ceilings →
      spaced_out (rule_words p r) ≡ condition_piece p.inputs p.outputs r ++ (target_piece r.target ++ clear_piece (length p.ceilings) r.reset)
  unfolding rule_words
  rule-words r h =
      let after = after_reset (reset_names 0 (length p.ceilings) r.reset) in
      spaced_trailing (or_any (condition_words p r)) (ascii "->") (target_word r.target ∷ after)
      ∙ ap₂ {C = List ℕ} ◌++◌ (condition-piece r)
      (spaced_leading (ascii "->") (target_word r.target ∷ after)
      ∙ ap (λ (z : List ℕ). ascii "->" ++ z) (target_words r.target after)
      ∙ sym (append_assoc (ascii "->") (32 ∷ target_word r.target) (leading after))
      ∙ ap₂ {C = List ℕ} ◌++◌ (target-piece r.target) (clear-piece (length p.ceilings) r.reset h))

  rule_margin_is : (r : Rule) → margin (rule_words p r) ≡ 2
  unfolding rule_words
  rule_margin_is r = rule_margin (condition_words p r) _ (starts_conditions p r)

  rule-line : (r : Rule) (rest : List Line) → r.reset < 2 ^ length p.ceilings →
      laid margin (rule_words p r ∷ rest) ≡ rule_piece p.inputs p.outputs (length p.ceilings) r ++ laid margin rest
  unfolding laid
  rule-line r rest h = rw (rule_margin_is r, rule-words r h) (simp append_assoc)

  at-lines : (before source : ℕ) → laid margin (at_lines (eqb before source) source) ≡ at_piece before source
  unfolding laid spaced_out is_plain same name_of
  at-lines before source = go (eqb before source)
    where
      go : (t : Bool) → laid margin (at_lines t source) ≡ cond t [] (ascii "\nat q" ++ decimal source ++ ascii "\n")
      go true = refl
      go false = refl

  rule-lines : (before : ℕ) {rs : List Rule} → Each (λ r. r.reset < 2 ^ length p.ceilings) rs →
      laid margin (rule_lines p (some before) rs) ≡ rule_text p.inputs p.outputs (length p.ceilings) before rs
  unfolding rule_lines rule_text
  rule-lines before each_none = laid_none
  rule-lines before (each_more {r = r} {rs = rs} h hs) =
      laid_both (at_lines (eqb before r.source) r.source) _
      ∙ ap₂ {C = List ℕ} ◌++◌ (at-lines before r.source) (rule-line r _ h ∙ ap (λ (z : List ℕ). rule_piece p.inputs p.outputs (length p.ceilings) r ++ z) (rule-lines r.source hs))
      ∙ sym (append_assoc (at_piece before r.source) (rule_piece p.inputs p.outputs (length p.ceilings) r) _)

  -- No location has the number 255, so the first rule gets its `at`.
  rules_first : {rs : List Rule} → Each (λ r. r.source < 64) rs → rule_lines p none rs ≡ rule_lines p (some 255) rs
  unfolding rule_lines
  rules_first each_none = refl
  rules_first (each_more {r = r} h hs) = rw (ne_eqb 255 r.source (λ e. omega arith))

-- The whole text.
abbrev pub lines_text : (inputs outputs ceilings left : List ℕ) (clocks : ℕ) → List Rule → List ℕ
lines_text inputs outputs ceilings left clocks rules =
    tag_text (ascii "input") inputs ++ tag_text (ascii "output") outputs ++ clock_text 0 ceilings ++ place_text 0 left ++ rule_text inputs outputs clocks 255 rules

-- Five parts, grouped from the right and from the left.
pub five : (a b c d e : List ℕ) → a ++ (b ++ (c ++ (d ++ e))) ≡ a ++ b ++ c ++ d ++ e
five a b c d e = simp append_assoc

input_lines : (ts : List ℕ) → laid margin (signal_lines (ascii "input") ts) ≡ tag_text (ascii "input") ts
unfolding is_plain same
input_lines ts = tag_lines (ascii "input") refl ts

output_lines : (ts : List ℕ) → laid margin (signal_lines (ascii "output") ts) ≡ tag_text (ascii "output") ts
unfolding is_plain same
output_lines ts = tag_lines (ascii "output") refl ts

-- The text of a checked policy is its signals, clocks, locations and rules, one after another.
pub text_pieces : (p : Policy) → WellFormed p → text_of p ≡ lines_text p.inputs p.outputs p.ceilings p.left (length p.ceilings) p.rules
unfolding text_of policy_lines
text_pieces p w =
    let resets = each_weak (λ r g. g.formed.reset) (well_ruled p w) in
    let sources : Each (λ r. r.source < 64) p.rules = each_weak (λ r g. omega (arith, g.source, w.locations)) (well_ruled p w) in
    let rules = ap (laid margin) (rules_first p sources) ∙ rule-lines p 255 resets in
    laid_both (signal_lines (ascii "input") p.inputs) _
    ∙ ap₂ {C = List ℕ} ◌++◌ (input_lines p.inputs)
    (laid_both (signal_lines (ascii "output") p.outputs) _
    ∙ ap₂ {C = List ℕ} ◌++◌ (output_lines p.outputs)
    (laid_both (clock_lines 0 p.ceilings) _
    ∙ ap₂ {C = List ℕ} ◌++◌ (clock-lines 0 p.ceilings)
    (laid_both (location_lines 0 p.left) _ ∙ ap₂ {C = List ℕ} ◌++◌ (place_lines 0 p.left) rules)))
    ∙ five (tag_text (ascii "input") p.inputs) (tag_text (ascii "output") p.outputs) (clock_text 0 p.ceilings) (place_text 0 p.left) _

-- Of a file that passes its check, by its parts.
pub file_pieces : (f : List ℕ) → refusal_of f ≡ 0 →
    text_of_file f ≡ lines_text (input_tags f) (output_tags f) (pairs_from f (clocks_at f + 1) (clock_count f)) (location_bytes f) (clock_count f) (rules_from (clock_count f) f (rules_start f) (rule_count f))
unfolding policy_of
file_pieces f h =
    let clocks = pairs_length f (clocks_at f + 1) (clock_count f) in
    let rules = rules_part f (clock_count f) (rules_start f) (rule_count f) in
    text_pieces (policy_of 1 f) (checked_file 1 f h)
    ∙ ap₂ (λ (n : ℕ) (rs : List Rule). lines_text (input_tags f) (output_tags f) (pairs_from f (clocks_at f + 1) (clock_count f)) (location_bytes f) n rs) clocks rules
