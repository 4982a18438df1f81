-- The rules of the file that a text gives are those of its rule lines, in order.
-- In order: which lines add a rule; what it means that a line says a rule; the lines from any one on; the i-th rule and its line.
use Rattle.std.specs.Prelude.{◌≡◌, Bool, true, false, cond, ℕ, zero, suc, ◌+◌, ◌-◌, ◌<◌, leb, get_or, take}
use Rattle.std.proofs.Math.Path.{refl, ap, sym}
use Rattle.std.proofs.Common.{◌∙◌, arith, length-append}
use Rattle.std.proofs.lemmas.Bool.{false≢true}
use mathlib.Core.List.{List, [], ◌∷◌, ◌++◌, append_assoc, append-nil}
use Rattle.std.proofs.Math.ListN.{length}
use Rattle.std.proofs.Math.Seq.{take-append_seam, get_or-append_seam}
use Rattle.streams.specs.Answer.{Answer, refused, gives}
use Rattle.policy.specs.Rules.{Rule, Policy}
use Rattle.policy.specs.File.{policy_of}
use Rattle.wording.specs.Words.{Line, lines_of}
use Rattle.wording.specs.Names.{is}
use Rattle.wording.specs.Kept.{Keeps, goes_on, kept, keeps_weak, keeps_must, keeps_if}
use Rattle.wording.specs.Good.{keeps_signals}
use Rattle.wording.specs.Given.{read_said, said_policy}
use Rattle.wording.specs.RuleLines.{is_rule, rules_among, rule_numbers}
use Rattle.wording.specs.Others.{rule-by, clock_aside, location_aside, at_aside, rule_adds}
use Rattle.wording.specs.Reader.{Draft, empty, with_input, with_output, input_line, output_line, add_rule, read_line, reads, proceed, read_lines, policy_from, file_from_text}

-- Which lines add a rule to the draft d.
module _ (d : Draft) where
  -- After a line that is no rule the draft has the rules that it had.
  pub none_added : (l : Line) → is_rule l ≡ false → Keeps (λ e. e.rules ≡ d.rules) (read_line d l)
  unfolding is_rule read_line input_line output_line
  none_added [] h = goes_on refl
  none_added (w ∷ ws) h =
      keeps_if (is "input" w) _ _
      (λ x. keeps_must (leb d.stage 1) 30 _ (λ s. keeps_signals d (length d.inputs) (with_input d) ws (λ t n k c f r. refl)))
      (λ a. keeps_if (is "output" w) _ _
      (λ x. keeps_must (leb d.stage 2) 30 _ (λ s. keeps_signals d (length d.outputs) (with_output d) ws (λ t n k c f r. refl)))
      (λ b. keeps_if (is "clock" w) _ _ (λ x. keeps_weak (λ e k. k.rules) (clock_aside d ws))
      (λ c. keeps_if (is "location" w) _ _ (λ x. keeps_weak (λ e k. k.rules) (location_aside d ws))
      (λ f. keeps_if (is "at" w) _ _ (λ x. keeps_weak (λ e k. k.rules) (at_aside d ws))
      (λ g. absurd (false≢true (sym h ∙ rw (a, b, c, f, g))))))))

  -- The line of a rule, if it is read, adds one rule.
  pub one_added : (l : Line) → is_rule l ≡ true → Keeps (λ e. (r : Rule) × (e ≡ add_rule d r)) (read_line d l)
  unfolding is_rule
  one_added [] h = absurd (false≢true h)
  one_added (w ∷ ws) h = rw (rule-by d w ws h) (rule_adds d (w ∷ ws) d.source)

  -- The rule that is added is the last.
  pub added : (r : Rule) → (add_rule d r).rules ≡ d.rules ++ (r ∷ [])
  unfolding add_rule
  added r = refl

-- Line `line` of the lines says the rule r, which is the i-th: the lines before it say a draft with i rules, and to this draft the line adds r.
pub record SaysRule (ls : List Line) (i line : ℕ) (r : Rule) : Type 0 where
  pub before : Draft
  pub so_far : read_lines 1 empty (take (line - 1) ls) ≡ reads before
  pub count : length before.rules ≡ i
  pub adds : read_line before (get_or ls (line - 1) []) ≡ gives (add_rule before r)

-- Lines with these numbers say these rules, one after another, from the i-th on.
pub data SayRules (ls : List Line) : ℕ → List ℕ → List Rule → Type 0 where
  say_none : {i : ℕ} → SayRules ls i [] []
  say_more : {i n : ℕ} {ns : List ℕ} {r : Rule} {rs : List Rule} → SaysRule ls i n r → SayRules ls (suc i) ns rs → SayRules ls i (n ∷ ns) (r ∷ rs)

-- A line more.
read_on : (line : ℕ) (s d e : Draft) (xs : List Line) (l : Line) → read_lines line s xs ≡ reads d → read_line d l ≡ gives e → read_lines line s (xs ++ (l ∷ [])) ≡ reads e
unfolding read_lines
read_on line s d e [] l h k = let same : s ≡ d = cc in rw (same, k)
read_on line s d e (x ∷ xs) l h k = at (read_line s x) h (λ t g. read_on (suc line) t d e xs l g k)
  where
    at : (a : Answer Draft) → proceed line a (λ t. read_lines (suc line) t xs) ≡ reads d →
        ((t : Draft) → read_lines (suc line) t xs ≡ reads d → read_lines (suc line) t (xs ++ (l ∷ [])) ≡ reads e) →
        proceed line a (λ t. read_lines (suc line) t (xs ++ (l ∷ []))) ≡ reads e
    at (refused n) g rest = absurd (let z : ◌≡◌ {A = ℕ} 0 1 = cc in omega arith)
    at (gives t) g rest = rest t g

-- From any line on.
module _ (ls : List Line) where
  says : (before : List Line) (l : Line) (rest : List Line) → ls ≡ before ++ (l ∷ rest) → (d : Draft) → read_lines 1 empty before ≡ reads d → (r : Rule) →
      read_line d l ≡ gives (add_rule d r) → SaysRule ls (length d.rules) (1 + length before) r
  says before l rest e d h r k =
      let back : 1 + length before - 1 ≡ length before = omega arith in
      record {
        before = d;
        so_far = rw (back, e, take-append_seam before (l ∷ rest)) h;
        count = refl;
        adds = rw (back, e, get_or-append_seam before l rest []) k;
      }

  -- The rules that some lines add to a draft.
  abbrev Adds : (d e : Draft) → ℕ → List Line → Type 0
  Adds d e line rest = (rs : List Rule) × (e.rules ≡ d.rules ++ rs) × SayRules ls (length d.rules) (rules_among line rest) rs

  from_here : (before rest : List Line) → ls ≡ before ++ rest → (d e : Draft) → read_lines 1 empty before ≡ reads d → read_lines (1 + length before) d rest ≡ reads e →
      Adds d e (1 + length before) rest
  unfolding read_lines rules_among
  from_here before [] eq d e h k = let s : d ≡ e = cc in ([], ap (λ (x : Draft). x.rules) (sym s) ∙ sym (append-nil d.rules), say_none)
  from_here before (l ∷ rest) eq d e h k =
      at (is_rule l) refl (read_line d l) refl k (λ f. from_here (before ++ (l ∷ [])) rest (eq ∙ sym (append_assoc before (l ∷ []) rest)) f e)
    where
      Rest : Type 0
      Rest = (f : Draft) → read_lines 1 empty (before ++ (l ∷ [])) ≡ reads f → read_lines (1 + length (before ++ (l ∷ []))) f rest ≡ reads e →
          Adds f e (1 + length (before ++ (l ∷ []))) rest

      next : (f : Draft) → read_line d l ≡ gives f → read_lines (suc (1 + length before)) f rest ≡ reads e → Rest → Adds f e (suc (1 + length before)) rest
      next f g k on =
          let long : 1 + length (before ++ (l ∷ [])) ≡ suc (1 + length before) = simp length-append (omega arith) in
          rw long at (on f (read_on 1 empty d f before l h g) (rw long k))

      at : (t : Bool) → is_rule l ≡ t → (a : Answer Draft) → read_line d l ≡ a →
          proceed (1 + length before) a (λ f. read_lines (suc (1 + length before)) f rest) ≡ reads e → Rest →
          (rs : List Rule) × (e.rules ≡ d.rules ++ rs)
          × SayRules ls (length d.rules) (cond t ((1 + length before) ∷ rules_among (suc (1 + length before)) rest) (rules_among (suc (1 + length before)) rest)) rs
      at t s (refused n) g k go = absurd (let z : ◌≡◌ {A = ℕ} 0 1 = cc in omega arith)
      at true s (gives f) g k go =
          let one = kept (rw g at (one_added d l s)) in
          let r = one.0 in
          let same : f ≡ add_rule d r = one.1 in
          let on = next f g k go in
          let rules : f.rules ≡ d.rules ++ (r ∷ []) = ap (λ (x : Draft). x.rules) same ∙ added d r in
          let count : length f.rules ≡ suc (length d.rules) = ap length rules ∙ simp length-append (omega arith) in (
            r ∷ on.0,
            on.1 ∙ ap (λ (z : List Rule). z ++ on.0) rules ∙ append_assoc d.rules (r ∷ []) on.0,
            say_more (says before l rest eq d h r (g ∙ ap gives same)) (rw count at on.2),
          )
      at false s (gives f) g k go =
          let same : f.rules ≡ d.rules = kept (rw g at (none_added d l s)) in
          let on = next f g k go in
          let count : length f.rules ≡ length d.rules = ap length same in
          (on.0, on.1 ∙ ap (λ (z : List Rule). z ++ on.0) same, rw count at on.2)

-- There are as many rules as lines that say them.
same_length : {ls : List Line} {i : ℕ} {ns : List ℕ} {rs : List Rule} → SayRules ls i ns rs → length rs ≡ length ns
same_length say_none = refl
same_length (say_more s ss) = ap suc (same_length ss)

module _ (ls : List Line) (none : Rule) where
  step : (i n : ℕ) (ns : List ℕ) (r : Rule) (rs : List Rule) → SaysRule ls i n r →
      ((j : ℕ) → j < length rs → SaysRule ls (suc i + j) (get_or ns j 0) (get_or rs j none)) → (k : ℕ) → k < suc (length rs) →
      SaysRule ls (i + k) (get_or (n ∷ ns) k 0) (get_or (r ∷ rs) k none)
  step i n ns r rs s rest zero h = let e : i + 0 ≡ i = omega arith in rw e s
  step i n ns r rs s rest (suc k) h = let e : i + suc k ≡ suc i + k = omega arith in rw e (rest k (omega arith))

  nth : {i : ℕ} {ns : List ℕ} {rs : List Rule} → SayRules ls i ns rs → (k : ℕ) → k < length rs → SaysRule ls (i + k) (get_or ns k 0) (get_or rs k none)
  nth say_none k h = absurd (omega arith)
  nth (say_more {i = i} {n = n} {ns = ns} {r = r} {rs = rs} s ss) k h = step i n ns r rs s (nth ss) k h

module _ (text f : List ℕ) (h : file_from_text text ≡ reads f) where
  say_all : SayRules (lines_of text) 0 (rule_numbers text) (policy_of 1 f).rules
  unfolding policy_from read_lines
  say_all =
      let s = read_said text f h in
      let d = s.draft in
      let all = from_here (lines_of text) [] (lines_of text) refl empty d start s.lines in
      let same : (policy_of 1 f).rules ≡ d.rules = ap (λ (p : Policy). p.rules) (said_policy s) in
      rw (same, all.1) all.2
    where
      start : read_lines 1 empty [] ≡ reads empty
      start = refl

  -- The file has as many rules as the text has lines of rules.
  pub rules_counted : length (policy_of 1 f).rules ≡ length (rule_numbers text)
  rules_counted = same_length say_all

  -- The rule number i, from 0, stands in the i-th of them.
  pub rule_stands : (none : Rule) (i : ℕ) → i < length (policy_of 1 f).rules → SaysRule (lines_of text) i (get_or (rule_numbers text) i 0) (get_or (policy_of 1 f).rules i none)
  rule_stands none i l = let e : 0 + i ≡ i = omega arith in rw e at (nth (lines_of text) none say_all i l)
