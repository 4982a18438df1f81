-- The rules of the lines, put aside one after another.
use Rattle.std.specs.Prelude.{◌≡◌, refl, Option, Some, None, Result, MatchResult, List, [], ◌∷◌, ◌++◌, ℕ, ◌+◌, ◌*◌, ◌≤◌, ◌<◌, length, drop}
use Rattle.std.proofs.Common.{ap, sym, subst, ◌∙◌, append-nil, arith}
use Rattle.policy.specs.Rules.{Rule}
use Rattle.policy.specs.Bytes.{rule_bytes, rules_bytes}
use Rattle.policy.specs.ReadBack.{rules_append}
use Rattle.texts.specs.Wrote.{Wrote}
use Rattle.texts.specs.WroteLaws.{wrote_none, wrote_then}
use Rattle.wording.specs.Words.{lines_of}
use Rattle.wording.specs.Reader.{Draft, empty, stops, reads, read_lines}
use Rattle.words.specs.Lex.{NextLine}
use Rattle.conditions.specs.declared.steps.Parsed.{Parsed}
use Rattle.compiling.specs.RuleLine.{rule_said}
use Rattle.compiling.specs.Line.{Took, StoppedBy, taken_rules, with_rule, rule_number}
use Rattle.compiling.specs.Lines.{Sofar, before_lines, lines_end, lines_stop, sofar_on}
use Rattle.compiling.specs.declared.line.Taken.{Taken}
use Rattle.compiling.specs.declared.lines.Said.{Said}
use Rattle.compiling.specs.declared.refused.LineRefusal.{LineRefusal}
use Rattle.declarations.specs.Table.{Fit}
use Rattle.declarations.specs.declared.table.Table.{Table}
use Rattle.refusals.specs.Refused.{number_of}

-- What a line adds.
abbrev pub taken_bytes : Taken → List ℕ
taken_bytes r = rules_bytes (with_rule [] r.table r.rule)

-- A line with a rule adds the bytes of that rule.
pub rule_alone : (x : Rule) → rules_bytes (x ∷ []) ≡ rule_bytes x
unfolding rules_bytes
rule_alone x = append-nil (rule_bytes x)

-- A line without a rule writes nothing.
pub no_rule : (before : List ℕ) (at : ℕ) → Wrote before at (rules_bytes []) at before
unfolding rules_bytes
no_rule before at = wrote_none before at

with-rule : (rules : List Rule) (t : Table) (rule : Option Parsed) → rules ++ with_rule [] t rule ≡ with_rule rules t rule
with-rule rules t None = append-nil rules
with-rule rules t (Some p) = refl

-- What the code has where all lines are read: the bytes of their rules are kept.
pub record Got (text before : List ℕ) (r : Said) (draft : List Rule → Draft) (after : List ℕ) : Type 0 where
  pub rules : List Rule
  pub lines : read_lines 1 empty (lines_of text) ≡ reads (draft rules)
  pub many : length rules ≡ r.count
  pub wrote : Wrote before 0 (rules_bytes rules) r.used after

-- What the code says of all lines, beside what they say.
abbrev pub Held : (text before : List ℕ) → Result Said LineRefusal → (draft : Table → List Rule → Draft) (after : List ℕ) → Type 0
Held text before r draft after =
    MatchResult r
    (λ s. Got text before s (draft s.table) after × Fit s.table × (s.count ≤ 256))
    (λ e. read_lines 1 empty (lines_of text) ≡ stops (number_of e.refusal) e.line)

-- Up to `at`, after `passed` lines, the bytes of `count` rules are kept.
pub record Keeping (text before : List ℕ) (draft : List Rule → Draft) (count passed at used : ℕ) (now : List ℕ) : Type 0 where
  pub rules : List Rule
  pub sofar : Sofar text draft rules count passed at
  pub wrote : Wrote before 0 (rules_bytes rules) used now
  pub few : used ≤ 23 * count

-- Before the first line no byte is kept.
pub keeping_start : (text before : List ℕ) (draft : List Rule → Draft) → draft [] ≡ empty → Keeping text before draft 0 0 0 0 before
unfolding rules_bytes
keeping_start text before draft e = record { rules = []; sofar = before_lines text draft e; wrote = wrote_none before 0; few = omega arith }

module _ {text before : List ℕ} {draft : List Rule → Draft} {count passed at used : ℕ} {now : List ℕ} (s : Keeping text before draft count passed at used now) where
  -- At the end of the text the bytes of all rules are kept.
  pub held_end : length text ≤ at → (r : Said) → r.count ≡ count → r.used ≡ used → Got text before r draft now
  held_end h r n u =
      record {
        rules = s.rules;
        lines = lines_end s.sofar h;
        many = s.sofar.many ∙ sym n;
        wrote = subst (λ (k : ℕ). Wrote before 0 (rules_bytes s.rules) k now) (sym u) s.wrote;
      }

  module _ {end : ℕ} (l : NextLine text at end) (h : at < length text) where
    -- A refused line ends it, with its refusal and its number, counted from 1.
    pub held_stops : (n : ℕ) → StoppedBy text draft end at count n → read_lines 1 empty (lines_of text) ≡ stops n (passed + 1)
    held_stops = lines_stop s.sofar l h

    module _ {r : Taken} {after : List Rule → Draft} (k : Took text draft end at count r after) where
      bytes_more : rules_bytes (taken_rules s.rules r) ≡ rules_bytes s.rules ++ taken_bytes r
      bytes_more = ap rules_bytes (sym (with-rule s.rules r.table r.rule)) ∙ rules_append s.rules (with_rule [] r.table r.rule)

      keeping_by : {rule : Option Parsed} → r.rule ≡ rule → {to : ℕ} → drop (end + 1) text ≡ drop to text → {q : ℕ} {then : List ℕ} →
          Wrote now used (rules_bytes (with_rule [] r.table rule)) q then → q ≤ used + 23 * rule_number rule →
          Keeping text before after (count + rule_number rule) (passed + 1) to q then
      keeping_by u e {q} {then} w m =
          let bytes = bytes_more ∙ ap (λ (o : Option Parsed). rules_bytes s.rules ++ rules_bytes (with_rule [] r.table o)) u in
          let on = sofar_on s.sofar l h k e in
          record {
            rules = taken_rules s.rules r;
            sofar = record { many = on.many ∙ ap (λ (o : Option Parsed). count + rule_number o) u; rest = on.rest };
            wrote = subst (λ (b : List ℕ). Wrote before 0 b q then) (sym bytes) (wrote_then (omega arith) s.wrote w);
            few = omega (arith, s.few);
          }

      -- A line that is not refused is read, and the bytes of its rule are written: the bytes of all rules up to the next line are kept.
      pub keeping_rule : {p : Parsed} → r.rule ≡ Some p → {to : ℕ} → drop (end + 1) text ≡ drop to text → {q : ℕ} {then : List ℕ} →
          Wrote now used (rule_bytes (rule_said r.table p)) q then → q ≤ used + 23 → Keeping text before after (count + 1) (passed + 1) to q then
      keeping_rule {p} u e w m = keeping_by u e (rw (rule_alone (rule_said r.table p)) w) m

      -- A line without a rule writes nothing.
      pub keeping_none : r.rule ≡ None → {to : ℕ} → drop (end + 1) text ≡ drop to text → Keeping text before after count (passed + 1) to used now
      keeping_none u e =
          let same : count + 0 ≡ count = omega arith in
          rw same at (keeping_by u e (no_rule now used) (omega arith))
