-- `sentences::lines::put_reason` meets its contract, by the kind of the reason.
use mathlib.Core.Path.{◌≡◌, ap, subst}
use mathlib.Core.List.{List}
use Prim.Native.Nat.{ℕ, ◌+◌, ◌≤◌}
use native.Mathlib.Omega.{arith}
use lib.ListN.{length, length-append}
use borrow.Author.Rules.{rules}
use Rattle.policy.specs.File.{rule_count, policy_of}
use Rattle.texts.specs.WroteLaws.{wrote_none}
use Rattle.explaining.specs.CodeReasons.{reason_said}
use Rattle.explaining.specs.declared.reason.Reason.{Reason}
use Rattle.sentences.specs.Text.{rule_words, ticks_words, rests_words, Named, reason_line}
use Rattle.sentences.specs.Named.{line_short}
use Rattle.sentences.proofs.lines.put_reason.Statement.{statement}
use Rattle.sentences.proofs.lines.put_reason.Tie as tie

-- Earlier places in the code.
abbrev start : tie.In-Ticks → tie.Start
start c = c.before.before.before.before.before

abbrev line : tie.Start → Reason → List ℕ
line s q = reason_line (policy_of s.args.layout.reading s.args.file.now) s.args.broken.now s.args.half.now (reason_said q)

-- There is room for the line.
room : (s : tie.Start) {q : Reason} → s.args.reason ≡ q → s.args.at + length (line s q) ≤ length s.args.text.now
room s e =
    subst (λ (z : Reason). s.args.at + length (line s z) ≤ length s.args.text.now) e
    (omega (arith, line_short s.requires.0.0 s.args.broken.now s.args.half.now (reason_said s.args.reason) s.requires.0.1 s.requires.0.2 s.requires.1.0))

put-rule-requires : tie.Need-put_rule-requires
put-rule-requires c κs =
    let k = c.in-Rule in
    let a = c.args in (
      (c.requires.0.0, subst (λ (z : Reason). Named (rule_count a.file.now) (reason_said z)) k.is c.requires.0.1),
      omega (arith, room c.before.before.before.before.before.before k.is, length-append a.broken.now (rule_words (policy_of a.layout.reading a.file.now) k.i)),
    )

put-most-requires : tie.Need-put_most-requires
put-most-requires c κs =
    let k = c.in-Ticks in
    let s = start c.before.before.before.before.before in
    omega (arith, room s k.is, length-append s.args.half.now (ticks_words k.k))

put-rests-requires : tie.Need-put_rests-requires
put-rests-requires c κs =
    let k = c.in-Rests in
    omega (arith, room c.before.before.before.before.before.before k.is, length-append c.args.half.now (rests_words k.k))

returns : tie.Need-returns-in-Kept
returns c = rw (ap (line c.before.before.before.before.before) c.in-Kept.is) (wrote_none _ _)

returns-2 : tie.Need-returns-in-Rule
returns-2 c = rw (ap (line c.before.before.before.before.before.before.before.before.before) c.in-Rule.is) c.put_rule.ensures

returns-3 : tie.Need-returns-in-Unmatched
returns-3 c = rw (ap (line c.before.before.before.before.before.before.before.before.before.before.before) c.in-Unmatched.is) c.put_plain.ensures

returns-4 : tie.Need-returns-in-Ticks
returns-4 c =
    rw (ap (line (start c.before.before.before.before.before.before.before.before)) c.in-Ticks.is) c.put_most.ensures

returns-5 : tie.Need-returns-in-Rests
returns-5 c = rw (ap (line c.before.before.before.before.before.before.before.before.before) c.in-Rests.is) c.put_rests.ensures

pub put_reason_spec : {M : Type 1} → statement M
put_reason_spec = tie.close (tie.spec (λ c. search rules) (λ c. search rules) put-rule-requires (λ c. search rules) (λ c κs. search rules) (λ c. search rules) put-most-requires (λ c. search rules) put-rests-requires returns (λ c. search rules) returns-2 (λ c. search rules) returns-3 (λ c. search rules) returns-4 (λ c. search rules) returns-5)
